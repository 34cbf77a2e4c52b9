-- The tally (the paper's term): seen, kept, dropped and refused, 32 bits each.
use Rattle.std.specs.Prelude.{ℕ, ◌+◌, ◌≡◌, Bool, true, false, eqb, Option, Some, None}
use Rattle.octets.specs.Choice.{pick}
use Rattle.judge.specs.declared.Tally.{Tally}

-- a count that can't grow
abbrev pub full_count : ℕ
full_count = 4294967295

-- any count of it is full
pub data Full (t : Tally) : Type 0 where
  seen : t.seen ≡ full_count → Full t
  kept : t.kept ≡ full_count → Full t
  dropped : t.dropped ≡ full_count → Full t
  refused : t.refused ≡ full_count → Full t

-- judging with a tally that is full; without one, never
pub data FullTally : Option Tally → Type 0 where
  full : {t : Tally} → Full t → FullTally (Some t)

abbrev pub tally : ℕ → ℕ → ℕ → ℕ → Tally
tally s k d r = record { seen = s; kept = k; dropped = d; refused = r }

-- one more seen, and one more kept, dropped or refused
abbrev pub one_kept : Tally → Tally
one_kept t = tally (t.seen + 1) (t.kept + 1) t.dropped t.refused

abbrev pub one_dropped : Tally → Tally
one_dropped t = tally (t.seen + 1) t.kept (t.dropped + 1) t.refused

abbrev pub one_refused : Tally → Tally
one_refused t = tally (t.seen + 1) t.kept t.dropped (t.refused + 1)

-- ---- what the code computes

unfoldable pub is_full : Tally → Bool
is_full t =
    pick (eqb t.seen full_count) true
    (pick (eqb t.kept full_count) true
    (pick (eqb t.dropped full_count) true (eqb t.refused full_count)))

abbrev pub is_full_tally : Option Tally → Bool
is_full_tally None = false
is_full_tally (Some t) = is_full t
