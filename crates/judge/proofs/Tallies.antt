-- Tallies that are full: `is_full` decides `Full`, and `is_full_tally` decides `FullTally`. Assumes nothing.
use mathlib.Core.Path.{◌≡◌}
use mathlib.Core.Bool.{true}
use Rattle.std.specs.Prelude.{Option, Some, None}
use lib.Dec.{eqb}
use borrow.Author.Tests.{eqb-true, eq-eqb}
use Rattle.octets.proofs.Choices.{never, either, second}
use Rattle.judge.specs.declared.Tally.{Tally}
use Rattle.judge.specs.Tallies.{full_count, Full, seen, kept, dropped, refused, FullTally, full, is_full, is_full_tally}

-- a tally that is found full has a count that is
pub full_sound : (t : Tally) → is_full t ≡ true → Full t
unfolding is_full
full_sound t e =
    either (eqb t.seen full_count) _ e (λ h. seen (eqb-true _ _ h))
    (λ e. either (eqb t.kept full_count) _ e (λ h. kept (eqb-true _ _ h))
    (λ e. either (eqb t.dropped full_count) _ e (λ h. dropped (eqb-true _ _ h))
    (λ h. refused (eqb-true _ _ h))))

-- no full tally is missed
pub full_complete : {t : Tally} → Full t → is_full t ≡ true
unfolding is_full
full_complete (seen h) = rw (eq-eqb _ _ h)
full_complete {t} (kept h) = second (eqb t.seen full_count) (rw (eq-eqb _ _ h))
full_complete {t} (dropped h) = second (eqb t.seen full_count) (second (eqb t.kept full_count) (rw (eq-eqb _ _ h)))
full_complete {t} (refused h) =
    second (eqb t.seen full_count) (second (eqb t.kept full_count) (second (eqb t.dropped full_count) (eq-eqb _ _ h)))

-- a tally that is found full is one, and judging without one never is
pub tally_sound : (counting : Option Tally) → is_full_tally counting ≡ true → FullTally counting
tally_sound None e = never e
tally_sound (Some t) e = full (full_sound t e)

-- no full tally is missed, where there may be none
pub tally_complete : {counting : Option Tally} → FullTally counting → is_full_tally counting ≡ true
tally_complete (full f) = full_complete f
