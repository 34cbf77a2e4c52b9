-- Judging asks of a tally only whether it is full. Assumes nothing.
use Prim.Native.Nat.{ℕ}
use mathlib.Core.Path.{◌≡◌}
use mathlib.Core.Bool.{false}
use Rattle.std.specs.Prelude.{Option}
use mathlib.Core.List.{List}
use Rattle.message.proofs.Deciding.{decides_not}
use Rattle.judge.specs.declared.Tally.{Tally}
use Rattle.judge.specs.Tallies.{FullTally, is_full_tally}
use Rattle.judge.specs.Judging.{judge_of}
use Rattle.judge.proofs.Tallies.{tally_sound, tally_complete}

-- a tally that isn't full is found not to be
not_full : {counting : Option Tally} → (FullTally counting → ⊥) → is_full_tally counting ≡ false
not_full {counting} n = decides_not (record { sound = tally_sound counting; complete = tally_complete }) n

-- two tallies of which neither is full, or none, have the same outcome
pub judged_alike : {a b : Option Tally} → (FullTally a → ⊥) → (FullTally b → ⊥) → (program bytes : List ℕ) (room : ℕ)
    → judge_of program bytes room a ≡ judge_of program bytes room b
unfolding judge_of
judged_alike m n program bytes room = rw (not_full m, not_full n)
