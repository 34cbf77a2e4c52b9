-- The machine (the paper's term), written down over a program's bytes.
use Rattle.std.specs.Prelude.{ℕ, zero, suc, Bool, false, not, List, [], ◌∷◌, take}
use Rattle.octets.specs.Choice.{pick}
use Rattle.program.specs.declared.Spent.{Spent}
use Rattle.program.specs.Spent.{nothing, one_step, together}
use Rattle.program.specs.Readings.{open'}
use Rattle.program.specs.Records.{Head, Record, head, item, flip, pass, count_of}
use Rattle.program.specs.Layout.{records_in}

-- truth says whether a test is true, from its record and those that follow it
module _ (truth : Head → List Record → Bool) where
  -- over records of which some are passed over, from a flag and what is spent. A test sets the flag, and the records that follow it are passed
  -- over. A step (the paper's term) is one record that is looked at, items not counted
  unfoldable pub exec : ℕ → Bool → Spent → List Record → Bool × Spent
  exec over flag spent [] = (flag, spent)
  exec (suc over) flag spent (r ∷ rs) = exec over flag spent rs
  exec zero flag spent (head h ∷ rs) = exec (count_of h) (truth h (take (count_of h) rs)) (together spent one_step) rs
  exec zero flag spent (item i ∷ rs) = exec zero flag spent rs
  exec zero flag spent (flip ∷ rs) = exec zero (not flag) (together spent one_step) rs
  exec zero flag spent (pass o count ∷ rs) = exec (pick (open' o flag) 0 count) flag (together spent one_step) rs

  -- the last flag, which is the verdict, and what was spent
  abbrev pub machine : List ℕ → Bool × Spent
  machine program = exec zero false nothing (records_in program)
