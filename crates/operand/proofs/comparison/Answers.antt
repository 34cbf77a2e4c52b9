-- `operand::comparison` meets its contract, by the first byte. Assumes nothing.
use Prim.Native.Nat.{ℕ}
use mathlib.Core.Path.{◌≡◌, refl, ◌∙◌}
use mathlib.Core.Bool.{Bool, true, false}
use mathlib.Core.List.{List, [], ◌∷◌}
use Rattle.std.specs.Prelude.{Some, None}
use lib.Dec.{eqb}
use Rattle.octets.specs.Choice.{pick}
use Rattle.program.specs.Readings.{Comparison, below, at_most, above, at_least}
use Rattle.program.specs.Layout.{comparison_code}
use Rattle.operand.specs.Fronts.{read, after, optional, chosen}
use Rattle.operand.specs.Times.{or_equal, comparison, signed, either_code}
use Rattle.operand.proofs.Said.{left_none, left_some, front_taken, front_other}
use Rattle.operand.proofs.comparison.Goals as goal

-- one of two by `=`
equal_or : (c d : Comparison) (l : List ℕ) → either_code (comparison_code c) (comparison_code d) (optional 61 l) ≡ signed (or_equal c d l)
unfolding optional after
equal_or c d [] = refl
equal_or c d (x ∷ xs) = go (eqb x 61)
  where
    go : (t : Bool) → either_code (comparison_code c) (comparison_code d) (chosen (x ∷ xs) (pick t (Some xs) None)) ≡ signed (pick t (read d xs) (read c (x ∷ xs)))
    go true = refl
    go false = refl

pub returns-in-Some : goal.returns-in-Some
unfolding comparison
returns-in-Some c = let t = front_taken 61 c.args.s.now (left_some c.after.ensures c.in-Some.is) in rw (t.0, t.1)

pub returns-in-Some-after : goal.returns-in-Some-after
unfolding comparison
returns-in-Some-after c = let s = c.args.s.now in
    let t = front_taken 60 s (left_some c.after-2.ensures c.in-Some-after.is) in
    rw (front_other 61 s refl (left_none c.after.ensures c.in_default.is), t.0, t.1) (c.or_equal.ensures ∙ equal_or below at_most _)

pub returns-in-Some-after-2 : goal.returns-in-Some-after-2
unfolding comparison
returns-in-Some-after-2 c = let s = c.args.s.now in
    let t = front_taken 62 s (left_some c.after-3.ensures c.in-Some-after-2.is) in
    rw (
      front_other 61 s refl (left_none c.after.ensures c.in_default.is),
      front_other 60 s refl (left_none c.after-2.ensures c.in_default-after.is),
      t.0,
      t.1,
    ) (c.or_equal-in-Some-after-2.ensures ∙ equal_or above at_least _)

pub returns : goal.returns
unfolding comparison
returns c = let s = c.args.s.now in
    rw (
      front_other 61 s refl (left_none c.after.ensures c.in_default.is),
      front_other 60 s refl (left_none c.after-2.ensures c.in_default-after.is),
      front_other 62 s refl (left_none c.after-3.ensures c.in_default-after-2.is),
    )
