-- `program::lands` meets its contract, by the tests of its definition on the fields read; the byte that a pass lands on is a number of one byte.
-- Assumes nothing.
use Prim.Native.Nat.{ℕ, ◌+◌, ◌*◌, ◌≤◌, ◌<◌}
use native.Mathlib.Omega.{arith}
use mathlib.Core.Path.{◌≡◌, sym, ap, ◌∙◌}
use mathlib.Core.Bool.{Bool, true, false, not}
use mathlib.Core.List.{List}
use lib.ListN.{length, get_or}
use borrow.Author.Tests.{lt-ltb, le-ltb, lt-leb, not-true, not-false}
use Rattle.std.specs.Prelude.{Option, Some}
use Rattle.std.specs.Option.{option_eq}
use Rattle.octets.proofs.Numbers.{number_one}
use Rattle.program.specs.declared.Class.{Class}
use Rattle.program.specs.declared.Class.TheVariants.{Pass as aPass}
use Rattle.program.specs.declared.Fields.{Fields}
use Rattle.program.specs.contracts.ClassPartialEq.TheImpl as class_eq
use Rattle.program.specs.Kinds.{class_is}
use Rattle.program.specs.Layout.{fields_in}
use Rattle.program.specs.Checks.{is_item_class, is_pass_class, target, lands_well}
use Rattle.program.proofs.KindLaws.{item_test, pass_test}
use Rattle.program.proofs.lands.Goals as goal

module _ (l : List ℕ) where
  -- no pass
  other_lands : is_pass_class (class_is (fields_in l).kind) ≡ false → lands_well l ≡ true
  unfolding lands_well
  other_lands e = rw e

  module _ (e : is_pass_class (class_is (fields_in l).kind) ≡ true) where
    -- a pass past the end
    far_lands : length l < target l → lands_well l ≡ false
    unfolding lands_well
    far_lands h = rw (e, lt-ltb _ _ h)

    -- any other, by what it lands on
    near_lands : target l ≤ length l → lands_well l ≡ not (is_item_class (class_is (get_or l (target l) 0)))
    unfolding lands_well
    near_lands h = rw (e, le-ltb _ _ h)

-- what was found of the record: whether it is no pass
found : (l : List ℕ) {f : Fields} {o : Option Class} {b : Bool} → f ≡ fields_in l → o ≡ class_is f.kind → b ≡ not (option_eq class_eq.eq-value.it o (Some aPass))
    → b ≡ not (is_pass_class (class_is (fields_in l).kind))
found l e d h = h ∙ ap not (pass_test _ ∙ ap is_pass_class (d ∙ ap (λ (f : Fields). class_is f.kind) e))

pub returns-then-ne : goal.returns-then-ne
returns-then-ne c =
    sym (other_lands _ (not-true _ (sym (found _ c.fields_at-f.ensures c.class_of.ensures c.ne.ensures) ∙ c.if-ne.true)))

pub returns-then-target-records : goal.returns-then-target-records
returns-then-target-records c =
    let l = c.args.records.now in
    let p = not-false _ (sym (found _ c.fields_at-f.ensures c.class_of.ensures c.ne.ensures) ∙ c.if-ne.false) in
    let t = ap (λ (f : Fields). f.count) c.fields_at-f.ensures in
    let there = c.number.ensures ∙ number_one l _ ∙ ap (λ (n : ℕ). get_or l (16 + 16 * n) 0) t in
    c.ne-then-target-records.ensures ∙ ap not (item_test _ ∙ ap is_item_class (c.class_of-then-target-records.ensures ∙ ap class_is there))
    ∙ sym (near_lands l p (omega (arith, c.if-target-records.true, t)))

pub returns-else-target-records : goal.returns-else-target-records
returns-else-target-records c =
    let p = not-false _ (sym (found _ c.fields_at-f.ensures c.class_of.ensures c.ne.ensures) ∙ c.if-ne.false) in
    let t = ap (λ (f : Fields). f.count) c.fields_at-f.ensures in
    lt-leb _ _ c.if-target-records.false ∙ sym (far_lands c.args.records.now p (omega (arith, c.if-target-records.false, t)))
