-- `program::group_size` meets its contract, class by class. Assumes nothing.
use Prim.Native.Nat.{ℕ, ◌+◌, ◌*◌, ◌≤◌, ◌<◌}
use native.Mathlib.Omega.{arith}
use mathlib.Core.Path.{◌≡◌, refl, sym, ap, ◌∙◌}
use mathlib.Core.Logic.{◌⊎◌, inl, inr}
use mathlib.Core.Bool.{Bool, true, false}
use mathlib.Core.List.{List}
use Rattle.std.specs.Prelude.{Option, Some, None}
use lib.ListN.{length, drop}
use borrow.Author.Tests.{lt-ltb, le-ltb}
use Rattle.octets.specs.Choice.{pick}
use Rattle.octets.specs.Rows.{sized}
use Rattle.octets.proofs.Rows.{some_sized}
use Rattle.program.specs.declared.Class.{Class}
use Rattle.program.specs.declared.Class.TheVariants.{Test as aTest, Item as an_item, Flip as aFlip, Pass as aPass}
use Rattle.program.specs.declared.Fields.{Fields}
use Rattle.program.specs.Kinds.{class_is}
use Rattle.program.specs.Layout.{record_size, fields_in}
use Rattle.program.specs.Checks.{following_in, follows_in, group_of, group_size}
use Rattle.program.proofs.group_size.Goals as goal

-- where no whole record stands
short_group : (l : List ℕ) → length l < record_size → group_size l ≡ 0
unfolding group_size
short_group l h = rw (lt-ltb _ _ h)

-- where one does, its class decides
group_by : (l : List ℕ) {f : Fields} {o : Option Class} (x : Option Class) → record_size ≤ length l → f ≡ fields_in l → o ≡ class_is f.kind → o ≡ x
    → group_size l ≡ group_of x f (drop record_size l)
unfolding group_size
group_by l {f} {o} x h e d i = rw (le-ltb _ _ h, ← e, ← d, i) refl

-- a test's does so by what follows it
test_group : (l : List ℕ) {f : Fields} {o : Option Class} (b : Bool) → record_size ≤ length l → f ≡ fields_in l → o ≡ class_is f.kind → o ≡ Some aTest
    → follows_in f (drop record_size l) ≡ b → group_size l ≡ pick b (record_size + record_size * following_in f) 0
test_group l {f} b h e d i t = group_by l (Some aTest) h e d i ∙ ap (λ (x : Bool). pick x (record_size + record_size * following_in f) 0) t

-- a flip and a pass stand alone
alone : (x : Class) (f : Fields) (l : List ℕ) → (x ≡ aFlip) ⊎ (x ≡ aPass) → group_of (Some x) f l ≡ record_size
alone x f l (inl e) = rw e refl
alone x f l (inr e) = rw e refl

pub returns-then-records-lt-RECORD_SIZE : goal.returns-then-records-lt-RECORD_SIZE
returns-then-records-lt-RECORD_SIZE c = ap sized (sym (short_group _ c.if-records-lt-RECORD_SIZE.true))

pub returns-in_err-class_of : goal.returns-in_err-class_of
returns-in_err-class_of c = c.from_residual.ensures
    ∙ ap sized (sym (group_by c.args.records.now None c.if-records-lt-RECORD_SIZE.false c.fields_at-f.ensures c.class_of.ensures c.in_err-class_of.was))

pub returns-then-not-follows : goal.returns-then-not-follows
returns-then-not-follows c =
    let t = ap (follows_in _) (sym c.rest.ensures) ∙ sym c.follows.ensures ∙ c.if-not-follows.true in
    ap sized (sym (test_group c.args.records.now false c.if-records-lt-RECORD_SIZE.false c.fields_at-f.ensures c.class_of.ensures
    (c.in_ok-class_of.was ∙ ap Some c.in-Test.is) t))

pub returns-else-not-follows : goal.returns-else-not-follows
returns-else-not-follows c =
    let t = ap (follows_in _) (sym c.rest.ensures) ∙ sym c.follows.ensures ∙ c.if-not-follows.false in
    let q = test_group c.args.records.now true c.if-records-lt-RECORD_SIZE.false c.fields_at-f.ensures c.class_of.ensures
    (c.in_ok-class_of.was ∙ ap Some c.in-Test.is) t in
    let n = c.following.result in
    sym (ap sized (q ∙ ap (λ (k : ℕ). record_size + record_size * k) (sym c.following.ensures)) ∙ some_sized {n = record_size + record_size * n} (λ z. omega arith))

pub returns-in-Item : goal.returns-in-Item
returns-in-Item c =
    ap sized (sym (group_by c.args.records.now (Some an_item) c.if-records-lt-RECORD_SIZE.false c.fields_at-f.ensures c.class_of.ensures
    (c.in_ok-class_of.was ∙ ap Some c.in-Item.is)))

pub returns-in-Flip : goal.returns-in-Flip
returns-in-Flip c =
    let x = c.in_ok-class_of.field-0 in
    ap sized (sym (group_by c.args.records.now (Some x) c.if-records-lt-RECORD_SIZE.false c.fields_at-f.ensures c.class_of.ensures c.in_ok-class_of.was
    ∙ alone x _ _ c.in-Flip.is))
