-- `filter::test` meets its contract. Assumes nothing.
use borrow.Author.Rules.{rules}
use mathlib.Core.Bool.{true}
use mathlib.Core.Path.{◌≡◌, refl, sym, ap, ◌∙◌}
use Rattle.std.specs.Prelude.{Some}
use Rattle.program.specs.Layout.{head_fields}
use Rattle.program.specs.Compiling.{head_of, items_of}
use Rattle.filter.specs.Parsing.{role_said}
use Rattle.filter.proofs.ReadyTokens.{no_test, no_test_meant}
use Rattle.filter.proofs.Tests.{no_test_lem, flag_says}
use Rattle.operand.specs.declared.Name.{Name}
use Rattle.filter.specs.declared.Role.TheVariants.{Loops, Bogons, Named}
use Rattle.filter.proofs.test.Goals.{in_default-via-in-Some+in_default, in_default-via-in_default}
use Rattle.filter.proofs.test.Goals as goal

pub returns-in-Some-Loops : goal.returns-in-Some-Loops
unfolding items_of head_of head_fields
returns-in-Some-Loops c = let role = sym c.role_of.ensures ∙ ap role_said (c.in-Some-Loops.is ∙ ap (λ r. Some r) c.in-Some-Loops.field-0-is) in
    flag_says c.requires.0 role refl c.plain_test.ensures.behind c.plain_test.ensures.wrote

pub returns-in-Some-Bogons : goal.returns-in-Some-Bogons
unfolding items_of head_of head_fields
returns-in-Some-Bogons c = let role = sym c.role_of.ensures ∙ ap role_said (c.in-Some-Bogons.is ∙ ap (λ r. Some r) c.in-Some-Bogons.field-0-is) in
    flag_says c.requires.0 role refl c.plain_test-in-Some-Bogons.ensures.behind c.plain_test-in-Some-Bogons.ensures.wrote

pub returns-in_default : goal.returns-in_default
returns-in_default c =
    let none : no_test (role_said c.role_of.result) ≡ true = elim c.in_default.branch [
      | in_default-via-in-Some+in_default w ↦
          let l : w.in_default.field-0 ≡ Loops → ⊥ = search rules in
          let b : w.in_default.field-0 ≡ Bogons → ⊥ = search rules in
          let n : (k : Name) → w.in_default.field-0 ≡ Named k → ⊥ = search rules in
          rw w.in_default.is (no_test_meant w.in_default.field-0 l b n)
      | in_default-via-in_default w ↦ rw w.in_default.is refl
    ] in
    rw c.at.ensures (no_test_lem c.requires.0 c.requires.1 (ap no_test (sym c.role_of.ensures) ∙ none))
