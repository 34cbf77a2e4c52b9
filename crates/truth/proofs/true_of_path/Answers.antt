-- `truth::true_of_path` meets its contract, kind by kind. Assumes nothing.
use mathlib.Core.Path.{sym, ap, ◌∙◌}
use Rattle.std.specs.Prelude.{Some}
use borrow.Author.Tests.{eq-eqb, ne_eqb}
use Rattle.program.specs.declared.Kind.TheVariants.{Path, Loops, Bogon}
use Rattle.program.proofs.KindLaws.{kind_number, no_kind, other_kind}
use Rattle.truth.specs.Matching.{path_test}
use Rattle.truth.proofs.true_of_path.Goals as goal

pub matches-requires : goal.matches-requires
matches-requires c = kind_number (sym c.kind_of.ensures ∙ c.in-Some.is ∙ ap Some c.in-Path.is)

pub returns-in-Path : goal.returns-in-Path
unfolding path_test
returns-in-Path c = rw (eq-eqb _ _ (kind_number (sym c.kind_of.ensures ∙ c.in-Some.is ∙ ap Some c.in-Path.is))) c.matches.ensures

pub returns-in-Loops : goal.returns-in-Loops
unfolding path_test
returns-in-Loops c = rw (kind_number (sym c.kind_of.ensures ∙ c.in-Some.is ∙ ap Some c.in-Loops.is)) c.loops.ensures

pub returns-in-Bogon : goal.returns-in-Bogon
unfolding path_test
returns-in-Bogon c = rw (kind_number (sym c.kind_of.ensures ∙ c.in-Some.is ∙ ap Some c.in-Bogon.is)) c.has_bogon.ensures

pub returns-in_default-kind : goal.returns-in_default-kind
unfolding path_test
returns-in_default-kind c =
    let said = sym c.kind_of.ensures ∙ c.in-Some.is in
    let n = c.in_default-kind in
    simp (ne_eqb _ _ (other_kind said Path n.not-Path), ne_eqb _ _ (other_kind said Loops n.not-Loops), ne_eqb _ _ (other_kind said Bogon n.not-Bogon))

pub returns-in_default : goal.returns-in_default
unfolding path_test
returns-in_default c =
    let said = sym c.kind_of.ensures ∙ c.in_default.is in
    simp (ne_eqb _ _ (no_kind said Path), ne_eqb _ _ (no_kind said Loops), ne_eqb _ _ (no_kind said Bogon))
