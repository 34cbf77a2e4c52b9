-- `truth::true_of_section` meets its contract, by what is found. Assumes nothing.
use mathlib.Core.Path.{refl, sym, ap, ◌∙◌}
use Rattle.aspath.specs.Wire.{width_bytes}
use Rattle.attributes.proofs.Lookup.{asks_path, first_found}
use Rattle.truth.specs.Matching.{path_test}
use Rattle.truth.proofs.true_of_section.Goals as goal

pub returns-in-Some : goal.returns-in-Some
returns-in-Some c = let a = c.args in
    rw (first_found (asks_path (width_bytes a.width)) a.section.now, sym c.find.ensures ∙ c.in-Some.is, ← c.part-path.ensures)
    (c.true_of_path.ensures ∙ ap (path_test a.f a.behind.now) c.members_of.ensures)

pub returns-in-None : goal.returns-in-None
returns-in-None c = let a = c.args in
    rw (first_found (asks_path (width_bytes a.width)) a.section.now, sym c.find.ensures ∙ c.in-None.is) refl
