-- `attributes::bodies_right` meets its contract: the test of every attribute that the iterator gives. Assumes nothing.
use mathlib.Core.Path.{refl, ◌∙◌}
use Rattle.std.proofs.Common.{rules, tests}
use Rattle.std.proofs.lemmas.Iterator.Consumers.{YieldsList-from_first}
use Rattle.std.proofs.lemmas.Iterator.Search.{all_from_yields_List}
use Rattle.aspath.specs.Wire.{width_bytes}
use Rattle.attributes.specs.Left.{attributes_left}
use Rattle.attributes.proofs.Left.{right_at, all_left}
use Rattle.attributes.proofs.bodies_right.Goals as goal

pub returns : goal.returns
returns c = let a = c.args in
    let w = width_bytes a.width in
    all_from_yields_List (right_at a.s.now w) c.all.new.self _ _ c.all.ensures.ran
    (YieldsList-from_first (λ h. h) attributes_left _ refl) (λ x b q k. search (rules, tests))
    ∙ all_left a.s.now w
