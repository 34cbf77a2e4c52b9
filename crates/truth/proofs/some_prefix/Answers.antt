-- `truth::some_prefix` meets its contract: the search of the iterator over the section's networks. Assumes nothing.
use mathlib.Core.Path.{refl, ◌∙◌}
use Rattle.std.proofs.Common.{rules, tests}
use Rattle.std.proofs.lemmas.Iterator.Consumers.{YieldsList-from_first}
use Rattle.std.proofs.lemmas.Iterator.Search.{any_from_yields_List}
use Rattle.octets.proofs.Some.{any_passes}
use Rattle.network.specs.Networks.{network_in, relates}
use Rattle.network.specs.Left.{networks_left}
use Rattle.message.specs.Decode.{networks_of}
use Rattle.truth.specs.Means.{some_prefix}
use Rattle.truth.proofs.some_prefix.Goals as goal

pub returns : goal.returns
unfolding some_prefix
returns c = let a = c.args in
    any_from_yields_List (relates a.relation (network_in a.operand)) c.any.new.self _ _ c.any.ensures.ran
    (YieldsList-from_first network_in networks_left _ refl) (λ x b q k. search (rules, tests))
    ∙ any_passes (relates a.relation (network_in a.operand)) (networks_of a.section.now)
