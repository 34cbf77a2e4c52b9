-- `aspath::bogon` meets its contract: the search goes through the table. Assumes nothing.
use Rattle.std.proofs.Common.{rules, tests}
use Rattle.std.proofs.lemmas.Iterator.{YieldsList-from_slice}
use Rattle.std.proofs.lemmas.Iterator.Search.{any_from_yields_List}
use mathlib.Core.Path.{◌∙◌}
use Rattle.octets.proofs.Some.{any_passes}
use Rattle.aspath.specs.Bogons.{bogons, in_range, is_bogon}
use Rattle.aspath.proofs.bogon.Goals as goal

pub returns : goal.returns
unfolding bogons is_bogon
returns c =
    any_from_yields_List (in_range c.args.n) _ _ _ c.any.ensures.ran (YieldsList-from_slice bogons (cc)) (λ x b q k. search (rules, tests))
    ∙ any_passes (in_range c.args.n) bogons
