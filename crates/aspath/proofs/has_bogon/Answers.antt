-- `aspath::has_bogon` meets its contract: the search goes through the members. Assumes nothing.
use Rattle.std.proofs.Common.{rules, tests}
use Rattle.std.proofs.lemmas.Iterator.Consumers.{YieldsList-from_first}
use Rattle.std.proofs.lemmas.Iterator.Search.{any_from_yields_List}
use mathlib.Core.Path.{refl, ◌∙◌}
use Rattle.octets.proofs.Some.{any_passes}
use Rattle.aspath.specs.Members.{Member, member_of, some_held}
use Rattle.aspath.specs.Cursors.{left}
use Rattle.aspath.specs.Bogons.{is_bogon, some_bogon}
use Rattle.aspath.proofs.has_bogon.Goals as goal

pub returns : goal.returns
unfolding some_bogon some_held
returns c =
    let path = left c.args.from in
    any_from_yields_List (λ (m : Member). some_held m is_bogon) c.any.new.self _ _ c.any.ensures.ran (YieldsList-from_first member_of left path refl)
    (λ x b q k. search (rules, tests))
    ∙ any_passes (λ (m : Member). some_held m is_bogon) path
