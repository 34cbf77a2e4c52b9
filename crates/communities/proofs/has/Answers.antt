-- `communities::has` meets its contract: the search of the iterator over the body's communities. Assumes nothing.
use mathlib.Core.Path.{refl, ◌∙◌}
use Rattle.std.proofs.Common.{ℕ, rules, tests}
use Rattle.std.proofs.lemmas.Iterator.Consumers.{YieldsList-from_first}
use Rattle.std.proofs.lemmas.Iterator.Search.{any_from_yields_List}
use lib.Dec.{eqb}
use Rattle.octets.proofs.Some.{any_passes}
use Rattle.communities.specs.Communities.{communities_of, is_held}
use Rattle.communities.specs.Left.{communities_left}
use Rattle.communities.proofs.has.Goals as goal

pub returns : goal.returns
unfolding is_held
returns c = let a = c.args in
    any_from_yields_List (λ h. eqb h a.community) c.any.new.self _ _ c.any.ensures.ran
    (YieldsList-from_first (λ h. h) communities_left _ refl) (λ x b q k. search (rules, tests))
    ∙ any_passes (λ (h : ℕ). eqb h a.community) (communities_of a.body.now)
