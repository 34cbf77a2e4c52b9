-- `line::put_communities` meets its contract: the items of an iterator with spaces between. Assumes nothing.
use mathlib.Core.List.{map}
use Rattle.std.proofs.Common.{rules}
use Rattle.communities.specs.Left.{communities_left}
use Rattle.communities.specs.Text.{community_text}
use Rattle.line.proofs.Texts.{texts_given}
use Rattle.line.proofs.put_communities.Goals as goal

pub returns : goal.returns
returns c =
    c.put_spaced.ensures (λ item. community_text item) (λ items. map community_text (communities_left items))
    (texts_given (λ c. c) communities_left community_text) (λ out at item next after h. search rules)
