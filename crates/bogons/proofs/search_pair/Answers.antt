-- `bogons::search_pair` meets its contract. Assumes nothing.
use mathlib.Core.Path.{◌∙◌}
use Rattle.bogons.proofs.Search.{pair_first, pair_second}
use Rattle.bogons.proofs.search_pair.Goals as goal

pub returns-then-n-b : goal.returns-then-n-b
returns-then-n-b c = c.decided.ensures ∙ pair_first _ c.args.a _ _ c.if-n-b.true

pub returns : goal.returns
returns c = c.decided-2.ensures ∙ pair_second _ c.args.a _ _ c.if-n-b.false
