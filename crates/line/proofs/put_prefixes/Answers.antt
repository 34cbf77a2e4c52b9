-- `line::put_prefixes` meets its contract: the items of an iterator with spaces between. Assumes nothing.
use mathlib.Core.List.{map}
use Rattle.std.proofs.Common.{rules}
use Rattle.network.specs.Networks.{network_in}
use Rattle.network.specs.Left.{networks_left}
use Rattle.network.specs.Text.{network_text}
use Rattle.line.proofs.Texts.{texts_given}
use Rattle.line.proofs.put_prefixes.Goals as goal

pub returns : goal.returns
returns c =
    c.put_spaced.ensures (λ item. network_text (network_in item)) (λ items. map network_text (networks_left items))
    (texts_given network_in networks_left network_text) (λ out at item next after h. search rules)
