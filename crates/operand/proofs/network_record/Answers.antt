-- `operand::network_record` meets its contract: the network, on a side. Assumes nothing.
use mathlib.Core.Path.{◌≡◌, sym, ap, ◌∙◌}
use Rattle.std.specs.Prelude.{Some}
use Rattle.network.specs.Networks.{network_in}
use Rattle.program.specs.Layout.{head_fields}
use Rattle.program.specs.Compiling.{head_of, items_of}
use Rattle.operand.specs.Addresses.{network_found, network_read}
use Rattle.operand.proofs.network_record.Goals as goal

pub returns : goal.returns
unfolding head_fields head_of items_of
returns c d e =
    let n : network_read c.args.s.now ≡ Some (network_in c.in_ok-n.n) = sym c.network_of.ensures ∙ ap network_found c.in_ok-n.was in
    rw (c.lone_head.ensures, c.relation_code.ensures, n, e)
