-- `next` of `network::Networks` meets its contract: it gives the first of the networks and leaves the others. Assumes nothing.
use native.Mathlib.Omega.{arith}
use mathlib.Core.Path.{ap}
use lib.ListN.{length}
use Rattle.octets.proofs.Rows.{step, sized_none, items_end, items_taken}
use Rattle.network.specs.Networks.{address_bits}
use Rattle.network.specs.Wire.{prefix_size, network_of}
use Rattle.network.proofs.Prefixes.{prefix_sizes}
use Rattle.network.proofs.NetworksIterator.next.Goals as goal

pub returns-in_err-size-clause-steps : goal.returns-in_err-size-clause-steps
returns-in_err-size-clause-steps c =
    let z = items_end (prefix_size address_bits) (network_of address_bits) c.args.self.now.0.now (sized_none c.in_err-size.ensures) in
    rw c.from_residual.ensures (z, z)

pub slice_bounds-self-count : goal.slice_bounds-self-count
slice_bounds-self-count c =
    let x = step (prefix_size address_bits) (prefix_sizes address_bits) c.args.self.now.0.now 0 c.in_ok-size.ensures in
    omega arith

pub slice_bounds-self-start : goal.slice_bounds-self-start
slice_bounds-self-start c =
    let x = step (prefix_size address_bits) (prefix_sizes address_bits) c.args.self.now.0.now 0 c.in_ok-size.ensures in
    omega arith

pub returns-clause-steps : goal.returns-clause-steps
returns-clause-steps c =
    rw c.network_at-network.ensures
    (items_taken (prefix_size address_bits) (network_of address_bits) (prefix_sizes address_bits) c.args.self.now.0.now c.in_ok-size.ensures)

pub returns-clause-goes : goal.returns-clause-goes
returns-clause-goes c =
    let e = items_taken (prefix_size address_bits) (network_of address_bits) (prefix_sizes address_bits) c.args.self.now.0.now c.in_ok-size.ensures in
    record { on = λ h. (tt, tt, omega (arith, ap length e)); keeps = tt; rests = λ h. tt }
