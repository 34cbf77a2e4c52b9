-- `network::prefixes_whole` meets its contract. The loop's invariant: what is left is prefixes to its end just where the section is. Assumes nothing.
use native.Mathlib.Omega.{arith}
use mathlib.Core.Path.{sym, ◌∙◌}
use Rattle.octets.proofs.Rows.{step, whole_step, whole_stop}
use Rattle.network.specs.Networks.{address_bits}
use Rattle.network.specs.Wire.{prefix_size}
use Rattle.network.proofs.Prefixes.{prefix_sizes}
use Rattle.network.proofs.prefixes_whole.Goals as goal

pub overflow_add-at : goal.overflow_add-at
overflow_add-at c =
    let x = step (prefix_size address_bits) (prefix_sizes address_bits) c.args.s.now c.loop-size.at (sym c.in-Some.is ∙ c.prefix_size.ensures) in
    omega arith

pub loop-size-smaller : goal.loop-size-smaller
loop-size-smaller c =
    let x = step (prefix_size address_bits) (prefix_sizes address_bits) c.args.s.now c.loop-size.at (sym c.in-Some.is ∙ c.prefix_size.ensures) in
    omega arith

pub loop-size-preserved : goal.loop-size-preserved
loop-size-preserved c =
    let l = c.loop-size in
    let s = c.args.s.now in
    let e = sym c.in-Some.is ∙ c.prefix_size.ensures in
    let x = step (prefix_size address_bits) (prefix_sizes address_bits) s l.at e in
    (x.fits, whole_step (prefix_size address_bits) (prefix_sizes address_bits) s l.at e ∙ l.invariant.1)

pub returns : goal.returns
returns c =
    let l = c.loop-size in
    whole_stop (prefix_size address_bits) (prefix_sizes address_bits) c.args.s.now l.at l.invariant.0 (sym c.in_default.is ∙ c.prefix_size.ensures) ∙ l.invariant.1
