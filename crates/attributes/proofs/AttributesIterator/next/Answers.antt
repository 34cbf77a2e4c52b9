-- `next` of `attributes::Attributes` meets its contract: it gives the first of the attributes and leaves the others. Assumes nothing.
use native.Mathlib.Omega.{arith}
use mathlib.Core.Path.{ap}
use lib.ListN.{length, drop}
use Rattle.octets.proofs.Rows.{sized_none, items_end}
use Rattle.attributes.specs.Wire.{attribute_size}
use Rattle.attributes.specs.Left.{placed_of}
use Rattle.attributes.proofs.Sizes.{step}
use Rattle.attributes.proofs.Left.{left_next}
use Rattle.attributes.proofs.AttributesIterator.next.Goals as goal

pub returns-in_err-size-clause-steps : goal.returns-in_err-size-clause-steps
returns-in_err-size-clause-steps c =
    let a = c.args.self.now in
    let z = items_end attribute_size (placed_of a.section.now) (drop a.at a.section.now) (sized_none c.in_err-size.ensures) in
    rw c.from_residual.ensures (z, z)

pub overflow_add-code : goal.overflow_add-code
overflow_add-code c =
    let a = c.args.self.now in
    let x = step a.section.now a.at c.in_ok-size.ensures in
    omega arith

pub bounds-self-self : goal.bounds-self-self
bounds-self-self c =
    let a = c.args.self.now in
    let x = step a.section.now a.at c.in_ok-size.ensures in
    omega arith

pub overflow_add-start : goal.overflow_add-start
overflow_add-start c =
    let a = c.args.self.now in
    let x = step a.section.now a.at c.in_ok-size.ensures in
    omega arith

pub overflow_add-self : goal.overflow_add-self
overflow_add-self c =
    let a = c.args.self.now in
    let x = step a.section.now a.at c.in_ok-size.ensures in
    omega arith

pub overflow_sub-len : goal.overflow_sub-len
overflow_sub-len c =
    let a = c.args.self.now in
    let x = step a.section.now a.at c.in_ok-size.ensures in
    omega arith

pub returns-clause-steps : goal.returns-clause-steps
returns-clause-steps c =
    let a = c.args.self.now in
    left_next a.section.now a.at (step a.section.now a.at c.in_ok-size.ensures) c.header_size.ensures.0

pub returns-clause-goes : goal.returns-clause-goes
returns-clause-goes c =
    let a = c.args.self.now in
    let e = left_next a.section.now a.at (step a.section.now a.at c.in_ok-size.ensures) c.header_size.ensures.0 in
    record { on = λ h. (tt, tt, omega (arith, ap length e)); keeps = tt; rests = λ h. tt }
