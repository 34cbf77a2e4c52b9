-- `judge::execute` meets its contract.
-- The loop's invariant: the state stands at a record, and from there the machine comes to what it comes to. Assumes nothing.
use Prim.Native.Nat.{◌+◌, ◌≤◌}
use native.Mathlib.Omega.{arith}
use mathlib.Core.Path.{refl, ap}
use lib.ListN.{length, length-drop}
use Rattle.octets.specs.Numbers.{Octets}
use Rattle.message.specs.Decode.{message_at}
use Rattle.program.specs.Layout.{record_size}
use Rattle.program.proofs.Valid.{valid_records, valid_few}
use Rattle.judge.proofs.Execution.{further, steps_few, stands_next, stands_end}
use Rattle.judge.proofs.execute.Goals as goal

pub loop-parts-init : goal.loop-parts-init
loop-parts-init c = (omega arith, λ r. record { place = 0; at_place = refl; comes = refl })

pub step-state-requires : goal.step-state-requires
step-state-requires c = let a = c.args in
    let s = c.loop-parts.state in
    let stands : s.at + record_size ≤ length a.program.now = omega
    (arith, c.loop-parts-test.true, ap length c.rest.ensures, length-drop s.at a.program.now) in
    (omega (arith, stands, valid_few _ c.requires), c.loop-parts.invariant.0)

pub loop-parts-smaller : goal.loop-parts-smaller
loop-parts-smaller c = let a = c.args in
    let s = c.loop-parts.state in
    let stands : s.at + record_size ≤ length a.program.now = omega
    (arith, c.loop-parts-test.true, ap length c.rest.ensures, length-drop s.at a.program.now) in
    rw c.step-state.ensures (omega (arith, stands, further (message_at a.bytes.now a.parts) a.program.now s))

pub loop-parts-preserved : goal.loop-parts-preserved
loop-parts-preserved c = let a = c.args in
    let s = c.loop-parts.state in
    let stands : s.at + record_size ≤ length a.program.now = omega
    (arith, c.loop-parts-test.true, ap length c.rest.ensures, length-drop s.at a.program.now) in
    let m = message_at a.bytes.now a.parts in
    let l = c.loop-parts.invariant in
    rw c.step-state.ensures (steps_few m a.program.now s l.0, λ r. stands_next m a.program.now r (l.1 r) stands)

pub returns : goal.returns
returns c = let a = c.args in
    let l = c.loop-parts in
    let o : Octets a.program.now = record { below = λ i. (c.type_inv.program i).fits } in
    let r = valid_records a.program.now o c.requires in
    stands_end (message_at a.bytes.now a.parts) a.program.now r (l.invariant.1 r) (omega (arith, c.loop-parts-test.false, ap length c.rest.ensures))
