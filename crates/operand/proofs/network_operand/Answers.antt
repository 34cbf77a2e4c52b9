-- `operand::network_operand` meets its contract, by the first byte. Assumes nothing.
use mathlib.Core.Path.{◌≡◌, refl}
use Rattle.std.specs.Prelude.{Option, None, Some}
use Rattle.network.specs.Networks.{Network}
use Rattle.network.specs.declared.Relation.{Relation}
use Rattle.program.specs.Readings.{Side, either_side, announced, withdrawn, network_is}
use Rattle.octets.specs.Choice.{onward}
use Rattle.operand.specs.Addresses.{network_read, sided, network_operand}
use Rattle.operand.specs.Tests.{meaning, meant_of, network_meant}
use Rattle.operand.proofs.Said.{left_none, left_some, front_taken, front_other}
use Rattle.operand.proofs.network_operand.Goals as goal

-- a network on a side is the test of that side
on_side : (r : Relation) (side : Side) (o : Option Network) → network_meant r side o ≡ meant_of
    (onward (onward o (λ n. Some (sided side n))) (λ n. Some (network_is r n.network n.side)))
on_side r side None = refl
on_side r side (Some n) = refl

pub returns-in-Some : goal.returns-in-Some
unfolding meaning network_operand
returns-in-Some c = let s = c.args.bytes.now in
    let t = front_taken 43 s (left_some c.after.ensures c.in-Some.is) in
    rw (c.network_record.ensures announced refl, t.0, t.1) (on_side _ announced (network_read c.in-Some.rest.now))

pub returns-in-Some-after : goal.returns-in-Some-after
unfolding meaning network_operand
returns-in-Some-after c = let s = c.args.bytes.now in
    let t = front_taken 45 s (left_some c.after-2.ensures c.in-Some-after.is) in
    rw (
      c.network_record-in-Some-after.ensures withdrawn refl,
      front_other 43 s refl (left_none c.after.ensures c.in_default.is),
      t.0,
      t.1,
    ) (on_side _ withdrawn (network_read c.in-Some-after.rest.now))

pub returns : goal.returns
unfolding meaning network_operand
returns c = let s = c.args.bytes.now in
    rw (
      c.network_record-2.ensures either_side refl,
      front_other 43 s refl (left_none c.after.ensures c.in_default.is),
      front_other 45 s refl (left_none c.after-2.ensures c.in_default-after.is),
    ) (on_side _ either_side (network_read s))
