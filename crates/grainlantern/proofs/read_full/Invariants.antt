-- The loop of `grainlantern::read_full`: the bytes read fit the room, and each turn reads some.
use Rattle.std.proofs.Common.{length, ◌-◌, ◌≤◌}
use Rattle.grainlantern.proofs.read_full.Given as goal

abbrev pub invariant-loop-length : goal.invariant-loop-length
invariant-loop-length g l = l.length ≤ length l.room

abbrev pub decreases-loop-length : goal.decreases-loop-length
decreases-loop-length g l = length l.initial.room - l.length
