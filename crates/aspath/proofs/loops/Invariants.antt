-- `aspath::loops` meets its contract.
-- The invariants: a loop of the path is one of the members left, and a return of n is one of those that the inner loop has left. Assumes nothing.
use mathlib.Core.Path.{◌≡◌}
use mathlib.Core.Bool.{false}
use lib.ListN.{length}
use Rattle.aspath.specs.Loops.{returns_in, has_loop}
use Rattle.aspath.specs.Cursors.{left}
use Rattle.aspath.proofs.loops.Given as goal

abbrev pub invariant-loop-m : goal.invariant-loop-m
invariant-loop-m l = returns_in l.other l.n (left l.m-iterator) ≡ returns_in false l.n (left l.path)

abbrev pub invariant-search : goal.invariant-search
invariant-search l = has_loop (left l.path) ≡ has_loop (left l.fn.from)

abbrev pub decreases-search : goal.decreases-search
decreases-search l = length (left l.path)
