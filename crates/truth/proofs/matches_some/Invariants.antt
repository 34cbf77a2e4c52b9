-- `truth::matches_some` meets its contract. The loop's invariant: the items match in the path just where they match in the members left.
use mathlib.Core.Path.{◌≡◌}
use lib.ListN.{length}
use Rattle.aspath.specs.Cursors.{left}
use Rattle.aspath.specs.Patterns.{matches_some}
use Rattle.truth.specs.Matching.{items_in}
use Rattle.truth.proofs.matches_some.Given as goal

abbrev pub invariant-loop-from : goal.invariant-loop-from
invariant-loop-from l = matches_some l.end (items_in l.count l.records) (left l.from) ≡ matches_some l.end (items_in l.count l.records) (left l.fn.path)

abbrev pub decreases-loop-from : goal.decreases-loop-from
decreases-loop-from l = length (left l.from)
