-- `truth::matches_here` meets its contract. The loop's invariant: all items match all members just where those left match those left.
use Prim.Native.Nat.{◌-◌, ◌*◌}
use mathlib.Core.Path.{◌≡◌}
use mathlib.Core.Bool.{true}
use lib.ListN.{drop}
use Rattle.aspath.specs.Cursors.{left}
use Rattle.aspath.specs.Patterns.{matches_here}
use Rattle.program.specs.Layout.{record_size}
use Rattle.program.specs.Checks.{last_variant, items_stand}
use Rattle.truth.specs.Matching.{items_in}
use Rattle.truth.proofs.matches_here.Given as goal

abbrev pub invariant-loop-n : goal.invariant-loop-n
invariant-loop-n l = (items_stand last_variant (l.count - l.n) (drop (record_size * l.n) l.records) ≡ true)
    × (matches_here l.end (items_in (l.count - l.n) (drop (record_size * l.n) l.records)) (left l.path)
    ≡ matches_here l.end (items_in l.count l.records) (left l.fn.from))
