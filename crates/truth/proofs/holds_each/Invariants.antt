-- `truth::holds_each` meets its contract. The loop's invariant: all numbers are held just where those left are. Assumes nothing.
use Prim.Native.Nat.{◌-◌, ◌*◌}
use mathlib.Core.Path.{◌≡◌}
use mathlib.Core.Bool.{true}
use lib.ListN.{drop}
use Rattle.communities.specs.Communities.{communities_of, holds_all}
use Rattle.program.specs.Layout.{record_size}
use Rattle.program.specs.Checks.{number_variant, items_stand}
use Rattle.truth.specs.Matching.{numbers_in}
use Rattle.truth.proofs.holds_each.Given as goal

abbrev pub invariant-loop-n : goal.invariant-loop-n
invariant-loop-n l = (items_stand number_variant (l.count - l.n) (drop (record_size * l.n) l.records) ≡ true)
    × (holds_all (communities_of l.body) (numbers_in (l.count - l.n) (drop (record_size * l.n) l.records))
    ≡ holds_all (communities_of l.body) (numbers_in l.count l.records))
