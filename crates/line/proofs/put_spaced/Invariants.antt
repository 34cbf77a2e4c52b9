-- `line::put_spaced` meets its contract. The loop's invariant: the texts that the iterator has left are left to write. Assumes nothing.
use Prim.Native.Nat.{ℕ}
use mathlib.Core.List.{List}
use Rattle.octets.proofs.Writes.{Midst}
use Rattle.line.specs.Field.{Gives, Writes}
use Rattle.line.specs.Text.{space, following}
use Rattle.line.proofs.put_spaced.Given as goal

abbrev pub invariant-loop-item : goal.invariant-loop-item
invariant-loop-item g l = (text : _ → List ℕ) (left : _ → List (List ℕ)) → Gives g.I.Iterator.next_gives text left → Writes (goal.F-post g l.put_item) text
    → Midst
    l.initial.out l.initial.place (following space (left l.initial.item-iterator))
    l.out l.place (following space (left l.item-iterator))
