-- `attributes::sound` meets its contract. The loop's invariant: the attributes left are those from the end of the last on,
-- and the section is sound just where the rest of it is, with the codes marked so far. Assumes nothing.
use Prim.Native.Nat.{◌≤◌}
use mathlib.Core.Path.{◌≡◌}
use lib.ListN.{length, drop}
use Rattle.attributes.specs.Codes.{is_sound}
use Rattle.attributes.specs.Left.{attributes_left}
use Rattle.attributes.proofs.Left.{left_from}
use Rattle.attributes.proofs.Marks.{marks}
use Rattle.attributes.proofs.Walks.{sound_with}
use Rattle.attributes.proofs.sound.Given as goal

abbrev pub invariant-loop-attribute : goal.invariant-loop-attribute
invariant-loop-attribute l =
    (l.end ≤ length l.s) × (left_from l.s l.end ≡ attributes_left l.attribute-iterator)
    × (length l.seen ≡ 4) × (sound_with (marks l.seen) (drop l.end l.s) ≡ is_sound l.s)
