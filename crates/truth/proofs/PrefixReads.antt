-- Laws of the search among the prefixes of a section. Assumes nothing.
use Prim.Native.Nat.{ℕ}
use mathlib.Core.Path.{◌≡◌, refl}
use mathlib.Core.Bool.{true}
use Rattle.std.specs.Prelude.{Some}
use mathlib.Core.List.{List}
use Rattle.octets.specs.Choice.{pick}
use Rattle.octets.proofs.Some.{passes_append}
use Rattle.network.specs.declared.Relation.{Relation}
use Rattle.message.specs.declared.Parts.{Parts}
use Rattle.message.specs.Decode.{part_of, networks_of, message_at}
use Rattle.program.specs.declared.Fields.{Fields}
use Rattle.program.specs.Layout.{relation_is, operand_of}
use Rattle.truth.specs.Means.{some_prefix}
use Rattle.truth.specs.Matching.{network_test}

-- ---- a network's test

module _ (f : Fields) (s : List ℕ) (p : Parts) where
  -- by the side
  module _ {r : Relation} (known : relation_is f.variant ≡ Some r) where
    pub on_announced : f.b ≡ 1 → network_test f (message_at s p) ≡ some_prefix r (operand_of f) (networks_of (part_of s p.announced))
    unfolding message_at
    on_announced e = rw (known, e) refl

    pub on_withdrawn : f.b ≡ 2 → network_test f (message_at s p) ≡ some_prefix r (operand_of f) (networks_of (part_of s p.withdrawn))
    unfolding message_at
    on_withdrawn e = rw (known, e) refl

    pub on_either : f.b ≡ 0
        → network_test f (message_at s p)
        ≡ pick (some_prefix r (operand_of f) (networks_of (part_of s p.announced))) true (some_prefix r (operand_of f) (networks_of (part_of s p.withdrawn)))
    unfolding message_at some_prefix
    on_either e = rw (known, e) (passes_append _ (networks_of (part_of s p.announced)) (networks_of (part_of s p.withdrawn)))
