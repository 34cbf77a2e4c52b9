-- Laws of the communities that a body holds: the tests decide, and how a body is gone through. Assumes nothing.
use Prim.Native.Nat.{ℕ}
use mathlib.Core.Path.{◌≡◌}
use mathlib.Core.Bool.{true}
use mathlib.Core.List.{List}
use borrow.Author.Tests.{eqb-true, eq-eqb}
use Rattle.octets.proofs.Every.{all_sound, all_complete}
use Rattle.octets.proofs.Some.{passes_sound, passes_complete}
use Rattle.communities.specs.Communities.{Held, HoldsAll, is_held, holds_all}

-- a community that was found is held
pub held_sound : (held : List ℕ) (c : ℕ) → is_held held c ≡ true → Held held c
unfolding is_held
held_sound held c e = passes_sound (λ h. eqb-true h c) e

-- and one that is held is found
pub held_complete : (held : List ℕ) (c : ℕ) → Held held c → is_held held c ≡ true
unfolding is_held
held_complete held c x = passes_complete (λ h. eq-eqb h c) x

-- likewise all that are asked for
pub holds_all_sound : (held asked : List ℕ) → holds_all held asked ≡ true → HoldsAll held asked
unfolding holds_all
holds_all_sound held asked e = all_sound (held_sound held) e

pub holds_all_complete : (held asked : List ℕ) → HoldsAll held asked → holds_all held asked ≡ true
unfolding holds_all
holds_all_complete held asked x = all_complete (held_complete held) x
