-- Lengths of lists as text, by what their members cost. Assumes nothing.
use Prim.Native.Nat.{ℕ, ◌+◌, ◌*◌, ◌≤◌}
use native.Mathlib.Nat.{mul-add}
use native.Mathlib.Omega.{arith}
use mathlib.Core.Path.{◌≡◌, refl}
use mathlib.Core.List.{List, [], ◌∷◌, map}
use lib.ListN.{length, length-append}
use Rattle.octets.specs.Lists.{Every, every_none, every_more, total}
use Rattle.octets.proofs.Rows.{items_cost}
use Rattle.network.specs.Networks.{address_bits}
use Rattle.network.specs.Text.{network_text}
use Rattle.network.specs.Wire.{prefix_size, network_of}
use Rattle.network.proofs.Prefixes.{prefix_sizes}
use Rattle.network.proofs.Texts.{network_text_cost}
use Rattle.message.specs.Decode.{networks_of}
use Rattle.line.specs.Text.{space, following, separated, prefixes_text}

-- a member's text and a separator
abbrev pub text_cost : {A : Type 0} → (A → List ℕ) → A → ℕ
text_cost text a = 1 + length (text a)

module _ {A : Type 0} (separator : ℕ) (text : A → List ℕ) where
  -- texts, each after a separator, have the bytes of all together
  following_length : (xs : List A) → length (following separator (map text xs)) ≡ total (text_cost text) xs
  unfolding following total
  following_length [] = refl
  following_length (a ∷ xs) = simp length-append (omega (arith, following_length xs))

  -- texts with a separator between have no more
  pub separated_length : (xs : List A) → length (separated separator (map text xs)) ≤ total (text_cost text) xs
  unfolding separated total
  separated_length [] = omega arith
  separated_length (a ∷ xs) = simp length-append (omega (arith, following_length xs))

-- where each member costs at most k for each that it counts for otherwise, so do all together
pub total_every : {A : Type 0} {P : A → Type 0} (cost other : A → ℕ) (k : ℕ) → ((a : A) → P a → cost a ≤ k * other a)
    → {xs : List A} → Every P xs → total cost xs ≤ k * total other xs
unfolding total
total_every cost other k f every_none = omega arith
total_every cost other k f (every_more {a = a} {xs = xs} h hs) =
    omega (arith, f a h, total_every cost other k f hs, mul-add k (other a) (total other xs))

-- prefixes as text have at most 10 bytes for each of their own
pub prefixes_short : (l : List ℕ) → length (prefixes_text (networks_of l)) ≤ 10 * length l
prefixes_short l =
    omega (
      arith,
      separated_length space network_text (networks_of l),
      items_cost (prefix_size address_bits) (network_of address_bits) (prefix_sizes address_bits) (text_cost network_text) 10 network_text_cost l,
    )
