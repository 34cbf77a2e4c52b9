-- Laws of the communities of a body as text: how they are gone through, and that they are short. Assumes nothing.
use Prim.Native.Nat.{ℕ, ◌+◌, ◌-◌, ◌*◌, ◌≤◌, ◌<◌}
use native.Mathlib.Omega.{arith}
use mathlib.Core.Path.{◌≡◌, ap}
use mathlib.Core.List.{List, [], ◌∷◌, map}
use lib.ListN.{length, drop}
use Rattle.octets.specs.Numbers.{number_at}
use Rattle.octets.proofs.Rows.{items_cost}
use Rattle.communities.specs.Communities.{community_size, size_at, community_of, communities_of}
use Rattle.communities.specs.Text.{community_text}
use Rattle.communities.proofs.Bodies.{size_here, size_long, community_sizes}
use Rattle.communities.proofs.Bodies as bodies
use Rattle.communities.proofs.Texts.{text_short}
use Rattle.line.specs.Text.{space, communities_text}
use Rattle.line.proofs.Costs.{text_cost, separated_length}

-- the texts of the communities from a place on
abbrev pub community_texts : List ℕ → ℕ → List (List ℕ)
community_texts s p = map community_text (communities_of (drop p s))

module _ (s : List ℕ) (p : ℕ) where
  -- that of the community there, and of those after it
  pub communities_next : community_size ≤ length s - p → community_texts s p ≡ community_text (number_at s p community_size) ∷ community_texts s (p + community_size)
  communities_next h = ap (map community_text) (bodies.communities_next s p h)

  -- none is left
  pub communities_end : length s - p < community_size → community_texts s p ≡ []
  communities_end h = ap (map community_text) (bodies.communities_end s p h)

-- communities as text have at most 5 bytes for each of their own
pub communities_short : (l : List ℕ) → length (communities_text (communities_of l)) ≤ 5 * length l
communities_short l =
    let each : (l : List ℕ) → (size_at l ≡ 0 → ⊥) → text_cost community_text (community_of l) ≤ 5 * size_at l
    = λ l n. omega (arith, text_short (community_of l), size_here l (size_long l n)) in
    omega (arith, separated_length space community_text (communities_of l), items_cost size_at community_of community_sizes (text_cost community_text) 5 each l)
