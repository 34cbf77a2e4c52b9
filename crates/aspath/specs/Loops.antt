-- `-loops`: some number occurs twice with a different number between.
use Rattle.std.specs.Prelude.{ℕ, ◌<◌, Bool, true, false, List, [], ◌∷◌}
use Rattle.octets.specs.Choice.{pick}
use Rattle.octets.specs.Lists.{At}
use Rattle.aspath.specs.Members.{Member, Holds, holds, some_held}

-- a number is in the members at i and at j, and not in one between them
pub record Loop (path : List Member) : Type 0 where
  pub n : ℕ
  pub i : ℕ
  pub k : ℕ
  pub j : ℕ
  pub before : i < k
  pub after : k < j
  pub leaves : At (λ (m : Member). Holds m n) path i
  pub away : At (λ (m : Member). Holds m n → ⊥) path k
  pub returns : At (λ (m : Member). Holds m n) path j

-- ---- what the code computes

-- n returns in the members that follow; other: a member without it has been passed
unfoldable pub returns_in : Bool → ℕ → List Member → Bool
returns_in other n [] = false
returns_in other n (m ∷ ms) = pick (holds m n) (pick other true (returns_in other n ms)) (returns_in true n ms)

-- some number in the first member returns in those that follow, or there is a loop among these
unfoldable pub has_loop : List Member → Bool
has_loop [] = false
has_loop (m ∷ ms) = pick (some_held m (λ n. returns_in false n ms)) true (has_loop ms)
