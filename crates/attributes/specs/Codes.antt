-- Whether a code comes twice.
use Rattle.std.specs.Prelude.{ℕ, ◌<◌, ◌≡◌, Bool, true, false, List, [], ◌∷◌, length, get_or, eqb}
use Rattle.octets.specs.Choice.{pick}
use Rattle.octets.specs.Rows.{whole}
use Rattle.attributes.specs.Wire.{attribute_size, raws_of, codes}

-- some code stands at two places
pub record Twice (cs : List ℕ) : Type 0 where
  pub i : ℕ
  pub j : ℕ
  pub order : i < j
  pub within : j < length cs
  pub same : get_or cs i 0 ≡ get_or cs j 0

-- ---- what the code computes

unfoldable pub elem : ℕ → List ℕ → Bool
elem k [] = false
elem k (c ∷ cs) = pick (eqb c k) true (elem k cs)

unfoldable pub distinct : List ℕ → Bool
distinct [] = true
distinct (c ∷ cs) = pick (elem c cs) false (distinct cs)

-- a section is attributes to its end, no code twice
abbrev pub is_sound : List ℕ → Bool
is_sound l = pick (whole attribute_size l) (distinct (codes (raws_of l))) false
