-- Laws of what a walk finds of the attributes of a section: at the end, at one that isn't whole, at one that is. Assumes nothing.
use Prim.Native.Nat.{ℕ, ◌≤◌}
use mathlib.Core.Path.{◌≡◌, refl, ap, ◌∙◌}
use mathlib.Core.Bool.{Bool, true, false}
use mathlib.Core.List.{List, [], ◌∷◌}
use lib.ListN.{length, get_or, drop}
use lib.Dec.{eqb}
use Rattle.octets.specs.Choice.{pick}
use Rattle.octets.specs.Rows.{whole}
use Rattle.octets.proofs.Choices.{alike}
use Rattle.octets.proofs.Rows.{whole_next, whole_stop, items_end, items_next}
use Rattle.attributes.specs.Wire.{attribute_size, raw_of, raws_of, codes}
use Rattle.attributes.specs.Codes.{is_sound}
use Rattle.attributes.proofs.Sizes.{attribute_sizes}
use Rattle.attributes.proofs.Distinct.{fresh, Adds, fresh_start, fresh_end, fresh_marked, fresh_next}

-- the attributes are whole, none has a code that is marked, and no code comes twice
unfoldable pub sound_with : (ℕ → Bool) → List ℕ → Bool
sound_with marked l = pick (whole attribute_size l) (fresh marked (codes (raws_of l))) false

module _ (l : List ℕ) where
  -- where no attribute stands there are no codes
  codes_end : attribute_size l ≡ 0 → codes (raws_of l) ≡ []
  codes_end z = rw (items_end attribute_size raw_of l z) refl

  -- where one stands, its code is the first
  codes_next : {c : ℕ} → (attribute_size l ≡ 0 → ⊥) → get_or l 1 0 ≡ c → codes (raws_of l) ≡ c ∷ codes (raws_of (drop (attribute_size l) l))
  unfolding raw_of
  codes_next n e = ap codes (items_next attribute_size raw_of attribute_sizes l n) ∙ rw e refl

  -- with nothing marked, no code may come twice
  pub sound_start : (marked : ℕ → Bool) → ((c : ℕ) → marked c ≡ false) → sound_with marked l ≡ is_sound l
  unfolding sound_with
  sound_start marked h = rw (fresh_start marked h (codes (raws_of l))) refl

  module _ {c : ℕ} (n : attribute_size l ≡ 0 → ⊥) (code : get_or l 1 0 ≡ c) where
    -- it starts with one whose code is marked
    pub sound_marked : (marked : ℕ → Bool) → marked c ≡ true → sound_with marked l ≡ false
    unfolding sound_with
    sound_marked marked e =
        alike (whole attribute_size l) (ap (fresh marked) (codes_next n code) ∙ fresh_marked marked c (codes (raws_of (drop (attribute_size l) l))) e) refl

    -- it starts with one whose code isn't, and is marked then
    pub sound_next : {before after : ℕ → Bool} → Adds c before after → before c ≡ false → sound_with before l ≡ sound_with after (drop (attribute_size l) l)
    unfolding sound_with
    sound_next a e =
        rw (codes_next n code, whole_next attribute_size attribute_sizes l n, fresh_next a e (codes (raws_of (drop (attribute_size l) l)))) refl

-- where no attribute stands at a place, what is left is sound just where it is nothing
pub sound_stop : (marked : ℕ → Bool) (s : List ℕ) (at : ℕ) → at ≤ length s → attribute_size (drop at s) ≡ 0
    → eqb at (length s) ≡ sound_with marked (drop at s)
unfolding sound_with
sound_stop marked s at h z =
    rw (codes_end (drop at s) z, fresh_end marked, ← whole_stop attribute_size attribute_sizes s at h (rw z refl)) (go (eqb at (length s)))
  where
    go : (b : Bool) → b ≡ pick b true false
    go true = refl
    go false = refl
