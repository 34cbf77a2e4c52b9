-- Laws of the segment at a place: where one stands, and its size. Assumes nothing.
use Prim.Native.Nat.{ℕ, ◌+◌, ◌-◌, ◌*◌, ◌≤◌}
use native.Mathlib.Nat.{add-zero, lt_of_not-le}
use native.Mathlib.Decide.{dec_le, ℕ_discrete}
use native.Mathlib.Omega.{arith}
use mathlib.Core.Path.{◌≡◌, refl, ◌∙◌}
use mathlib.Core.Bool.{true}
use mathlib.Core.List.{List}
use mathlib.Core.Logic.{◌⊎◌, inl, inr, ⊎_elim}
use lib.Dec.{ltb, eqb}
use lib.ListN.{length, get_or, drop, length-drop}
use lib.Seq.{get_or-drop}
use borrow.Author.Tests.{lt-ltb, le-ltb, eq-eqb, ne_eqb}
use Rattle.octets.specs.Choice.{pick}
use Rattle.octets.proofs.Rows.{Sizes}
use Rattle.aspath.specs.Wire.{known, segment_size}

-- a whole segment stands at a place: a type that is known, a count of 1 or more, and that many numbers before the end
pub record Stands (w : ℕ) (s : List ℕ) (at : ℕ) : Type 0 where
  pub type : (get_or s at 0 ≡ 1) ⊎ (get_or s at 0 ≡ 2)
  pub some : 1 ≤ get_or s (at + 1) 0
  pub fits : at + (2 + get_or s (at + 1) 0 * w) ≤ length s

dec_type : (k : ℕ) → Dec ((k ≡ 1) ⊎ (k ≡ 2))
dec_type k = go (ℕ_discrete k 1) (ℕ_discrete k 2)
  where
    go : Dec (k ≡ 1) → Dec (k ≡ 2) → Dec ((k ≡ 1) ⊎ (k ≡ 2))
    go (yes e) d = yes (inl e)
    go (no f) (yes e) = yes (inr e)
    go (no f) (no g) = no (⊎_elim f g)

type_known : {k : ℕ} → (k ≡ 1) ⊎ (k ≡ 2) → known k ≡ true
type_known (inl e) = rw e refl
type_known (inr e) = rw e refl

module _ (w : ℕ) (s : List ℕ) (at : ℕ) where
  -- the size, by places of the whole
  size_at : segment_size w (drop at s) ≡ pick (ltb (length s - at) 2) 0
      (pick (known (get_or s at 0))
      (pick (eqb (get_or s (at + 1) 0) 0) 0
      (pick (ltb (length s - at) (2 + get_or s (at + 1) 0 * w)) 0 (2 + get_or s (at + 1) 0 * w)))
      0)
  unfolding segment_size
  size_at = simp (length-drop, get_or-drop, add-zero)

  -- the size of a segment that stands
  pub stands_size : Stands w s at → segment_size w (drop at s) ≡ 2 + get_or s (at + 1) 0 * w
  stands_size t =
      let long : 2 ≤ length s - at = omega (arith, t.fits) in
      let counted : get_or s (at + 1) 0 ≡ 0 → ⊥ = λ e. omega (arith, t.some) in
      let fits : 2 + get_or s (at + 1) 0 * w ≤ length s - at = omega (arith, t.fits) in
      size_at ∙ simp (le-ltb _ _ long, type_known t.type, ne_eqb _ _ counted, le-ltb _ _ fits)

  -- where the size isn't 0, a segment stands
  pub size_stands : (segment_size w (drop at s) ≡ 0 → ⊥) → Stands w s at
  size_stands n = go (dec_le 2 (length s - at)) (dec_type (get_or s at 0)) (ℕ_discrete (get_or s (at + 1) 0) 0) (dec_le (2 + get_or s (at + 1) 0 * w) (length s - at))
    where
      go : Dec (2 ≤ length s - at) → Dec ((get_or s at 0 ≡ 1) ⊎ (get_or s at 0 ≡ 2)) → Dec (get_or s (at + 1) 0 ≡ 0)
          → Dec (2 + get_or s (at + 1) 0 * w ≤ length s - at) → Stands w s at
      go (no f) k z d = absurd (n (size_at ∙ simp (lt-ltb _ _ (lt_of_not-le f))))
      go (yes h) (no f) z d = absurd (n (size_at ∙ simp (le-ltb _ _ h, ne_eqb _ _ (λ e. f (inl e)), ne_eqb _ _ (λ e. f (inr e)))))
      go (yes h) (yes k) (yes z) d = absurd (n (size_at ∙ simp (le-ltb _ _ h, type_known k, eq-eqb _ _ z)))
      go (yes h) (yes k) (no z) (no f) = absurd (n (size_at ∙ simp (le-ltb _ _ h, type_known k, ne_eqb _ _ z, lt-ltb _ _ (lt_of_not-le f))))
      go (yes h) (yes k) (no z) (yes d) = record { type = k; some = omega arith; fits = omega arith }

  -- where none stands, the size is 0
  pub size_none : (Stands w s at → ⊥) → segment_size w (drop at s) ≡ 0
  size_none n = go (ℕ_discrete (segment_size w (drop at s)) 0)
    where
      go : Dec (segment_size w (drop at s) ≡ 0) → segment_size w (drop at s) ≡ 0
      go (yes z) = z
      go (no z) = absurd (n (size_stands z))

-- a segment has no more bytes than there are
pub segment_sizes : (w : ℕ) → Sizes (segment_size w)
segment_sizes w = record { fits = λ l. go l (ℕ_discrete (segment_size w l) 0) }
  where
    go : (l : List ℕ) → Dec (segment_size w l ≡ 0) → segment_size w l ≤ length l
    go l (yes z) = omega arith
    go l (no z) = let t = size_stands w l 0 z in rw (stands_size w l 0 t) (omega (arith, t.fits))
