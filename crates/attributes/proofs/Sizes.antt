-- Laws of the attribute at the front of some bytes: where one stands, and its size. Assumes nothing.
use Prim.Native.Nat.{ℕ, ◌+◌, ◌/◌, ◌%◌, ◌≤◌, ◌<◌}
use native.Mathlib.Nat.{lt_of_not-le, add-zero}
use native.Mathlib.Decide.{dec_le, ℕ_discrete}
use native.Mathlib.Omega.{arith}
use mathlib.Core.Path.{◌≡◌, refl}
use mathlib.Core.List.{List}
use mathlib.Core.Logic.{◌⊎◌, inl, inr}
use lib.ListN.{length, get_or, drop, length-drop}
use lib.Seq.{get_or-drop, drop-drop}
use borrow.Author.Tests.{le-leb, lt-leb, eq-eqb, ne_eqb}
use Rattle.octets.specs.Numbers.{number_at}
use Rattle.octets.proofs.Numbers.{number_lt, number_drop}
use Rattle.std.specs.Prelude.{Some}
use Rattle.octets.specs.Rows.{sized}
use Rattle.octets.proofs.Rows.{Sizes, sized_some}
use Rattle.attributes.specs.Wire.{extended_length, length_width, attribute_header, body_size, attribute_size}

-- the length is two bytes under the flag
pub width_two : (flags : ℕ) → flags / extended_length % 2 ≡ 1 → length_width flags ≡ 2
unfolding length_width
width_two flags e = simp (eq-eqb _ _ e)

-- and one byte without it
pub width_one : (flags : ℕ) → (flags / extended_length % 2 ≡ 1 → ⊥) → length_width flags ≡ 1
unfolding length_width
width_one flags n = simp (ne_eqb _ _ n)

-- and never anything else
pub width_either : (flags : ℕ) → (length_width flags ≡ 1) ⊎ (length_width flags ≡ 2)
width_either flags = go (ℕ_discrete (flags / extended_length % 2) 1)
  where
    go : Dec (flags / extended_length % 2 ≡ 1) → (length_width flags ≡ 1) ⊎ (length_width flags ≡ 2)
    go (yes e) = inr (width_two flags e)
    go (no n) = inl (width_one flags n)

-- so one at least
pub width_least : (flags : ℕ) → 1 ≤ length_width flags
width_least flags = go (width_either flags)
  where
    go : (length_width flags ≡ 1) ⊎ (length_width flags ≡ 2) → 1 ≤ length_width flags
    go (inl e) = omega arith
    go (inr e) = omega arith

-- a header is three bytes or more
pub header_least : (l : List ℕ) → 3 ≤ attribute_header l
unfolding attribute_header
header_least l = omega (arith, width_least (get_or l 0 0))

-- a body is shorter than 2 ^ 16
pub body_lt : (l : List ℕ) → ((i : ℕ) → get_or l i 0 < 256) → body_size l < 65536
unfolding body_size
body_lt l b = go (width_either (get_or l 0 0))
  where
    go : (length_width (get_or l 0 0) ≡ 1) ⊎ (length_width (get_or l 0 0) ≡ 2) → body_size l < 65536
    go (inl e) = rw e (omega (arith, number_lt l 2 1 b))
    go (inr e) = rw e (omega (arith, number_lt l 2 2 b))

-- the header of what stands at a place
pub header_at : (s : List ℕ) (at : ℕ) → attribute_header (drop at s) ≡ 2 + length_width (get_or s at 0)
unfolding attribute_header
header_at s at = rw (get_or-drop at s 0 0, add-zero) refl

-- and its body
pub body_at : (s : List ℕ) (at : ℕ) → body_size (drop at s) ≡ number_at s (at + 2) (length_width (get_or s at 0))
unfolding body_size
body_at s at = rw (get_or-drop at s 0 0, add-zero, number_drop s at 2 (length_width (get_or s at 0))) refl

-- a whole attribute stands at the front
pub record Stands (l : List ℕ) : Type 0 where
  pub long : 3 ≤ attribute_size l
  pub parts : attribute_size l ≡ attribute_header l + body_size l
  pub fits : attribute_size l ≤ length l

module _ (l : List ℕ) where
  whole_size : attribute_header l + body_size l ≤ length l → attribute_size l ≡ attribute_header l + body_size l
  unfolding attribute_size
  whole_size h = simp (le-leb _ _ h)

  -- where its bytes are there, one stands
  pub fits_stands : attribute_header l + body_size l ≤ length l → Stands l
  fits_stands h =
      let e = whole_size h in
      record { long = omega (arith, header_least l); parts = e; fits = omega arith }

  -- where they aren't, the size is 0
  pub short_none : length l < attribute_header l + body_size l → attribute_size l ≡ 0
  unfolding attribute_size
  short_none h = simp (lt-leb _ _ h)

  -- where the size isn't 0, one stands
  pub size_stands : (attribute_size l ≡ 0 → ⊥) → Stands l
  size_stands n = go (dec_le (attribute_header l + body_size l) (length l))
    where
      go : Dec (attribute_header l + body_size l ≤ length l) → Stands l
      go (yes h) = fits_stands h
      go (no f) = absurd (n (short_none (lt_of_not-le f)))

-- an attribute has no more bytes than there are
pub attribute_sizes : Sizes attribute_size
attribute_sizes = record { fits = λ l. go l (ℕ_discrete (attribute_size l) 0) }
  where
    go : (l : List ℕ) → Dec (attribute_size l ≡ 0) → attribute_size l ≤ length l
    go l (yes z) = omega arith
    go l (no z) = (size_stands l z).fits

-- an attribute of r bytes stands at a place of a section
pub record Step (s : List ℕ) (at r : ℕ) : Type 0 where
  pub same : attribute_size (drop at s) ≡ r
  pub some : attribute_size (drop at s) ≡ 0 → ⊥
  pub long : 3 ≤ r
  pub parts : attribute_header (drop at s) + body_size (drop at s) ≡ r
  pub fits : at + r ≤ length s
  pub next : drop (attribute_size (drop at s)) (drop at s) ≡ drop (at + r) s
  pub code : get_or (drop at s) 1 0 ≡ get_or s (at + 1) 0

-- it does where the size that is there is r
pub step : (s : List ℕ) (at : ℕ) {r : ℕ} → Some r ≡ sized (attribute_size (drop at s)) → Step s at r
step s at {r} e =
    let f = sized_some e in
    let stands = size_stands (drop at s) f.some in
    record {
      same = f.same;
      some = f.some;
      long = omega (arith, f.same, stands.long);
      parts = omega (arith, f.same, stands.parts);
      fits = omega (arith, f.same, stands.fits, stands.long, length-drop at s);
      next = rw f.same (drop-drop r at s);
      code = get_or-drop at s 1 0;
    }
