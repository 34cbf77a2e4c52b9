-- Raw attributes are read back from their bytes, those read are what the bytes say, and just those that fit have bytes. Assumes nothing.
use Prim.Native.Nat.{ℕ, ◌+◌, ◌^◌, ◌≤◌, ◌<◌}
use native.Mathlib.Nat.{lt_of_not-le, add_assoc}
use native.Mathlib.Decide.{dec_le}
use native.Mathlib.Omega.{arith}
use mathlib.Core.Path.{◌≡◌, refl, sym, ap, ◌∙◌}
use mathlib.Core.List.{List, [], ◌∷◌, ◌++◌, append_assoc}
use mathlib.Core.Logic.{◌⊎◌, inl, inr}
use lib.ListN.{length, take, drop, length-append, length-drop}
use lib.Seq.{take-add, drop-drop, take-append_seam, drop-append_seam, length-take-le}
use borrow.Author.Tests.{lt-ltb, le-ltb}
use Rattle.octets.specs.Numbers.{Octets, number_at, bytes_of}
use Rattle.octets.proofs.Bytes.{octets_take, octets_drop, octets_append}
use Rattle.octets.proofs.Numbers.{number_front, number_after, number_take}
use Rattle.octets.proofs.Fields.{field_below}
use Rattle.octets.proofs.Rows.{Reads}
use Rattle.attributes.specs.Encodable.{with_header}
use Rattle.attributes.specs.Wire.{Raw, RawBytes, extended_length, length_width, attribute_header, body_size, attribute_size, raw_of}
use Rattle.attributes.proofs.Sizes.{width_either, width_least, fits_stands, size_stands, attribute_sizes}
use Rattle.octets.proofs.Encode.{bytes_field, bytes_length, octets_one}

-- ---- reading an attribute's bytes

module _ {r : Raw} {bytes : List ℕ} (x : RawBytes r bytes) (rest : List ℕ) where
  raw_header : attribute_header (bytes ++ rest) ≡ 2 + length x.size
  unfolding attribute_header
  raw_header = rw (x.joined, x.sized.long)

  raw_body : body_size (bytes ++ rest) ≡ length r.body
  unfolding body_size
  raw_body =
      let w = length_width x.flags in
      let h : 0 + w ≤ length x.size = omega (arith, x.sized.long) in
      rw x.joined
      (number_after (x.flags ∷ r.code ∷ []) (x.size ++ r.body ++ rest) 0 w
      ∙ rw (append_assoc x.size r.body rest) (number_front x.size (r.body ++ rest) 0 w h)
      ∙ x.sized.value)

  raw_length : length bytes ≡ 2 + length x.size + length r.body
  raw_length = ap length x.joined ∙ simp length-append (omega arith)

  raw_stands : attribute_header (bytes ++ rest) + body_size (bytes ++ rest) ≤ length (bytes ++ rest)
  raw_stands = simp (raw_header, raw_body, length-append) (omega (arith, raw_length))

  raw_exact : attribute_size (bytes ++ rest) ≡ length bytes
  raw_exact = (fits_stands (bytes ++ rest) raw_stands).parts ∙ omega (arith, raw_header, raw_body, raw_length)

  body_after : take (length r.body) (drop (2 + length x.size) (x.flags ∷ r.code ∷ (x.size ++ r.body ++ rest))) ≡ r.body
  body_after =
      rw (← drop-drop (length x.size) 2 (x.flags ∷ r.code ∷ (x.size ++ r.body ++ rest)), append_assoc x.size r.body rest)
      (rw (drop-append_seam x.size (r.body ++ rest)) (take-append_seam r.body rest))

  raw_same : raw_of (bytes ++ rest) ≡ r
  unfolding raw_of
  raw_same = rw (raw_header, raw_body, x.joined) (λ i. record { code = r.code; body = body_after i })

-- ---- what is read

raw_sound : (l : List ℕ) → Octets l → attribute_header l + body_size l ≤ length l → RawBytes (raw_of l) (take (attribute_header l + body_size l) l)
unfolding attribute_header body_size raw_of
raw_sound [] o h = absurd (omega arith)
raw_sound (f ∷ []) o h = absurd (omega arith)
raw_sound (f ∷ c ∷ l) o h =
    let w = length_width f in
    let n = number_at (f ∷ c ∷ l) 2 w in
    let body : length (take n (drop (2 + w) (f ∷ c ∷ l))) ≡ n = length-take-le n (drop (2 + w) (f ∷ c ∷ l)) (simp length-drop (omega arith)) in
    record {
      flags = f;
      flag_byte = o.below 0;
      code_byte = o.below 1;
      octets = octets_take n (octets_drop (2 + w) o);
      size = take w l;
      sized = record {
        long = length-take-le w l (omega arith);
        octets = octets_take w (octets_drop 2 o);
        value = number_take l w 0 w (omega arith) ∙ sym (number_after (f ∷ c ∷ []) l 0 w) ∙ sym body;
      };
      joined = rw (add_assoc 2 w n) (take-add 2 (w + n) (f ∷ c ∷ l))
          ∙ ap (λ (t : List ℕ). f ∷ c ∷ t) (take-add w n l ∙ ap (λ (t : List ℕ). take w l ++ take n t) (drop-drop w 2 (f ∷ c ∷ l)));
    }

-- a raw attribute is read back
pub raw_reads : Reads RawBytes attribute_size raw_of
raw_reads = record {
  fits = attribute_sizes.fits;
  some = λ x. omega (arith, raw_length x []);
  exact = λ x rest. raw_exact x rest;
  same = λ x rest. raw_same x rest;
  sound = λ l o n. let s = size_stands l n in rw s.parts (raw_sound l o (rw s.parts at s.fits));
}

-- the bytes of a raw attribute are bytes
pub raw_octets : {r : Raw} {bytes : List ℕ} → RawBytes r bytes → Octets bytes
raw_octets {r} x =
    rw x.joined
    (octets_append (octets_one x.flags x.flag_byte)
    (octets_append (octets_one r.code x.code_byte) (octets_append x.sized.octets x.octets)))

-- ---- the raw attributes that have bytes

-- the fewest bytes of a raw attribute
abbrev raw_size : Raw → ℕ
raw_size r = with_header (length r.body)

module _ {r : Raw} {bytes : List ℕ} (x : RawBytes r bytes) where
  -- the body of one that has bytes is shorter than 2 ^ 16
  pub raw_short : length r.body < 65536
  raw_short = go (width_either x.flags)
    where
      go : (length_width x.flags ≡ 1) ⊎ (length_width x.flags ≡ 2) → length r.body < 65536
      go (inl e) = let h = rw e at (field_below x.sized) in omega arith
      go (inr e) = rw e at (field_below x.sized)

  -- and its bytes are no fewer than that
  pub raw_least : raw_size r ≤ length bytes
  unfolding with_header
  raw_least = go (width_either x.flags) (dec_le 256 (length r.body))
    where
      go : (length_width x.flags ≡ 1) ⊎ (length_width x.flags ≡ 2) → Dec (256 ≤ length r.body) → raw_size r ≤ length bytes
      go (inl e) (yes long) = let h = rw e at (field_below x.sized) in absurd (omega arith)
      go (inr e) (yes long) = rw (le-ltb _ _ long) (omega (arith, raw_length x [], x.sized.long))
      go e (no short) = rw (lt-ltb _ _ (lt_of_not-le short)) (omega (arith, raw_length x [], x.sized.long, width_least x.flags))

with_flags : (r : Raw) (flags : ℕ) → flags < 256 → r.code < 256 → Octets r.body → length r.body < 256 ^ length_width flags
    → (bytes : List ℕ) × RawBytes r bytes × (length bytes ≡ length r.body + (2 + length_width flags))
with_flags r flags f c o h =
    let w = length_width flags in
    let size = bytes_of w (length r.body) in (
      flags ∷ r.code ∷ (size ++ r.body),
      record { flags = flags; flag_byte = f; code_byte = c; octets = o; size = size; sized = bytes_field w (length r.body) h; joined = refl },
      simp length-append (omega (arith, bytes_length w (length r.body))),
    )

-- a raw attribute of a code and a body that fit has bytes
pub raw_exists : (r : Raw) → r.code < 256 → Octets r.body → length r.body < 65536
    → (bytes : List ℕ) × RawBytes r bytes × (length bytes ≡ raw_size r)
unfolding with_header length_width
raw_exists r c o h = go (dec_le 256 (length r.body))
  where
    go : Dec (256 ≤ length r.body) → (bytes : List ℕ) × RawBytes r bytes × (length bytes ≡ raw_size r)
    go (yes long) = rw (le-ltb _ _ long) (with_flags r extended_length (omega arith) c o h)
    go (no short) = rw (lt-ltb _ _ (lt_of_not-le short)) (with_flags r 0 (omega arith) c o (lt_of_not-le short))
