-- Segments are read back from their bytes, those read are what the bytes say, and just the encodable ones have bytes. Assumes nothing.
use Prim.Native.Nat.{ℕ, ◌+◌, ◌*◌, ◌≤◌}
use native.Mathlib.Omega.{arith}
use mathlib.Core.Path.{◌≡◌, refl, ap, ◌∙◌}
use mathlib.Core.List.{List, [], ◌∷◌, ◌++◌}
use mathlib.Core.Logic.{◌⊎◌, inl, inr}
use lib.ListN.{length, get_or, take, drop, length-append, length-drop}
use lib.Seq.{take-add}
use lib.Dec.{eqb}
use Rattle.octets.specs.Choice.{pick}
use Rattle.octets.specs.Numbers.{Octets, Field, bytes_of}
use Rattle.octets.specs.Lists.{Every, total}
use Rattle.octets.specs.Rows.{Joined}
use Rattle.octets.proofs.Bytes.{octets_drop}
use Rattle.octets.proofs.Rows.{Reads, items_cost}
use Rattle.aspath.specs.Members.{SegmentType, set, sequence, Segment}
use Rattle.aspath.specs.Encodable.{segment_cost, EncodableSegment}
use Rattle.aspath.specs.Wire.{type_code, SegmentBytes, segment_size, segment_of, segments_of}
use Rattle.octets.proofs.Fields.{field_below}
use Rattle.octets.proofs.Encode.{bytes_field}
use Rattle.octets.proofs.Items.{joined_exist, joined_length, joined_every}
use Rattle.aspath.proofs.Segments.{Stands, stands_size, size_stands, segment_sizes}
use Rattle.aspath.proofs.NumberReads.{numbers_length, numbers_bytes, numbers_same, numbers_sound}

-- the code of a type is one of the two, is read as that type, and is that of the type read
type_code_lem : (k : SegmentType) → (type_code k ≡ 1) ⊎ (type_code k ≡ 2)
type_code_lem set = inl refl
type_code_lem sequence = inr refl

type_same : (k : SegmentType) → pick (eqb (type_code k) 1) set sequence ≡ k
type_same set = refl
type_same sequence = refl

type_sound : {k : ℕ} → (k ≡ 1) ⊎ (k ≡ 2) → type_code (pick (eqb k 1) set sequence) ≡ k
type_sound (inl e) = rw e refl
type_sound (inr e) = rw e refl

-- the bytes of a segment are as many as its numbers ask for
segment_length : (w : ℕ) {s : Segment} {bytes : List ℕ} → SegmentBytes w s bytes → length bytes ≡ segment_cost w s
segment_length w x = ap length x.joined ∙ omega (arith, numbers_bytes w x.numbers)

-- and so are those of segments one after another
pub segments_length : (w : ℕ) {ss : List Segment} {bytes : List ℕ} → Joined (SegmentBytes w) ss bytes → length bytes ≡ total (segment_cost w) ss
segments_length w j = joined_length (segment_cost w) (λ s bytes x. segment_length w x) j

-- a segment stands at the front of its bytes and what follows
segment_stands : (w : ℕ) {s : Segment} {bytes : List ℕ} → SegmentBytes w s bytes → (rest : List ℕ) → Stands w (bytes ++ rest) 0
segment_stands w {s} x rest = rw x.joined (record {
  type = type_code_lem s.type;
  some = x.some;
  fits = simp length-append (omega (arith, numbers_bytes w x.numbers));
})

-- the size is that of the segment, whatever follows it
segment_exact : (w : ℕ) {s : Segment} {bytes : List ℕ} → SegmentBytes w s bytes → (rest : List ℕ) → segment_size w (bytes ++ rest) ≡ length bytes
segment_exact w {s} x rest =
    stands_size w _ 0 (segment_stands w x rest) ∙ rw x.joined (omega (arith, numbers_bytes w x.numbers))

-- and what is read is the segment
segment_same : (w : ℕ) {s : Segment} {bytes : List ℕ} → SegmentBytes w s bytes → (rest : List ℕ) → segment_of w (bytes ++ rest) ≡ s
unfolding segment_of
segment_same w {s} x rest = rw x.joined (λ i. record { type = type_same s.type i; numbers = numbers_same w x.numbers rest i })

-- the bytes of a segment in their parts
segment_joined : (w : ℕ) (l : List ℕ) → Stands w l 0
    → take (2 + get_or l 1 0 * w) l ≡ type_code (segment_of w l).type ∷ length (segment_of w l).numbers ∷ take (get_or l 1 0 * w) (drop 2 l)
unfolding segment_of
segment_joined w [] x = absurd (omega (arith, x.fits))
segment_joined w (a ∷ []) x = absurd (omega (arith, x.fits))
segment_joined w (k ∷ c ∷ body) x = take-add 2 (c * w) (k ∷ c ∷ body) ∙ rw (type_sound x.type, numbers_length w c body)

-- the bytes of the segment read are a segment's
segment_sound : (w : ℕ) (l : List ℕ) → Octets l → (segment_size w l ≡ 0 → ⊥) → SegmentBytes w (segment_of w l) (take (segment_size w l) l)
unfolding segment_of
segment_sound w l o n =
    let x = size_stands w l 0 n in
    let c = get_or l 1 0 in
    let e = numbers_length w c (drop 2 l) in
    record {
      some = rw e x.some;
      few = rw e (o.below 1);
      body = take (c * w) (drop 2 l);
      joined = ap (λ (m : ℕ). take m l) (stands_size w l 0 x) ∙ segment_joined w l x;
      numbers = numbers_sound w c (drop 2 l) (octets_drop 2 o) (simp length-drop (omega (arith, x.fits)));
    }

-- a segment is read back
pub segment_reads : (w : ℕ) → Reads (SegmentBytes w) (segment_size w) (segment_of w)
segment_reads w = record {
  fits = (segment_sizes w).fits;
  some = λ x. omega (arith, segment_length w x);
  exact = λ x rest. segment_exact w x rest;
  same = λ x rest. segment_same w x rest;
  sound = segment_sound w;
}

-- the segments of a body have no more bytes than it has
pub members_count : (w : ℕ) (l : List ℕ) → total (segment_cost w) (segments_of w l) ≤ length l
members_count w l = omega (arith, items_cost (segment_size w) (segment_of w) (segment_sizes w) (segment_cost w) 1 each l)
  where
    each : (l : List ℕ) → (segment_size w l ≡ 0 → ⊥) → segment_cost w (segment_of w l) ≤ 1 * segment_size w l
    each l n = rw (stands_size w l 0 (size_stands w l 0 n)) (unfold segment_of in rw (numbers_length w (get_or l 1 0) (drop 2 l)) (omega arith))

-- ---- the segments that have bytes

-- a segment that has bytes is encodable
pub segment_encodable : (w : ℕ) {s : Segment} {bytes : List ℕ} → SegmentBytes w s bytes → EncodableSegment w s
segment_encodable w x = record { some = x.some; few = x.few; below = joined_every (λ n bytes f. field_below f) x.numbers }

-- an encodable segment has bytes
segment_bytes : (w : ℕ) (s : Segment) → EncodableSegment w s → (bytes : List ℕ) × SegmentBytes w s bytes
segment_bytes w s x = (type_code s.type ∷ length s.numbers ∷ body.0, record { some = x.some; few = x.few; body = body.0; joined = refl; numbers = body.1 })
  where
    body : (bytes : List ℕ) × Joined (Field w) s.numbers bytes
    body = joined_exist (λ n h. (bytes_of w n, bytes_field w n h)) x.below

-- and so have such segments one after another
pub segments_exist : (w : ℕ) {ss : List Segment} → Every (EncodableSegment w) ss
    → (bytes : List ℕ) × Joined (SegmentBytes w) ss bytes × (length bytes ≡ total (segment_cost w) ss)
segments_exist w xs = let b = joined_exist (segment_bytes w) xs in (b.0, b.1, segments_length w b.1)
