-- The checks of a record: what holds where one passes, and that it passes where that holds. Assumes nothing.
use Prim.Native.Nat.{ℕ, ◌+◌, ◌≤◌}
use native.Mathlib.Decide.{ℕ_discrete}
use native.Mathlib.Omega.{arith}
use mathlib.Core.Path.{◌≡◌, refl, sym}
use mathlib.Core.Bool.{Bool, true, false, not}
use mathlib.Core.List.{List}
use lib.ListN.{length, take, replicate}
use lib.Dec.{ltb, eqb}
use borrow.Author.Tests.{ltb-false, le-ltb, eqb-true, eq-eqb, ne_eqb, not-false}
use Rattle.octets.specs.Choice.{pick}
use Rattle.octets.specs.Rows.{whole}
use Rattle.octets.proofs.Choices.{never, each}
use Rattle.network.specs.Networks.{address_bits}
use Rattle.network.specs.Wire.{prefix_size}
use Rattle.aspath.specs.declared.Width.{Width}
use Rattle.aspath.specs.declared.Width.TheVariants.{Two, Four}
use Rattle.aspath.specs.Wire.{width_bytes}
use Rattle.attributes.specs.Wire.{attribute_size, raws_of, codes}
use Rattle.attributes.specs.Codes.{distinct}
use Rattle.attributes.specs.Bodies.{all_right}
use Rattle.message.specs.Represents.{message_limit, marker_size, frame_header, ipv4, bgp4mp, subtype_of}
use Rattle.header.specs.Header.{header_size, type_field, subtype_field, length_field}
use Rattle.message.specs.Fields.{width_of, frame_start, family_field, frame_length, withdrawn_size, attributes_size, withdrawn_in, attributes_in, announced_in}
use Rattle.message.specs.Refusals.{record_limit}
use Rattle.message.specs.Decode.{wrong_size, wrong_mrt_type, wrong_peer, ones, wrong_frame, wrong_sections, wrong_attributes, wrong_body, wrong_prefix}
use Rattle.message.proofs.Ones.{ones_sound, ones_complete}

-- where neither of two tests may hold, each fails
neither : (a b : Bool) → pick a true b ≡ false → (a ≡ false) × (b ≡ false)
neither true b e = never (sym e)
neither false b e = (refl, e)

-- where the first test has to hold and the second to fail, they do
first_only : (a b : Bool) → pick a b true ≡ false → (a ≡ true) × (b ≡ false)
first_only true b e = (refl, e)
first_only false b e = never (sym e)

-- ---- the size

-- the bytes are 12 to 8,192, and the length is that of the rest
pub record RightSize (s : List ℕ) : Type 0 where
  pub long : header_size ≤ length s
  pub limited : length s ≤ record_limit
  pub even : header_size + length_field s ≡ length s

-- this holds where the check passes
pub size_sound : (s : List ℕ) → wrong_size s ≡ false → RightSize s
unfolding wrong_size
size_sound s e =
    let x = neither (ltb (length s) header_size) _ e in
    let y = neither (ltb record_limit (length s)) _ x.1 in
    record { long = ltb-false _ _ x.0; limited = ltb-false _ _ y.0; even = eqb-true _ _ (not-false _ y.1) }

-- the check passes where this holds
pub size_complete : {s : List ℕ} → RightSize s → wrong_size s ≡ false
unfolding wrong_size
size_complete x = simp (le-ltb _ _ x.long, le-ltb _ _ x.limited, eq-eqb _ _ x.even)

-- ---- the MRT type

-- the type is BGP4MP, and the subtype is that of the width
pub record RightMrtType (s : List ℕ) : Type 0 where
  pub type : type_field s ≡ bgp4mp
  pub subtype : subtype_field s ≡ subtype_of (width_of s)

-- this holds where the check passes
pub mrt_type_sound : (s : List ℕ) → wrong_mrt_type s ≡ false → RightMrtType s
unfolding wrong_mrt_type
mrt_type_sound s e = let x = first_only (eqb (type_field s) bgp4mp) _ e in record { type = eqb-true _ _ x.0; subtype = go (ℕ_discrete (subtype_field s) (subtype_of Two)) x.1 }
  where
    go : Dec (subtype_field s ≡ subtype_of Two) → pick (eqb (subtype_field s) (subtype_of Two)) false (not (eqb (subtype_field s) (subtype_of Four))) ≡ false → subtype_field s ≡ subtype_of (width_of s)
    go (yes h) f = simp (eq-eqb _ _ h) h
    go (no h) f = simp (ne_eqb _ _ h) (eqb-true _ _ (not-false _ (simp (ne_eqb _ _ h) at f)))

-- the check passes where this holds
pub mrt_type_complete : {s : List ℕ} → RightMrtType s → wrong_mrt_type s ≡ false
unfolding wrong_mrt_type
mrt_type_complete {s} x = simp (eq-eqb _ _ x.type) (go (ℕ_discrete (subtype_field s) (subtype_of Two)))
  where
    go : Dec (subtype_field s ≡ subtype_of Two) → pick (eqb (subtype_field s) (subtype_of Two)) false (not (eqb (subtype_field s) (subtype_of Four))) ≡ false
    go (yes h) = simp (eq-eqb _ _ h)
    go (no h) = let f : subtype_field s ≡ subtype_of Four = simp (ne_eqb _ _ h) at x.subtype in simp (ne_eqb _ _ h, eq-eqb _ _ f)

-- ---- the peer part

-- the peer part is there, and its family is IPv4
pub record RightPeer (w : Width) (s : List ℕ) : Type 0 where
  pub fits : frame_start w ≤ length s
  pub family : family_field w s ≡ ipv4

-- this holds where the check passes
pub peer_sound : (w : Width) (s : List ℕ) → wrong_peer w s ≡ false → RightPeer w s
unfolding wrong_peer
peer_sound w s e =
    let x = neither (ltb (length s) (frame_start w)) _ e in
    record { fits = ltb-false _ _ x.0; family = eqb-true _ _ (not-false _ x.1) }

-- the check passes where this holds
pub peer_complete : {w : Width} {s : List ℕ} → RightPeer w s → wrong_peer w s ≡ false
unfolding wrong_peer
peer_complete x = simp (le-ltb _ _ x.fits, eq-eqb _ _ x.family)

-- ---- the frame

-- the bytes are 19 to 4,096, the marker is there, and the length is theirs
pub record RightFrame (l : List ℕ) : Type 0 where
  pub long : frame_header ≤ length l
  pub limited : length l ≤ message_limit
  pub marked : take marker_size l ≡ replicate marker_size 255
  pub even : frame_length l ≡ length l

-- this holds where the check passes
pub frame_sound : (l : List ℕ) → wrong_frame l ≡ false → RightFrame l
unfolding wrong_frame
frame_sound l e =
    let x = neither (ltb (length l) frame_header) _ e in
    let y = neither (ltb message_limit (length l)) _ x.1 in
    let z = first_only (ones marker_size l) _ y.1 in
    record {
      long = ltb-false _ _ x.0;
      limited = ltb-false _ _ y.0;
      marked = ones_sound marker_size l z.0;
      even = eqb-true _ _ (not-false _ z.1);
    }

-- the check passes where this holds
pub frame_complete : {l : List ℕ} → RightFrame l → wrong_frame l ≡ false
unfolding wrong_frame
frame_complete {l} x = simp (le-ltb _ _ x.long, le-ltb _ _ x.limited, ones_complete marker_size l x.marked, eq-eqb _ _ x.even)

-- ---- the body of an UPDATE

-- the sections fit, the attributes are whole, come once and have right bodies, and the prefixes are whole
pub record RightUpdate (w : Width) (b : List ℕ) : Type 0 where
  pub fits : 4 + withdrawn_size b + attributes_size b ≤ length b
  pub attributes_whole : whole attribute_size (attributes_in b) ≡ true
  pub attributes_once : distinct (codes (raws_of (attributes_in b))) ≡ true
  pub attributes_right : all_right (width_bytes w) (raws_of (attributes_in b)) ≡ true
  pub withdrawn_whole : whole (prefix_size address_bits) (withdrawn_in b) ≡ true
  pub announced_whole : whole (prefix_size address_bits) (announced_in b) ≡ true

-- the sections fit where their check passes
pub sections_sound : (b : List ℕ) → wrong_sections b ≡ false → 4 + withdrawn_size b + attributes_size b ≤ length b
unfolding wrong_sections
sections_sound b e = ltb-false _ _ (neither (ltb (length b) (4 + withdrawn_size b)) _ e).1

-- their check passes where they fit
pub sections_complete : (b : List ℕ) → 4 + withdrawn_size b + attributes_size b ≤ length b → wrong_sections b ≡ false
unfolding wrong_sections
sections_complete b h = let k : 4 + withdrawn_size b ≤ length b = omega arith in simp (le-ltb _ _ k, le-ltb _ _ h)

-- the attributes are whole and come once where their check passes
pub attributes_sound : (l : List ℕ) → wrong_attributes l ≡ false → (whole attribute_size l ≡ true) × (distinct (codes (raws_of l)) ≡ true)
unfolding wrong_attributes
attributes_sound l e = each (whole attribute_size l) _ (not-false _ e)

-- their check passes where they are and do
pub attributes_complete : (l : List ℕ) → whole attribute_size l ≡ true → distinct (codes (raws_of l)) ≡ true → wrong_attributes l ≡ false
unfolding wrong_attributes
attributes_complete l h k = simp (h, k)

-- the bodies are right where their check passes
pub body_sound : (w : Width) (l : List ℕ) → wrong_body w l ≡ false → all_right (width_bytes w) (raws_of l) ≡ true
unfolding wrong_body
body_sound w l e = not-false _ e

-- their check passes where they are
pub body_complete : (w : Width) (l : List ℕ) → all_right (width_bytes w) (raws_of l) ≡ true → wrong_body w l ≡ false
unfolding wrong_body
body_complete w l h = simp h

-- the prefixes are whole where their check passes
pub prefix_sound : (x y : List ℕ) → wrong_prefix x y ≡ false → (whole (prefix_size address_bits) x ≡ true) × (whole (prefix_size address_bits) y ≡ true)
unfolding wrong_prefix
prefix_sound x y e = let z = first_only (whole (prefix_size address_bits) x) _ e in (z.0, not-false _ z.1)

-- their check passes where they are
pub prefix_complete : (x y : List ℕ) → whole (prefix_size address_bits) x ≡ true → whole (prefix_size address_bits) y ≡ true → wrong_prefix x y ≡ false
unfolding wrong_prefix
prefix_complete x y h k = simp (h, k)
