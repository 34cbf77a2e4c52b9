-- Bytes and messages: a message's record is read as that message, what is read of a record is what it says, and bytes are one message's
-- record at most. Assumes nothing.
use Prim.Native.Nat.{ℕ, ◌≤◌}
use native.Mathlib.Decide.{ℕ_discrete}
use native.Mathlib.Omega.{arith}
use mathlib.Core.Path.{◌≡◌, refl, sym, ap, ◌∙◌, subst}
use mathlib.Core.List.{List, []}
use lib.ListN.{length, drop, length-drop}
use lib.Seq.{drop-drop}
use borrow.Author.Tests.{eq-eqb, ne_eqb}
use Rattle.octets.specs.Numbers.{Octets}
use Rattle.octets.specs.Rows.{items_in}
use Rattle.octets.proofs.Bytes.{octets_drop}
use Rattle.aspath.specs.declared.Width.{Width}
use Rattle.aspath.specs.declared.Width.TheVariants.{Two, Four}
use Rattle.aspath.specs.Wire.{width_bytes}
use Rattle.attributes.specs.Bodies.{attributes_of}
use Rattle.message.specs.declared.Parts.{Parts}
use Rattle.std.specs.Prelude.{Ok}
use Rattle.message.specs.Message.{Message, update}
use Rattle.message.specs.Represents.{frame_header, bgp4mp, subtype_of, BodyBytes, is_update, is_other, Represents}
use Rattle.header.specs.Header.{subtype_field, seconds_field, type_field}
use Rattle.message.specs.Fields.{width_of, peer_as_field, peer_address_field, frame_start, frame, message_type, body_start, body, withdrawn_in, attributes_in, announced_in}
use Rattle.message.specs.Decode.{networks_of, message_at, other_parts, update_parts, decode_of}
use Rattle.message.proofs.Checks.{RightSize, RightFrame, RightUpdate}
use Rattle.message.proofs.Decoding.{parts_at, parts_of, PassesAt, Passes, passes_read, read_passes}
use Rattle.message.proofs.RecordFields.{width_most, RecordFields, represents_fields, fields_represent}
use Rattle.message.proofs.FrameFields.{frame_fields, fields_frame}
use Rattle.message.proofs.UpdateFields.{update_fields, fields_update}
use Rattle.message.proofs.UpdateReads.{UpdateReads, update_reads, reads_update}
use Rattle.message.proofs.MessageAt.{message_with, message_update, message_other}

-- the body is what is left of the frame
body_in : (w : Width) (s : List ℕ) → drop frame_header (frame w s) ≡ body w s
body_in w s = drop-drop frame_header (frame_start w) s

-- ---- a message's record is read as that message

-- the subtype tells the width
width_told : (s : List ℕ) (w : Width) → subtype_field s ≡ subtype_of w → width_of s ≡ w
width_told s Two e = rw e
width_told s Four e = rw e

-- the parts of a record, by its type
parts_update : (w : Width) (s : List ℕ) → message_type (frame w s) ≡ update → parts_at w s ≡ update_parts w s
unfolding parts_at
parts_update w s e = simp (eq-eqb _ _ e)

parts_other : (w : Width) (s : List ℕ) → (message_type (frame w s) ≡ update → ⊥) → parts_at w s ≡ other_parts w s
unfolding parts_at
parts_other w s n = simp (ne_eqb _ _ n)

-- a message of a record's numbers is the one whose record it is, where its type and its lists are
with_fields : {m : Message} {s : List ℕ} → RecordFields m s → {type : ℕ} (withdrawn attributes announced : List ℕ) → type ≡ m.type
    → networks_of withdrawn ≡ m.withdrawn → attributes_of (width_bytes m.width) attributes ≡ m.attributes → networks_of announced ≡ m.announced
    → message_with m.width s type withdrawn attributes announced ≡ m
with_fields {m} f withdrawn attributes announced k x y z =
    λ i. record {
      seconds = f.seconds i;
      width = m.width;
      peer_as = f.peer_as i;
      peer_address = f.peer_address i;
      type = k i;
      withdrawn = x i;
      attributes = y i;
      announced = z i;
    }

-- the checks of an UPDATE's body pass, and the parts stand for the message
record Told (m : Message) (s : List ℕ) : Type 0 where
  right : message_type (frame m.width s) ≡ update → RightUpdate m.width (body m.width s)
  same : message_at s (parts_at m.width s) ≡ m

body_told : {m : Message} {s : List ℕ} → RecordFields m s → message_type (frame m.width s) ≡ m.type → BodyBytes m (body m.width s) → Told m s
unfolding items_in
body_told {m} {s} f k (is_update e u) =
    let w = m.width in
    let b = body w s in
    let r = update_reads (update_fields u) in
    record {
      right = λ h. r.right;
      same =
          ap (message_at s) (parts_update w s (k ∙ e)) ∙ message_update w s
          ∙ with_fields f (withdrawn_in b) (attributes_in b) (announced_in b) (sym e) r.withdrawn r.attributes r.announced;
    }
body_told {m} {s} f k (is_other n o) =
    let w = m.width in
    let no_update : message_type (frame w s) ≡ update → ⊥ = λ e. n (sym k ∙ e) in
    record {
      right = λ h. absurd (no_update h);
      same =
          ap (message_at s) (parts_other w s no_update) ∙ message_other w s
          ∙ with_fields f [] [] [] k (sym o.no_withdrawn) (sym o.no_attributes) (sym o.no_announced);
    }

fields_size : {m : Message} {s : List ℕ} → RecordFields m s → RightFrame (frame m.width s) → length s ≤ 4128
fields_size {m} {s} f g = omega (arith, f.fits, length-drop (frame_start m.width) s, g.limited, width_most m.width)

-- a record has at most 4,128 bytes
pub represents_size : {m : Message} {s : List ℕ} → Represents m s → length s ≤ 4128
represents_size r = let f = represents_fields r in fields_size f (frame_fields f.frame_is).right

-- a message's record is read, and what is read of it is the message
pub represents_read : {m : Message} {s : List ℕ} → Represents m s → (decode_of s ≡ Ok (parts_of s)) × (message_at s (parts_of s) ≡ m)
represents_read {m} {s} r =
    let f = represents_fields r in
    let g = frame_fields f.frame_is in
    let t = body_told f g.type (rw body_in at g.body_is) in
    let e : width_of s ≡ m.width = width_told s m.width f.subtype in
    let x : PassesAt m.width s = record { peer = record { fits = f.fits; family = f.family }; framed = g.right; updated = t.right } in (
      passes_read (record {
        size = record { long = omega (arith, f.even); limited = omega (arith, fields_size f g.right); even = f.even };
        mrt_type = record { type = f.type; subtype = f.subtype ∙ ap subtype_of (sym e) };
        rest = subst (λ (w : Width). PassesAt w s) (sym e) x;
      }),
      ap (λ (w : Width). message_at s (parts_at w s)) e ∙ t.same,
    )

-- bytes are one message's record at most
pub represents_one : {m m' : Message} {s : List ℕ} → Represents m s → Represents m' s → m ≡ m'
represents_one r r' = sym (represents_read r).1 ∙ (represents_read r').1

-- ---- what is read of a record is what it says

-- a message's numbers at their places and its body make its record, where the checks pass
passes_represent : (m : Message) {s : List ℕ} → Octets s → RightSize s → type_field s ≡ bgp4mp → subtype_field s ≡ subtype_of m.width
    → PassesAt m.width s → seconds_field s ≡ m.seconds → peer_as_field m.width s ≡ m.peer_as → peer_address_field m.width s ≡ m.peer_address
    → message_type (frame m.width s) ≡ m.type → BodyBytes m (body m.width s) → Represents m s
passes_represent m {s} o size t u x seconds peer address k b =
    let w = m.width in
    fields_represent o (record {
      seconds = seconds;
      type = t;
      subtype = u;
      even = size.even;
      fits = x.peer.fits;
      peer_as = peer;
      family = x.peer.family;
      peer_address = address;
      frame_is = fields_frame (octets_drop (frame_start w) o) (record { right = x.framed; type = k; body_is = rw body_in b });
    })

passes_message : {s : List ℕ} → Octets s → Passes s → Represents (message_at s (parts_of s)) s
passes_message {s} o x = go (ℕ_discrete (message_type (frame w s)) update)
  where
    w : Width
    w = width_of s

    b : List ℕ
    b = body w s

    go : Dec (message_type (frame w s) ≡ update) → Represents (message_at s (parts_of s)) s
    go (yes k) =
        let m = message_with w s update (withdrawn_in b) (attributes_in b) (announced_in b) in
        let r : UpdateReads m b = record { right = x.rest.updated k; withdrawn = refl; attributes = refl; announced = refl } in
        let ob = octets_drop (body_start w) o in
        subst (λ (x : Message). Represents x s) (sym (ap (message_at s) (parts_update w s k) ∙ message_update w s))
        (passes_represent m o x.size x.mrt_type.type x.mrt_type.subtype x.rest refl refl refl k
        (is_update refl (fields_update ob (reads_update ob r))))
    go (no n) =
        let m = message_with w s (message_type (frame w s)) [] [] [] in
        subst (λ (x : Message). Represents x s) (sym (ap (message_at s) (parts_other w s n) ∙ message_other w s))
        (passes_represent m o x.size x.mrt_type.type x.mrt_type.subtype x.rest refl refl refl refl
        (is_other n (record { octets = octets_drop (body_start w) o; no_withdrawn = unfold items_in in refl; no_attributes = unfold items_in in refl; no_announced = unfold items_in in refl })))

-- what is read of bytes is a message whose record they are
pub read_represents : {s : List ℕ} {p : Parts} → Octets s → decode_of s ≡ Ok p → Represents (message_at s p) s
read_represents {s} o e = let x = read_passes s e in rw x.1 (passes_message o x.0)
