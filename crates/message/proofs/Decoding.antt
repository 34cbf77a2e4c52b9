-- A record is read where it passes every check, and only there. Assumes nothing.
use Prim.Native.Nat.{ℕ}
use native.Mathlib.Decide.{ℕ_discrete}
use native.Mathlib.Omega.{arith}
use mathlib.Core.Path.{◌≡◌, refl}
use mathlib.Core.Bool.{Bool, true, false}
use mathlib.Core.List.{List}
use lib.Dec.{eqb}
use borrow.Author.Tests.{eq-eqb, ne_eqb}
use Rattle.octets.specs.Choice.{pick}
use Rattle.aspath.specs.declared.Width.{Width}
use Rattle.message.specs.declared.Parts.{Parts}
use Rattle.message.specs.declared.Refusal.{Refusal}
use Rattle.std.specs.Prelude.{Result, Ok, Err}
use Rattle.message.specs.Message.{update}
use Rattle.message.specs.Fields.{width_of, frame, message_type, body, withdrawn_in, attributes_in, announced_in}
use Rattle.message.specs.Decode.{wrong_size, wrong_mrt_type, wrong_peer, wrong_frame, wrong_sections, wrong_attributes, wrong_body, wrong_prefix, other_parts, update_parts, update_of, message_of, decode_of}
use Rattle.message.proofs.Checks.{RightSize, RightMrtType, RightPeer, RightFrame, RightUpdate, size_sound, size_complete, mrt_type_sound, mrt_type_complete, peer_sound, peer_complete, frame_sound, frame_complete, sections_sound, sections_complete, attributes_sound, attributes_complete, body_sound, body_complete, prefix_sound, prefix_complete}

-- the parts of a record that is read, at a width: by its type, those of an UPDATE or of another message
unfoldable pub parts_at : Width → List ℕ → Parts
parts_at w s = pick (eqb (message_type (frame w s)) update) (update_parts w s) (other_parts w s)

-- at the width that its subtype tells
abbrev pub parts_of : List ℕ → Parts
parts_of s = parts_at (width_of s) s

-- the checks after the header pass
pub record PassesAt (w : Width) (s : List ℕ) : Type 0 where
  pub peer : RightPeer w s
  pub framed : RightFrame (frame w s)
  pub updated : message_type (frame w s) ≡ update → RightUpdate w (body w s)

-- every check passes
pub record Passes (s : List ℕ) : Type 0 where
  pub size : RightSize s
  pub mrt_type : RightMrtType s
  pub rest : PassesAt (width_of s) s

-- ---- where the checks pass, the record is read

update_read : {w : Width} (s : List ℕ) → RightUpdate w (body w s) → update_of w s ≡ Ok (update_parts w s)
unfolding update_of
update_read {w} s u =
    let b = body w s in
    simp (
      sections_complete b u.fits,
      attributes_complete (attributes_in b) u.attributes_whole u.attributes_once,
      body_complete w (attributes_in b) u.attributes_right,
      prefix_complete (withdrawn_in b) (announced_in b) u.withdrawn_whole u.announced_whole,
    )

message_read : {w : Width} {s : List ℕ} → PassesAt w s → message_of w s ≡ Ok (parts_at w s)
unfolding message_of parts_at
message_read {w} {s} x = simp (peer_complete x.peer, frame_complete x.framed) (go (ℕ_discrete (message_type (frame w s)) update))
  where
    go : Dec (message_type (frame w s) ≡ update)
        → pick (eqb (message_type (frame w s)) update) (update_of w s) (Ok (other_parts w s)) ≡ Ok (pick (eqb (message_type (frame w s)) update) (update_parts w s) (other_parts w s))
    go (yes e) = simp (eq-eqb _ _ e) (update_read s (x.updated e))
    go (no n) = simp (ne_eqb _ _ n)

-- a record that passes every check is read
pub passes_read : {s : List ℕ} → Passes s → decode_of s ≡ Ok (parts_of s)
unfolding decode_of
passes_read x = simp (size_complete x.size, mrt_type_complete x.mrt_type) (message_read x.rest)

-- ---- a record that is read passes the checks

-- a check that is followed by an answer passes
passed : (b : Bool) (r : Refusal) {x : Result Parts Refusal} {p : Parts} → pick b (Err r) x ≡ Ok p → (b ≡ false) × (x ≡ Ok p)
passed true r e = let z : ◌≡◌ {A = ℕ} 0 1 = cc in absurd (omega arith)
passed false r e = (refl, e)

read_update : (w : Width) (s : List ℕ) {p : Parts} → update_of w s ≡ Ok p → RightUpdate w (body w s) × (p ≡ update_parts w s)
unfolding update_of
read_update w s e =
    let b = body w s in
    let x = passed (wrong_sections b) _ e in
    let y = passed (wrong_attributes (attributes_in b)) _ x.1 in
    let z = passed (wrong_body w (attributes_in b)) _ y.1 in
    let v = passed (wrong_prefix (withdrawn_in b) (announced_in b)) _ z.1 in
    let a = attributes_sound (attributes_in b) y.0 in
    let q = prefix_sound (withdrawn_in b) (announced_in b) v.0 in (
      record {
        fits = sections_sound b x.0;
        attributes_whole = a.0;
        attributes_once = a.1;
        attributes_right = body_sound w (attributes_in b) z.0;
        withdrawn_whole = q.0;
        announced_whole = q.1;
      },
      cc v.1,
    )

read_message : (w : Width) (s : List ℕ) {p : Parts} → message_of w s ≡ Ok p → PassesAt w s × (p ≡ parts_at w s)
unfolding message_of parts_at
read_message w s {p} e =
    let x = passed (wrong_peer w s) _ e in
    let y = passed (wrong_frame (frame w s)) _ x.1 in
    go (peer_sound w s x.0) (frame_sound (frame w s) y.0) (ℕ_discrete (message_type (frame w s)) update) y.1
  where
    go : RightPeer w s → RightFrame (frame w s) → Dec (message_type (frame w s) ≡ update)
        → pick (eqb (message_type (frame w s)) update) (update_of w s) (Ok (other_parts w s)) ≡ Ok p
        → PassesAt w s × (p ≡ pick (eqb (message_type (frame w s)) update) (update_parts w s) (other_parts w s))
    go a b (yes k) f =
        let u = read_update w s (simp (eq-eqb _ _ k) at f) in
        (record { peer = a; framed = b; updated = λ h. u.0 }, simp (eq-eqb _ _ k) u.1)
    go a b (no n) f =
        let g : Ok (other_parts w s) ≡ Ok p = simp (ne_eqb _ _ n) at f in
        (record { peer = a; framed = b; updated = λ h. absurd (n h) }, simp (ne_eqb _ _ n) (cc))

-- a record that is read passes every check, and the answer is its parts
pub read_passes : (s : List ℕ) {p : Parts} → decode_of s ≡ Ok p → Passes s × (p ≡ parts_of s)
unfolding decode_of
read_passes s e =
    let x = passed (wrong_size s) _ e in
    let y = passed (wrong_mrt_type s) _ x.1 in
    let z = read_message (width_of s) s y.1 in
    (record { size = size_sound s x.0; mrt_type = mrt_type_sound s y.0; rest = z.0 }, z.1)
