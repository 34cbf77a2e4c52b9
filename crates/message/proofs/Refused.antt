-- A record is refused with a number exactly where that row is the first of the table that holds. Assumes nothing.
use Prim.Native.Nat.{ℕ, ◌+◌, ◌-◌}
use mathlib.Core.Path.{◌≡◌, refl, sym, ap, ◌∙◌}
use mathlib.Core.Bool.{Bool, true, false}
use mathlib.Core.List.{List, map}
use lib.ListN.{get_or, drop}
use lib.Dec.{eqb}
use borrow.Author.Tests.{eqb-true, eqb-false}
use Rattle.octets.specs.Choice.{pick}
use Rattle.octets.specs.Numbers.{Octets}
use Rattle.octets.proofs.Bytes.{octets_drop, octets_take}
use Rattle.message.specs.declared.Parts.{Parts}
use Rattle.message.specs.declared.Refusal.{Refusal}
use Rattle.message.specs.declared.Refusal.TheVariants.{Size, MrtType, Peer, Frame, Sections, Attributes, Body, Prefix}
use Rattle.std.specs.Prelude.{Ok, Err}
use Rattle.message.specs.Message.{update}
use Rattle.message.specs.Fields.{width_of, frame, message_type, body_start, body, withdrawn_size, attributes_size, attributes_in}
use Rattle.message.specs.Refusals.{number, InUpdate, Row, rows, None, end, next, RefusedWith, Readable}
use Rattle.message.specs.Decode.{other_parts, update_parts, update_of, message_of, decode_of}
use Rattle.message.proofs.Deciding.{Decides}
use Rattle.message.proofs.HeaderChecks.{size_decides, mrt_type_decides, peer_decides, frame_decides}
use Rattle.message.proofs.BodyChecks.{sections_decides, attributes_decides, attributes_whole, body_decides, prefix_decides}
use Rattle.message.proofs.Table.{first_one, RowAnswers, answers_read, answers_row, first_refused, none_read}

-- in an UPDATE a check of the body decides the row on it
in_update : {b : Bool} {C : List ℕ → Type 0} {s : List ℕ} → message_type (frame (width_of s) s) ≡ update → Decides b (C (body (width_of s) s)) → Decides b (InUpdate C s)
in_update e d = record {
  sound = λ h. record { is_update = e; holds = d.sound h };
  complete = λ x. d.complete x.holds;
}

-- the rows on the body agree with the checks of an UPDATE's body
update_answers : {s : List ℕ} → Octets s → message_type (frame (width_of s) s) ≡ update → RowAnswers s (drop 4 rows) (update_of (width_of s) s)
unfolding rows update_of
update_answers {s} o e =
    let w = width_of s in
    let b = body w s in
    let ob = octets_drop (body_start w) o in
    let oa = octets_take (attributes_size b) (octets_drop (4 + withdrawn_size b) ob) in
    let ow = octets_take (withdrawn_size b) (octets_drop 2 ob) in
    let on = octets_drop (4 + withdrawn_size b + attributes_size b) ob in
    answers_row (in_update e (sections_decides b))
    (λ _. answers_row (in_update e (attributes_decides oa))
    (λ h. answers_row (in_update e (body_decides w oa (attributes_whole (attributes_in b) h)))
    (λ _. answers_row (in_update e (prefix_decides ow on))
    (λ _. answers_read (update_parts w s) end))))

-- they hold of no other message
other_rows : {s : List ℕ} → (message_type (frame (width_of s) s) ≡ update → ⊥) → None s (drop 4 rows)
unfolding rows
other_rows {s} n = next outside (next outside (next outside (next outside end)))
  where
    outside : {C : List ℕ → Type 0} → InUpdate C s → ⊥
    outside x = n x.is_update

-- the answer agrees with the table
pub decode_answers : {s : List ℕ} → Octets s → RowAnswers s rows (decode_of s)
unfolding rows decode_of message_of
decode_answers {s} o =
    let w = width_of s in
    answers_row (size_decides s)
    (λ _. answers_row (mrt_type_decides s)
    (λ _. answers_row (peer_decides s)
    (λ _. answers_row (frame_decides (frame w s))
    (λ _. by_type (eqb (message_type (frame w s)) update) refl))))
  where
    by_type : (t : Bool) → eqb (message_type (frame (width_of s) s)) update ≡ t
        → RowAnswers s (drop 4 rows) (pick t (update_of (width_of s) s) (Ok (other_parts (width_of s) s)))
    by_type true h = update_answers o (eqb-true _ _ h)
    by_type false h = answers_read (other_parts (width_of s) s) (other_rows (eqb-false _ _ h))

-- ---- the table and decoding

module _ {s : List ℕ} (o : Octets s) where
  -- a record that is refused has that row as the first that holds
  pub refused_sound : {r : Refusal} → decode_of s ≡ Err r → RefusedWith s r
  refused_sound e = (decode_answers o).refused e

  -- a record with a first row that holds is refused with it
  pub refused_complete : {r : Refusal} → RefusedWith s r → decode_of s ≡ Err r
  refused_complete f = first_refused (decode_of s) (decode_answers o) f

  -- of a record that is read no row holds
  pub read_sound : {p : Parts} → decode_of s ≡ Ok p → Readable s
  read_sound e = (decode_answers o).read e

  -- a record of which no row holds is read
  pub readable_read : Readable s → (p : Parts) × (decode_of s ≡ Ok p)
  readable_read n = none_read (decode_of s) (decode_answers o) n

-- a record is refused in one way only
pub refused_one : {s : List ℕ} {r r' : Refusal} → RefusedWith s r → RefusedWith s r' → r ≡ r'
refused_one f g = first_one f g

-- ---- the numbers

-- the refusals of the table, in its order
abbrev pub refusals : List Refusal
refusals = map (λ (row : Row). row.refusal) rows

-- the number of a refusal is 11 and its row's place
pub number_place : (r : Refusal) → get_or refusals (number r - 11) Size ≡ r
unfolding rows
number_place Size = refl
number_place MrtType = refl
number_place Peer = refl
number_place Frame = refl
number_place Sections = refl
number_place Attributes = refl
number_place Body = refl
number_place Prefix = refl

-- so the numbers tell the refusals apart
pub number_one : (r r' : Refusal) → number r ≡ number r' → r ≡ r'
number_one r r' e = sym (number_place r) ∙ ap (λ (n : ℕ). get_or refusals (n - 11) Size) e ∙ number_place r'
