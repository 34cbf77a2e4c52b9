-- Laws of splits into records: any bytes split, in one way only, and a record may be set before bytes that are split. Assumes nothing.
use Prim.Native.Nat.{ℕ, zero, suc, ◌+◌, ◌≤◌, ◌<◌}
use native.Mathlib.Nat.{lt_of_not-le}
use native.Mathlib.Decide.{dec_le}
use native.Mathlib.Omega.{arith}
use mathlib.Core.Path.{◌≡◌, refl, sym, ap, ◌∙◌}
use mathlib.Core.List.{List, [], ◌∷◌, ◌++◌, append_assoc}
use lib.ListN.{length, take, drop, length-append, length-drop, take-append-drop}
use lib.Seq.{length-take-le, take_at, drop_at}
use Rattle.header.specs.Header.{header_size, length_field}
use Rattle.octets.specs.Rows.{Joined, none, more}
use Rattle.octets.proofs.Numbers.{number_front, number_take}
use Rattle.walk.specs.Split.{IsRecord, Rest, nothing, short, overrun, Splits}

-- ---- a record at the front

-- the first bytes of a record say its length, whatever follows
record_length : {r bytes : List ℕ} → IsRecord r bytes → (after : List ℕ) → length bytes ≡ header_size + length_field (bytes ++ after)
record_length {r} {bytes} w after =
    rw (number_front bytes after 8 4 (rw w.same (omega (arith, w.headed))), w.same) w.sized

-- no rest has a record at its front
rest_no_record : {r bytes rest : List ℕ} → IsRecord r bytes → (after : List ℕ) → Rest rest → rest ≡ bytes ++ after → ⊥
rest_no_record {bytes = bytes} w after nothing e = omega (arith, record_length w after, length-append bytes after, ap length e)
rest_no_record {bytes = bytes} w after (short h k) e = omega (arith, record_length w after, length-append bytes after, ap length e)
rest_no_record {bytes = bytes} w after (overrun h k) e = omega (arith, record_length w after, length-append bytes after, ap length e, ap length_field e)

-- two records at the front of the same bytes are one, and so is what follows
record_one : {r q x y : List ℕ} → IsRecord r x → IsRecord q y → (after behind : List ℕ) → x ++ after ≡ y ++ behind → (r ≡ q) × (after ≡ behind)
record_one {r} {q} {x} {y} v w after behind e =
    let n : length x ≡ length y = record_length v after ∙ ap (λ (l : List ℕ). header_size + length_field l) e ∙ sym (record_length w behind) in
    let f : take (length y) (x ++ after) ≡ y = rw e (take_at y behind (length y) refl) in
    let g : drop (length y) (x ++ after) ≡ behind = rw e (drop_at y behind (length y) refl) in
    (sym v.same ∙ sym (take_at x after (length y) n) ∙ f ∙ w.same, sym (drop_at x after (length y) n) ∙ g)

-- ---- a record before bytes that are split

-- one record
pub splits_append : {r bytes rest : List ℕ} {rs : List (List ℕ)} → Splits bytes rs rest → IsRecord r r → Splits (r ++ bytes) (r ∷ rs) rest
splits_append {r} s w = record {
  front = r ++ s.front;
  split = rw append_assoc (ap (λ (l : List ℕ). r ++ l) s.split);
  joined = more w s.joined refl;
  closing = s.closing;
}

-- no record
pub splits_rest : {rest : List ℕ} → Rest rest → Splits rest [] rest
splits_rest c = record { front = []; split = refl; joined = none; closing = c }

-- ---- any bytes split

-- bytes that reach as far as their length field says start with a record
record_front : (l : List ℕ) → header_size + length_field l ≤ length l
    → IsRecord (take (header_size + length_field l) l) (take (header_size + length_field l) l)
record_front l h =
    let e : length (take (header_size + length_field l) l) ≡ header_size + length_field l = length-take-le (header_size + length_field l) l h in
    let i : length_field (take (header_size + length_field l) l) ≡ length_field l = number_take l (header_size + length_field l) 8 4 (omega arith) in
    record { same = refl; headed = omega arith; sized = omega arith }

-- fewer bytes than a header has are a rest
few_rest : (l : List ℕ) → length l < header_size → Rest l
few_rest [] h = nothing
few_rest (b ∷ l) h = short {rest = b ∷ l} (omega arith) h

-- a split of bytes
abbrev Split : List ℕ → Type 0
Split bytes = (records : List (List ℕ)) × (rest : List ℕ) × Splits bytes records rest

-- f bounds the bytes
split_in : (f : ℕ) (l : List ℕ) → length l ≤ f → Split l
split_in zero l h = ([], l, splits_rest (few_rest l (omega arith)))
split_in (suc f) l h = go (dec_le header_size (length l)) (dec_le size (length l)) (split_in f (drop size l))
  where
    size : ℕ
    size = header_size + length_field l

    next : IsRecord (take size l) (take size l) → Split (drop size l) → Split l
    next w (rs, rest, s) = (take size l ∷ rs, rest, rw take-append-drop at (splits_append s w))

    go : Dec (header_size ≤ length l) → Dec (size ≤ length l) → (length (drop size l) ≤ f → Split (drop size l)) → Split l
    go (no i) d ih = ([], l, splits_rest (few_rest l (lt_of_not-le i)))
    go (yes i) (no k) ih = ([], l, splits_rest (overrun i (lt_of_not-le k)))
    go (yes i) (yes k) ih = next (record_front l k) (ih (rw length-drop (omega arith)))

-- any bytes split
pub split_exists : (bytes : List ℕ) → (records : List (List ℕ)) × (rest : List ℕ) × Splits bytes records rest
split_exists bytes = split_in (length bytes) bytes (omega arith)

-- ---- in one way

-- joined records and a rest are told apart from their bytes
joined_rest_one : {xs ys : List (List ℕ)} {x y r q : List ℕ}
    → Joined IsRecord xs x → Rest r → Joined IsRecord ys y → Rest q → x ++ r ≡ y ++ q → (xs ≡ ys) × (r ≡ q)
joined_rest_one none c none d e = (refl, e)
joined_rest_one {q = q} none c (more {bytes = bytes} {rest = rest} w k f) d e =
    absurd (rest_no_record w (rest ++ q) c (e ∙ rw f (append_assoc bytes rest q)))
joined_rest_one {r = r} (more {bytes = bytes} {rest = rest} w k f) c none d e =
    absurd (rest_no_record w (rest ++ r) d (sym e ∙ rw f (append_assoc bytes rest r)))
joined_rest_one {r = r} {q = q} (more {bytes = x} {rest = after} v j f) c (more {bytes = y} {rest = behind} w k g) d e =
    let i = record_one v w (after ++ r) (behind ++ q) (sym (append_assoc x after r) ∙ (rw (← f, ← g) e) ∙ append_assoc y behind q) in
    let ih = joined_rest_one j c k d i.1 in
    (cc (i.0, ih.0), ih.1)

-- bytes split in one way only
pub split_one : {bytes r q : List ℕ} {rs qs : List (List ℕ)} → Splits bytes rs r → Splits bytes qs q → (rs ≡ qs) × (r ≡ q)
split_one s t = joined_rest_one s.joined s.closing t.joined t.closing (sym s.split ∙ t.split)
