-- The records of bytes: how long their bytes are, where each stands, and that right bytes are those of the records read. Assumes nothing.
use Prim.Native.Nat.{ℕ, zero, suc, ◌+◌, ◌*◌, ◌≤◌, ◌<◌}
use native.Mathlib.Nat.{add-zero}
use native.Mathlib.Omega.{arith}
use mathlib.Core.Path.{◌≡◌, refl, sym, ap, ◌∙◌}
use mathlib.Core.Bool.{true}
use mathlib.Core.List.{List, [], ◌∷◌, ◌++◌}
use lib.ListN.{length, get_or, drop, length-append, length-drop, take-append-drop}
use lib.Seq.{get_or-drop, drop_at, drop-nil, drop-drop, drop-cons}
use Rattle.octets.specs.Numbers.{Octets}
use Rattle.octets.specs.Lists.{Every, every_none, every_more}
use Rattle.octets.proofs.Bytes.{octets_drop}
use Rattle.octets.proofs.Choices.{each}
use Rattle.program.specs.Records.{Record, flip, Possible}
use Rattle.program.specs.Layout.{record_size, fields_of, encode, encode_all, records_in}
use Rattle.program.specs.Checks.{right_record, each_record}
use Rattle.program.proofs.LayoutLaws.{encode_length, records_none, records_next}
use Rattle.program.proofs.RightLaws.{RightRecord, right_record_lem}
use Rattle.octets.proofs.Every.{every_place}
use Rattle.program.proofs.ValidKinds.{front_kind}

-- ---- bytes of records

-- the bytes after a record
pub after_record : (r : Record) (rest : List ℕ) → drop record_size (encode r ++ rest) ≡ rest
after_record r rest = drop_at (encode r) rest record_size (encode_length r)

-- a record and more are long enough for a record
pub record_long : (r : Record) (rest : List ℕ) → record_size ≤ length (encode r ++ rest)
record_long r rest = rw length-append (omega (arith, encode_length r))

-- the bytes from a record on
pub encode_all_drop : (n : ℕ) (rs : List Record) → drop (record_size * n) (encode_all rs) ≡ encode_all (drop n rs)
unfolding encode_all
encode_all_drop zero rs = refl
encode_all_drop (suc n) [] = drop-nil (record_size * suc n)
encode_all_drop (suc n) (r ∷ rs) =
    let e : record_size * suc n ≡ record_size + record_size * n = omega arith in
    let l = encode r ++ encode_all rs in
    ap (λ (k : ℕ). drop k l) e ∙ sym (drop-drop (record_size * n) record_size l) ∙ ap (drop (record_size * n)) (after_record r (encode_all rs)) ∙ encode_all_drop n rs

-- are those of that record and of those after it
pub encode_all_at : (rs : List Record) (i : ℕ) → i < length rs → encode_all (drop i rs) ≡ encode (get_or rs i flip) ++ encode_all (drop (suc i) rs)
unfolding encode_all
encode_all_at rs i h = ap encode_all (drop-cons rs i flip h)

-- the first byte of a record is its kind
pub kind_at : (rs : List Record) → Every Possible rs → (n : ℕ) → n < length rs → get_or (encode_all rs) (record_size * n) 0 ≡ (fields_of (get_or rs n flip)).kind
kind_at rs ps n h =
    ap (λ (k : ℕ). get_or (encode_all rs) k 0) (sym (add-zero (record_size * n)))
    ∙ sym (get_or-drop (record_size * n) (encode_all rs) 0 0)
    ∙ ap (λ (l : List ℕ). get_or l 0 0) (encode_all_drop n rs ∙ encode_all_at rs n h)
    ∙ front_kind (get_or rs n flip) (every_place ps flip n h) (encode_all (drop (suc n) rs))

-- ---- records read of bytes

-- the bytes are those of records, each of which compiling could give
pub record Right (l : List ℕ) (rs : List Record) : Type 0 where
  pub encoded : l ≡ encode_all rs
  pub possible : Every Possible rs

-- whole records that are all right are those read, each of them possible
pub right_sound : (n : ℕ) (l : List ℕ) → length l ≡ record_size * n → Octets l → each_record right_record n l ≡ true → Right l (records_in l)
unfolding each_record encode_all
right_sound zero [] e o t = rw (records_none [] (omega arith)) (record { encoded = refl; possible = every_none })
right_sound zero (b ∷ l) e o t = absurd (omega arith)
right_sound (suc n) l e o t =
    let long : record_size ≤ length l = omega arith in
    let b = each (right_record l) (each_record right_record n (drop record_size l)) t in
    joined long (right_record_lem l o long b.0) (right_sound n (drop record_size l) (simp length-drop (omega arith)) (octets_drop record_size o) b.1)
  where
    joined : record_size ≤ length l → RightRecord l → Right (drop record_size l) (records_in (drop record_size l)) → Right l (records_in l)
    joined long r more =
        rw (records_next l long r.decoded)
        (record {
          encoded = sym (take-append-drop record_size l) ∙ cc (r.bytes, more.encoded);
          possible = every_more r.possible more.possible;
        })
