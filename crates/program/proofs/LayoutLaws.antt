-- Laws of a record's bytes: encoding and decoding invert each other. Assumes nothing.
use Prim.Native.Nat.{ℕ, zero, suc, ◌*◌, ◌^◌, ◌≤◌, ◌<◌}
use native.Mathlib.Omega.{arith}
use native.Mathlib.Decide.{dec_le}
use native.Mathlib.Nat.{lt_of_not-le}
use mathlib.Core.Path.{◌≡◌, refl, sym, ap, ◌∙◌}
use mathlib.Core.Bool.{true, false}
use Rattle.std.specs.Prelude.{Option, Some}
use mathlib.Core.List.{List, [], ◌∷◌, ◌++◌, append_assoc}
use lib.ListN.{length, take, drop, length-append, length-drop}
use lib.Seq.{drop_at}
use borrow.Author.Tests.{lt-ltb, le-ltb}
use Rattle.octets.specs.Numbers.{Octets, number_at, bytes_of}
use Rattle.octets.specs.Lists.{Every, every_none, every_more}
use Rattle.octets.proofs.Encode.{bytes_value}
use Rattle.octets.proofs.NumberBytes.{number_bytes, parts_join}
use Rattle.network.specs.Networks.{address_bits, Network}
use Rattle.aspath.specs.declared.Item.{Item}
use Rattle.aspath.specs.declared.Item.TheVariants.{Number, Other, Any}
use Rattle.program.specs.declared.Fields.{Fields}
use Rattle.program.specs.Readings.{by_as, by_address, by_both, and, or}
use Rattle.program.specs.Records.{Head, type, attribute, path, peer, loops, bogon, network, time, communities}
use Rattle.program.specs.Records.{Record, head, item, flip, pass}
use Rattle.program.specs.Records.{NetworkPossible, PossibleHead, ItemPossible, Possible}
use Rattle.program.specs.Layout.{record_size, fields, head_fields, item_fields, fields_of, laid, encode, encode_all}
use Rattle.program.specs.Layout.{fields_in, record_is, decode, on_record, records_up_to, records_in}
use Rattle.program.proofs.Codes.{relation_same, side_same, comparison_same, relation_few, side_few, comparison_few, ends_few}

-- ---- fields and their bytes

-- the fields fit their bytes
pub record Fit (f : Fields) : Type 0 where
  pub kind : f.kind < 256
  pub variant : f.variant < 256
  pub count : f.count < 65536
  pub a : f.a < 2 ^ 32
  pub b : f.b < 2 ^ 32

-- the bytes of fields are 16
laid_length : (f : Fields) → length (laid f) ≡ record_size
unfolding laid bytes_of
laid_length f = refl

fields_same : {k v c a b : ℕ} {f : Fields} → k ≡ f.kind → v ≡ f.variant → c ≡ f.count → a ≡ f.a → b ≡ f.b → fields k v c a b ≡ f
fields_same d e g h i = rw (d, e, g, h, i)

-- such fields are read back, whatever follows
pub fields_read : {f : Fields} → Fit f → (rest : List ℕ) → fields_in (laid f ++ rest) ≡ f
unfolding fields_in laid bytes_of number_at
fields_read {f} t rest =
    fields_same
    (bytes_value 1 f.kind t.kind)
    (bytes_value 1 f.variant t.variant)
    (bytes_value 2 f.count t.count)
    (bytes_value 4 f.a t.a)
    (bytes_value 4 f.b t.b)

-- the bytes of the fields read are those that they were read from, where the last four are zero
pub laid_read : (l : List ℕ) → Octets l → record_size ≤ length l → number_at l 12 4 ≡ 0 → laid (fields_in l) ≡ take record_size l
unfolding fields_in laid
laid_read l o h z =
    let last : 0 ∷ 0 ∷ 0 ∷ 0 ∷ [] ≡ take 4 (drop 12 l) = unfold bytes_of in (rw z at (number_bytes o 12 4 (omega arith))) in
    rw (
      last,
      number_bytes o 0 1 (omega arith),
      number_bytes o 1 1 (omega arith),
      number_bytes o 2 2 (omega arith),
      number_bytes o 4 4 (omega arith),
      number_bytes o 8 4 (omega arith),
      parts_join l 8 4 4,
      parts_join l 4 4 8,
      parts_join l 2 2 12,
      parts_join l 1 1 14,
      parts_join l 0 1 15,
    )

-- ---- the fields of a record

-- a possible network is that of its record's fields
operand_same : (n : Network) → NetworkPossible n → record { bits = address_bits; address = n.address; len = n.len } ≡ n
operand_same n p = ap (λ (b : ℕ). record { bits = b; address = n.address; len = n.len }) (sym (ap (λ (m : Network). m.bits) p.clear))

-- a head is the one that its fields say
head_same : (h : Head) → PossibleHead h → record_is (head_fields h) ≡ Some (head h)
unfolding record_is head_fields
head_same (type c) p = refl
head_same (attribute c) p = refl
head_same (path true true count) p = refl
head_same (path true false count) p = refl
head_same (path false true count) p = refl
head_same (path false false count) p = refl
head_same (peer (by_as n)) p = refl
head_same (peer (by_address a)) p = refl
head_same (peer (by_both a n)) p = refl
head_same loops p = refl
head_same bogon p = refl
head_same (network r n s) p = rw (relation_same r, side_same s) (ap (λ (m : Network). Some (head (network r m s))) (operand_same n p))
head_same (time c seconds micros) p = rw (comparison_same c)
head_same (communities count) p = refl

item_same : (i : Item) → record_is (item_fields i) ≡ Some (item i)
unfolding record_is item_fields
item_same (Number n) = refl
item_same (Other n) = refl
item_same Any = refl

-- and so is any record
pub record_same : (r : Record) → Possible r → record_is (fields_of r) ≡ Some r
unfolding fields_of record_is
record_same (head h) p = head_same h p
record_same (item i) p = item_same i
record_same flip p = refl
record_same (pass and count) p = refl
record_same (pass or count) p = refl

-- the fields of a possible record fit
head_fit : (h : Head) → PossibleHead h → Fit (head_fields h)
unfolding head_fields
head_fit (type c) p = omega (arith, p.below)
head_fit (attribute c) p = omega (arith, p.below)
head_fit (path start end count) p = omega (arith, p.few, ends_few start end)
head_fit (peer (by_as n)) p = omega (arith, p.below)
head_fit (peer (by_address a)) p = omega (arith, p.below)
head_fit (peer (by_both a n)) p = omega (arith, p.0.below, p.1.below)
head_fit loops p = omega arith
head_fit bogon p = omega arith
head_fit (network r n s) p = omega (arith, p.sized, p.word.below, relation_few r, side_few s)
head_fit (time c seconds micros) p = omega (arith, p.word.below, p.fraction, comparison_few c)
head_fit (communities count) p = omega (arith, p.few)

item_fit : (i : Item) → ItemPossible i → Fit (item_fields i)
unfolding item_fields
item_fit (Number n) p = omega (arith, p.below)
item_fit (Other n) p = omega (arith, p.below)
item_fit Any p = omega arith

pub possible_fit : (r : Record) → Possible r → Fit (fields_of r)
unfolding fields_of
possible_fit (head h) p = head_fit h p
possible_fit (item i) p = item_fit i p
possible_fit flip p = omega arith
possible_fit (pass and count) p = omega (arith, p.few)
possible_fit (pass or count) p = omega (arith, p.few)

-- ---- one record

-- the bytes of a record are 16
pub encode_length : (r : Record) → length (encode r) ≡ record_size
encode_length r = laid_length (fields_of r)

-- a record is decoded from its bytes, whatever follows them
pub decode_encode : (r : Record) → Possible r → (rest : List ℕ) → decode (encode r ++ rest) ≡ Some r
decode_encode r p rest = ap record_is (fields_read (possible_fit r p) rest) ∙ record_same r p

-- ---- records one after another

-- the bytes of records are 16 for each
pub encode_all_length : (rs : List Record) → length (encode_all rs) ≡ record_size * length rs
unfolding encode_all
encode_all_length [] = refl
encode_all_length (r ∷ rs) = length-append (encode r) (encode_all rs) ∙ omega (arith, encode_length r, encode_all_length rs)

-- the bytes of records joined are theirs joined
pub encode_all_append : (rs more : List Record) → encode_all (rs ++ more) ≡ encode_all rs ++ encode_all more
unfolding encode_all
encode_all_append [] more = refl
encode_all_append (r ∷ rs) more = rw (encode_all_append rs more) (sym (append_assoc (encode r) (encode_all rs) (encode_all more)))

-- ---- records read of bytes

-- fewer bytes than a record's hold none
short_none : (f : ℕ) (l : List ℕ) → length l < record_size → records_up_to f l ≡ []
unfolding records_up_to
short_none zero l h = refl
short_none (suc f) l h = simp (lt-ltb _ _ h)

pub records_none : (l : List ℕ) → length l < record_size → records_in l ≡ []
records_none l h = short_none (length l) l h

-- a record, and those after it
stands : (f : ℕ) (l : List ℕ) → record_size ≤ length l → records_up_to (suc f) l ≡ on_record (decode l) (λ r. r ∷ records_up_to f (drop record_size l)) []
unfolding records_up_to
stands f l h = simp (le-ltb _ _ h)

-- the bound doesn't matter where it is at least the number of bytes
records_fuel : (f g : ℕ) (l : List ℕ) → length l ≤ f → length l ≤ g → records_up_to f l ≡ records_up_to g l
records_fuel zero g l h k = short_none zero l (omega arith) ∙ sym (short_none g l (omega arith))
records_fuel (suc f) zero l h k = short_none (suc f) l (omega arith) ∙ sym (short_none zero l (omega arith))
records_fuel (suc f) (suc g) l h k = go (dec_le record_size (length l)) (records_fuel f g (drop record_size l))
  where
    go : Dec (record_size ≤ length l)
        → (length (drop record_size l) ≤ f → length (drop record_size l) ≤ g → records_up_to f (drop record_size l) ≡ records_up_to g (drop record_size l))
        → records_up_to (suc f) l ≡ records_up_to (suc g) l
    go (yes e) ih =
        stands f l e
        ∙ ap (λ (rs : List Record). on_record (decode l) (λ r. r ∷ rs) []) (ih (omega (arith, length-drop record_size l)) (omega (arith, length-drop record_size l)))
        ∙ sym (stands g l e)
    go (no n) ih = short_none (suc f) l (lt_of_not-le n) ∙ sym (short_none (suc g) l (lt_of_not-le n))

-- where a record stands, the records are it and those after it
pub records_next : (l : List ℕ) {r : Record} → record_size ≤ length l → decode l ≡ Some r → records_in l ≡ r ∷ records_in (drop record_size l)
records_next l {r} h e =
    let rest = drop record_size l in
    records_fuel (length l) (suc (length l)) l (omega arith) (omega arith)
    ∙ stands (length l) l h
    ∙ ap (λ (o : Option Record). on_record o (λ r. r ∷ records_up_to (length l) rest) []) e
    ∙ ap (λ (rs : List Record). r ∷ rs) (records_fuel (length l) (length rest) rest (omega (arith, length-drop record_size l)) (omega arith))

-- possible records are read back from their bytes
pub records_encoded : (rs : List Record) → Every Possible rs → records_in (encode_all rs) ≡ rs
unfolding encode_all
records_encoded all every_none = records_none [] (omega arith)
records_encoded all (every_more {a = r} {xs = rs} p ps) =
    let l = encode r ++ encode_all rs in
    let long : record_size ≤ length l = omega (arith, length-append (encode r) (encode_all rs), encode_length r) in
    records_next l long (decode_encode r p (encode_all rs))
    ∙ ap (λ (m : List ℕ). r ∷ records_in m) (drop_at (encode r) (encode_all rs) record_size (encode_length r))
    ∙ ap (λ (more : List Record). r ∷ more) (records_encoded rs ps)
