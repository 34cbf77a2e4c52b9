-- What the test of every landing decides: every pass lands on the end or on a record that is no item. Assumes nothing.
use Rattle.std.specs.Prelude.{Option, Some}
use Prim.Native.Nat.{ℕ, suc, ◌+◌, ◌*◌, ◌≤◌, ◌<◌}
use native.Mathlib.Nat.{lt_of_not-le}
use native.Mathlib.Decide.{dec_le}
use native.Mathlib.Omega.{arith}
use mathlib.Core.Path.{◌≡◌, refl, sym, ap, ◌∙◌}
use mathlib.Core.Bool.{true, false, not}
use mathlib.Core.List.{List, ◌++◌}
use lib.ListN.{length, get_or, drop, length-append, length-drop, get_or-eq_default}
use lib.Seq.{get_or-drop, get_or-append-add}
use borrow.Author.Tests.{lt-ltb, le-ltb}
use Rattle.octets.specs.Lists.{Every}
use Rattle.octets.proofs.Choices.{never}
use Rattle.octets.proofs.Every.{every_place, every_drop}
use Rattle.program.specs.declared.Fields.{Fields}
use Rattle.program.specs.declared.Class.{Class}
use Rattle.program.specs.declared.Class.TheVariants.{Test as aTest, Item as an_item, Flip as aFlip, Pass as aPass}
use Rattle.program.specs.Readings.{Operator}
use Rattle.program.specs.Records.{Record, head, item, flip, pass, Possible}
use Rattle.program.specs.Kinds.{class_of, kind_is, class_is}
use Rattle.program.specs.Layout.{record_size, fields_of, fields_in, encode, encode_all}
use Rattle.program.specs.Validity.{Landing, at_end, on_record}
use Rattle.program.specs.Checks.{is_item_class, is_pass_class, target, lands_well, each_record}
use Rattle.program.proofs.LayoutLaws.{encode_length, encode_all_length}
use Rattle.program.proofs.ValidKinds.{class_kind, record_read}
use Rattle.program.proofs.ValidRecords.{encode_all_at, kind_at}
use Rattle.program.proofs.ValidWalks.{walk_sound, walk_complete}

-- ---- a record, with those after it

-- a record's class, as read
class_read : (r : Record) → Possible r → (rest : List ℕ) → class_is (fields_in (encode r ++ rest)).kind ≡ Some (class_of r)
class_read r p rest = ap (λ (f : Fields). class_is f.kind) (record_read r p rest) ∙ class_kind r

-- one that is no pass lands well
other_lands : (r : Record) → Possible r → (rest : List ℕ) → is_pass_class (Some (class_of r)) ≡ false → lands_well (encode r ++ rest) ≡ true
unfolding lands_well
other_lands r p rest e = rw (class_read r p rest, e)

module _ (o : Operator) (n : ℕ) (p : Possible (pass o n)) (rs : List Record) where
  -- the bytes of all
  abbrev all_bytes : List ℕ
  all_bytes = encode (pass o n) ++ encode_all rs

  whole_length : length all_bytes ≡ record_size + record_size * length rs
  whole_length = length-append (encode (pass o n)) (encode_all rs) ∙ cc (encode_length (pass o n), encode_all_length rs)

  lands_at : target all_bytes ≡ record_size + record_size * n
  unfolding fields_of
  lands_at = ap (λ (f : Fields). record_size + record_size * f.count) (record_read (pass o n) p (encode_all rs))

  -- a pass that goes past the end doesn't
  far_lands : length rs < n → lands_well all_bytes ≡ false
  unfolding lands_well
  far_lands h =
      let far : length all_bytes < record_size + record_size * n = omega (arith, whole_length) in
      rw (class_read (pass o n) p (encode_all rs), lands_at, lt-ltb _ _ far)

  -- another does so by the byte there
  near_lands : n ≤ length rs → lands_well all_bytes ≡ not (is_item_class (class_is (get_or (encode_all rs) (record_size * n) 0)))
  unfolding lands_well
  near_lands h =
      let near : record_size + record_size * n ≤ length all_bytes = omega (arith, whole_length) in
      let there : get_or all_bytes (record_size + record_size * n) 0 ≡ get_or (encode_all rs) (record_size * n) 0
      = ap (λ (k : ℕ). get_or all_bytes (k + record_size * n) 0) (sym (encode_length (pass o n)))
      ∙ get_or-append-add (encode (pass o n)) (encode_all rs) (record_size * n) 0 in
      rw (class_read (pass o n) p (encode_all rs), lands_at, le-ltb _ _ near, there)

  -- by the class of the record there
  on_lands : Every Possible rs → (h : n < length rs) → lands_well all_bytes ≡ not (is_item_class (Some (class_of (get_or rs n flip))))
  on_lands ps h = near_lands (omega arith) ∙ ap (λ (c : Option Class). not (is_item_class c)) (ap class_is (kind_at rs ps n h) ∙ class_kind (get_or rs n flip))

  -- a pass that the test takes lands well
  pass_sound : Every Possible rs → lands_well all_bytes ≡ true → Landing rs n
  pass_sound ps t = go (dec_le n (length rs)) (dec_le (length rs) n)
    where
      go : Dec (n ≤ length rs) → Dec (length rs ≤ n) → Landing rs n
      go (no f) d = never (sym (far_lands (lt_of_not-le f)) ∙ t)
      go (yes h) (yes k) = at_end (omega arith)
      go (yes h) (no f) =
          let k : n < length rs = lt_of_not-le f in
          on_record k (λ c. never (ap (λ (x : Class). not (is_item_class (Some x))) (sym c) ∙ sym (on_lands ps k) ∙ t))

  -- and one that lands well is taken
  pass_complete : Every Possible rs → Landing rs n → lands_well all_bytes ≡ true
  unfolding class_is kind_is
  pass_complete ps (at_end e) =
      let past : length (encode_all rs) ≤ record_size * n = omega (arith, encode_all_length rs) in
      near_lands (omega arith) ∙ rw (get_or-eq_default (encode_all rs) 0 past) refl
  pass_complete ps (on_record h f) = on_lands ps h ∙ no_item (class_of (get_or rs n flip)) f
    where
      no_item : (c : Class) → (c ≡ an_item → ⊥) → not (is_item_class (Some c)) ≡ true
      no_item aTest g = refl
      no_item an_item g = absurd (g refl)
      no_item aFlip g = refl
      no_item aPass g = refl

-- ---- all records

module _ (rs : List Record) (i n : ℕ) (h : i < length rs) where
  -- the record at a place after another
  place : get_or (drop (suc i) rs) n flip ≡ get_or rs (i + 1 + n) flip
  place = get_or-drop (suc i) rs n flip ∙ ap (λ (k : ℕ). get_or rs k flip) (omega arith)

  -- a place after a record, in all of them
  landing_up : Landing (drop (suc i) rs) n → Landing rs (i + 1 + n)
  landing_up (at_end e) = at_end (omega (arith, length-drop (suc i) rs))
  landing_up (on_record k f) = on_record (omega (arith, length-drop (suc i) rs)) (λ c. f (ap class_of place ∙ c))

  -- and the other way round
  landing_down : Landing rs (i + 1 + n) → Landing (drop (suc i) rs) n
  landing_down (at_end e) = at_end (omega (arith, length-drop (suc i) rs))
  landing_down (on_record k f) = on_record (omega (arith, length-drop (suc i) rs)) (λ c. f (ap class_of (sym place) ∙ c))

-- where the test holds, every pass lands well
pub landing_sound : (rs : List Record) → Every Possible rs → each_record lands_well (length rs) (encode_all rs) ≡ true
    → (i : ℕ) (o : Operator) (count : ℕ) → i < length rs → get_or rs i flip ≡ pass o count → Landing rs (i + 1 + count)
landing_sound rs ps t i o count k e =
    let w : lands_well (encode (pass o count) ++ encode_all (drop (suc i) rs)) ≡ true
    = ap (λ (r : Record). lands_well (encode r ++ encode_all (drop (suc i) rs))) (sym e)
    ∙ ap lands_well (sym (encode_all_at rs i k))
    ∙ walk_sound lands_well rs t i k in
    landing_up rs i count k (pass_sound o count (rw e at (every_place ps flip i k)) (drop (suc i) rs) (every_drop (suc i) ps) w)

-- and it holds where they do
pub landing_complete : (rs : List Record) → Every Possible rs
    → ((i : ℕ) (o : Operator) (count : ℕ) → i < length rs → get_or rs i flip ≡ pass o count → Landing rs (i + 1 + count))
    → each_record lands_well (length rs) (encode_all rs) ≡ true
landing_complete rs ps g =
    walk_complete lands_well rs (λ i h. ap lands_well (encode_all_at rs i h) ∙ here i h (get_or rs i flip) refl (every_place ps flip i h))
  where
    here : (i : ℕ) → i < length rs → (r : Record) → get_or rs i flip ≡ r → Possible r → lands_well (encode r ++ encode_all (drop (suc i) rs)) ≡ true
    here i h (head x) e p = other_lands (head x) p (encode_all (drop (suc i) rs)) refl
    here i h (item x) e p = other_lands (item x) p (encode_all (drop (suc i) rs)) refl
    here i h flip e p = other_lands flip p (encode_all (drop (suc i) rs)) refl
    here i h (pass o n) e p = pass_complete o n p (drop (suc i) rs) (every_drop (suc i) ps) (landing_down rs i n h (g i o n h e))
