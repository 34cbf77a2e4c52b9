-- Laws of the items at the front of a program's records, all of them or numbers alone. Assumes nothing.
use Prim.Native.Nat.{ℕ, zero, suc, ◌+◌, ◌-◌, ◌*◌, ◌≤◌, ◌<◌}
use native.Mathlib.Nat.{lt_of_not-le}
use native.Mathlib.Decide.{dec_le, ℕ_discrete}
use native.Mathlib.Omega.{arith}
use mathlib.Core.Path.{◌≡◌, refl, sym, ap, ◌∙◌}
use mathlib.Core.Bool.{Bool, true, false}
use Rattle.std.specs.Prelude.{Option, None, Some}
use mathlib.Core.List.{List, [], ◌∷◌}
use lib.ListN.{length, take, drop}
use lib.Seq.{drop-drop}
use lib.Dec.{eqb, leb, ltb, eqb-zero-suc, eqb-suc-suc}
use borrow.Author.Tests.{lt-leb, le-leb, ne_eqb, eqb-true, leb-true}
use Rattle.octets.specs.Choice.{both, onward, otherwise}
use Rattle.octets.proofs.Choices.{never, each, alike}
use Rattle.octets.proofs.Ranges.{within}
use Rattle.aspath.specs.declared.Item.{Item}
use Rattle.aspath.specs.declared.Item.TheVariants.{Number}
use Rattle.program.specs.declared.Fields.{Fields}
use Rattle.program.specs.Readings.{Operator, and, or}
use Rattle.program.specs.Records.{Head, Record, head, item, flip, pass, peer, time}
use Rattle.program.specs.Kinds.{path_kind, item_kind, communities_kind}
use Rattle.program.specs.Layout.{record_size, relation_is, side_is, comparison_is, item_is, peer_is, path_is, operand_of, network_said}
use Rattle.program.specs.Layout.{fields_in, record_is, decode, records_up_to, records_in}
use Rattle.program.specs.Checks.{last_variant, number_variant, is_item, item_stands, items_stand, each_record, following_in, last_item, follows_in}
use Rattle.program.proofs.LayoutLaws.{records_none, records_next}
use Rattle.truth.specs.Means.{if_any}
use Rattle.truth.specs.Records.{item_of, number_of, each_of}
use Rattle.truth.specs.Matching.{each_in}
use Rattle.truth.proofs.KindReads.{by_kind}

-- ---- one record

-- there is an answer
abbrev present : {A : Type 0} → Option A → Bool
present (Some a) = true
present None = false

present_some : {A : Type 0} (o : Option A) → present o ≡ true → (a : A) × (o ≡ Some a)
present_some None e = never e
present_some (Some a) e = (a, refl)

-- where the variant is at most the last, fields are just those of a record that is one
pub record Finds {A : Type 0} (one : Record → Option A) (last : ℕ) : Type 0 where
  pub said : (f : Fields) → is_item last f ≡ present (onward (record_is f) one)

-- a head is no item, and so no number
head_none : {A B : Type 0} (one : Record → Option B) → ((h : Head) → one (head h) ≡ None) → (o : Option A) (h : A → Head)
    → present (onward (onward o (λ a. Some (head (h a)))) one) ≡ false
head_none one e None h = refl
head_none one e (Some a) h = ap present (e (h a))

-- what tells items tells them by their kind and variant
by_variant : {A : Type 0} (one : Record → Option A) (last : ℕ)
    → ((h : Head) → one (head h) ≡ None) → one flip ≡ None → ((o : Operator) (count : ℕ) → one (pass o count) ≡ None)
    → ((v a : ℕ) → leb v last ≡ present (onward (onward (item_is v a) (λ i. Some (item i))) one)) → Finds one last
by_variant one last heads flips passes variants = record { said = λ f. go f (ℕ_discrete f.kind item_kind) }
  where
    go : (f : Fields) → Dec (f.kind ≡ item_kind) → is_item last f ≡ present (onward (record_is f) one)
    go f (yes k) = unfold record_is in rw k (variants f.variant f.a)
    go f (no n) =
        rw (ne_eqb _ _ n)
        (sym (by_kind (λ o. present (onward o one) ≡ false) f
        (λ k. ap present (heads _)) (λ k. ap present (heads _)) (λ k. head_none one heads (path_is f.variant f.count) (λ h. h)) (λ k. absurd (n k))
        (λ k. head_none one heads (peer_is f.variant f.a f.b) peer) (λ k. ap present (heads _)) (λ k. ap present (heads _))
        (λ k. head_none one heads (network_said (relation_is f.variant) (operand_of f) (side_is f.b)) (λ h. h))
        (λ k. head_none one heads (comparison_is f.variant) (λ c. time c f.a f.b)) (ap present flips) (ap present (passes and _)) (ap present (passes or _))
        (λ k. ap present (heads _)) refl))

-- items
pub finds_items : Finds item_of last_variant
finds_items = by_variant item_of last_variant (λ h. refl) refl (λ o count. refl) (λ v a. go v a (dec_le v 2))
  where
    go : (v a : ℕ) → Dec (v ≤ 2) → leb v 2 ≡ present (onward (onward (item_is v a) (λ i. Some (item i))) item_of)
    go v a (yes h) = within 2 (λ n. leb n 2 ≡ present (onward (onward (item_is n a) (λ i. Some (item i))) item_of)) v h refl refl refl
    go v a (no n) =
        let h : 2 < v = lt_of_not-le n in
        simp (lt-leb v 2 h, ne_eqb v 0 (λ e. omega arith), ne_eqb v 1 (λ e. omega arith), ne_eqb v 2 (λ e. omega arith))

-- numbers
pub finds_numbers : Finds number_of number_variant
finds_numbers = by_variant number_of number_variant (λ h. refl) refl (λ o count. refl) (λ v a. go v a (dec_le v 2))
  where
    go : (v a : ℕ) → Dec (v ≤ 2) → leb v 0 ≡ present (onward (onward (item_is v a) (λ i. Some (item i))) number_of)
    go v a (yes h) = within 2 (λ n. leb n 0 ≡ present (onward (onward (item_is n a) (λ i. Some (item i))) number_of)) v h refl refl refl
    go v a (no n) =
        let h : 2 < v = lt_of_not-le n in
        simp (lt-leb v 0 (omega arith), ne_eqb v 0 (λ e. omega arith), ne_eqb v 1 (λ e. omega arith), ne_eqb v 2 (λ e. omega arith))

-- what an item's fields are
pub record ItemFields (last : ℕ) (f : Fields) : Type 0 where
  pub kind : f.kind ≡ item_kind
  pub few : f.variant ≤ last

pub item_fields : (last : ℕ) (f : Fields) → is_item last f ≡ true → ItemFields last f
item_fields last f e = let x = each (eqb f.kind item_kind) (leb f.variant last) e in record { kind = eqb-true _ _ x.0; few = leb-true _ _ x.1 }

-- they say the item that their variant says
pub item_decoded : (f : Fields) {i : Item} → f.kind ≡ item_kind → item_is f.variant f.a ≡ Some i → record_is f ≡ Some (item i)
unfolding record_is
item_decoded f k e = rw (k, e) refl

-- a number's fields say A
pub number_decoded : (f : Fields) → is_item number_variant f ≡ true → record_is f ≡ Some (item (Number f.a))
number_decoded f s =
    let x = item_fields number_variant f s in
    let v : f.variant ≡ 0 = omega (arith, x.few) in
    item_decoded f x.kind (rw v refl)

-- what is read as one is that one
pub one_read : {A : Type 0} (one : Record → Option A) {o : Option Record} {r : Record} {a b : A} → onward o one ≡ Some a → o ≡ Some r → one r ≡ Some b → a ≡ b
one_read one {a = a} {b = b} d e f = let z : Some a ≡ Some b = sym d ∙ rw e f in cc

-- ---- what may follow a record

-- any items a path
pub path_stands : (f : Fields) (l : List ℕ) → f.kind ≡ path_kind → follows_in f l ≡ items_stand last_variant (following_in f) l
unfolding last_item follows_in
path_stands f l k = let last : last_item f ≡ last_variant = rw k refl in ap (λ (n : ℕ). items_stand n (following_in f) l) last

-- numbers communities
pub communities_stand : (f : Fields) (l : List ℕ) → f.kind ≡ communities_kind → follows_in f l ≡ items_stand number_variant (following_in f) l
unfolding last_item follows_in
communities_stand f l k = let last : last_item f ≡ number_variant = rw k refl in ap (λ (n : ℕ). items_stand n (following_in f) l) last

-- ---- so many records at the front

-- bytes that are no record hold none
records_stop : (f : ℕ) (l : List ℕ) → decode l ≡ None → records_up_to f l ≡ []
unfolding records_up_to
records_stop zero l e = refl
records_stop (suc f) l e = rw e (alike (ltb (length l) record_size) refl refl)

module _ {A : Type 0} {one : Record → Option A} {last : ℕ} (finds : Finds one last) where
  -- they stand there where the records are so many of them
  stand_is : (n : ℕ) (l : List ℕ) → items_stand last n l ≡ if_any (each_of one (take n (records_in l))) (λ xs. eqb (length xs) n)
  unfolding each_record each_of
  stand_is zero l = refl
  stand_is (suc n) l = go (dec_le record_size (length l)) (decode l) refl (stand_is n (drop record_size l))
    where
      counted : (a : A) (o : Option (List A)) → if_any o (λ xs. eqb (length xs) n) ≡ if_any (onward o (λ xs. Some (a ∷ xs))) (λ xs. eqb (length xs) (suc n))
      counted a None = refl
      counted a (Some xs) = sym (eqb-suc-suc (length xs) n)

      rest : Option (List A)
      rest = each_of one (take n (records_in (drop record_size l)))

      by : (o : Option A) → items_stand last n (drop record_size l) ≡ if_any rest (λ xs. eqb (length xs) n)
          → both (present o) (items_stand last n (drop record_size l)) ≡ if_any (onward o (λ a. onward rest (λ xs. Some (a ∷ xs)))) (λ xs. eqb (length xs) (suc n))
      by None ih = refl
      by (Some a) ih = ih ∙ counted a rest

      go : Dec (record_size ≤ length l) → (o : Option Record) → decode l ≡ o
          → items_stand last n (drop record_size l) ≡ if_any rest (λ xs. eqb (length xs) n)
          → items_stand last (suc n) l ≡ if_any (each_of one (take (suc n) (records_in l))) (λ xs. eqb (length xs) (suc n))
      go (no h) o e ih = rw (lt-leb _ _ (lt_of_not-le h), records_none l (lt_of_not-le h)) (sym (eqb-zero-suc n))
      go (yes h) None e ih = rw (le-leb _ _ h, finds.said (fields_in l), e, records_stop (length l) l e) (sym (eqb-zero-suc n))
      go (yes h) (Some r) e ih = rw (le-leb _ _ h, finds.said (fields_in l), e, records_next l h e) (by (one r) ih)

  -- what is true of so many records
  pub each_true : (n : ℕ) (l : List ℕ) (test : List A → Bool)
      → if_any (each_of one (take n (records_in l))) (λ xs. both (eqb (length xs) n) (test xs)) ≡ both (items_stand last n l) (test (each_in one n l))
  unfolding each_in
  each_true n l test = rw (stand_is n l) (go (each_of one (take n (records_in l))))
    where
      go : (o : Option (List A)) → if_any o (λ xs. both (eqb (length xs) n) (test xs)) ≡ both (if_any o (λ xs. eqb (length xs) n)) (test (otherwise o []))
      go None = refl
      go (Some xs) = refl

-- ---- one by one

-- none is due
pub each_none : {A : Type 0} (one : Record → Option A) (l : List ℕ) → each_in one 0 l ≡ []
unfolding each_in each_of
each_none one l = refl

-- one at the front, and so many more behind it
pub record Next {A : Type 0} (one : Record → Option A) (last n more : ℕ) (l : List ℕ) : Type 0 where
  pub fits : record_size ≤ length l
  pub is_item_lem : is_item last (fields_in l) ≡ true
  pub rest : items_stand last more (drop record_size l) ≡ true
  pub first : A
  pub decoded : onward (decode l) one ≡ Some first
  pub all : each_in one n l ≡ first ∷ each_in one more (drop record_size l)

module _ {A : Type 0} {one : Record → Option A} {last : ℕ} (finds : Finds one last) where
  next_of : (n : ℕ) (l : List ℕ) → items_stand last (suc n) l ≡ true → Next one last (suc n) n l
  unfolding each_record
  next_of n l s = stood (each (item_stands last l) (items_stand last n (drop record_size l)) s)
    where
      put : (a : A) (o : Option (List A)) → if_any o (λ xs. eqb (length xs) n) ≡ true → otherwise (onward o (λ xs. Some (a ∷ xs))) [] ≡ a ∷ otherwise o []
      put a None e = never e
      put a (Some xs) e = refl

      joined : {a : A} → record_size ≤ length l → (o : Option Record) → decode l ≡ o → onward o one ≡ Some a → items_stand last n (drop record_size l) ≡ true
          → each_in one (suc n) l ≡ a ∷ each_in one n (drop record_size l)
      joined f None e d r = let z : ◌≡◌ {A = ℕ} 0 1 = cc in absurd (omega arith)
      joined {a} f (Some x) e d r =
          unfold each_in in unfold each_of in
          rw (records_next l f e, d) (put a (each_of one (take n (records_in (drop record_size l)))) (sym (stand_is finds n (drop record_size l)) ∙ r))

      stood : (item_stands last l ≡ true) × (items_stand last n (drop record_size l) ≡ true) → Next one last (suc n) n l
      stood (e, r) =
          let x = each (leb record_size (length l)) (is_item last (fields_in l)) e in
          let h = leb-true _ _ x.0 in
          let i = present_some (onward (decode l) one) (sym (finds.said (fields_in l)) ∙ x.1) in
          record { fits = h; is_item_lem = x.1; rest = r; first = i.0; decoded = i.1; all = joined h (decode l) refl i.1 r }

  -- where so many stand, one or more, the first is one
  pub next : {n : ℕ} (more : ℕ) (l : List ℕ) → n ≡ suc more → items_stand last n l ≡ true → Next one last n more l
  next more l e s = rw e (next_of more l (rw e at s))

  -- and where n of them have been passed, the next is one
  pub next_left : {n count : ℕ} (l : List ℕ) → n < count → items_stand last (count - n) l ≡ true → Next one last (count - n) (count - (n + 1)) l
  next_left l h s = next _ l (omega arith) s

-- the records after it
pub passed_next : (n : ℕ) (l : List ℕ) → drop record_size (drop (record_size * n) l) ≡ drop (record_size * (n + 1)) l
passed_next n l = drop-drop record_size (record_size * n) l ∙ ap (λ (k : ℕ). drop k l) (omega arith)
