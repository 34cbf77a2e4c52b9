-- What `whole group_size` decides: each test is followed by what may follow it, which stands nowhere else. Assumes nothing.
use Rattle.std.specs.Prelude.{Option, Some, None}
use Prim.Native.Nat.{ℕ, zero, suc, ◌+◌, ◌*◌, ◌≤◌}
use native.Mathlib.Nat.{lt_of_not-le, not-suc-le-zero}
use native.Mathlib.Decide.{dec_le}
use native.Mathlib.Omega.{arith}
use mathlib.Core.Path.{◌≡◌, refl, sym, ap, ◌∙◌}
use mathlib.Core.Bool.{Bool, true, false}
use mathlib.Core.List.{List, [], ◌∷◌, ◌++◌, map}
use lib.ListN.{length, drop, length-drop, length-map}
use lib.Seq.{drop_at}
use lib.Dec.{leb}
use borrow.Author.Tests.{lt-ltb, le-ltb, le-leb, leb-true}
use Rattle.octets.specs.Choice.{pick, both}
use Rattle.octets.specs.Lists.{Every, every_none, every_more}
use Rattle.octets.specs.Rows.{whole}
use Rattle.octets.proofs.Choices.{never, each, pick_both}
use Rattle.octets.proofs.Every.{every_front, every_rest, every_drop, every_weaker}
use Rattle.octets.proofs.Rows.{Sizes, whole_end, whole_bad, whole_next}
use Rattle.aspath.specs.declared.Item.{Item}
use Rattle.program.specs.declared.Class.{Class}
use Rattle.program.specs.declared.Class.TheVariants.{Test as aTest, Item as an_item, Flip as aFlip, Pass as aPass}
use Rattle.program.specs.declared.Fields.{Fields}
use Rattle.program.specs.Records.{Head, Record, head, item, flip, pass, Possible, count_of}
use Rattle.program.specs.Kinds.{class_of, class_is}
use Rattle.program.specs.Layout.{record_size, head_fields, fields_of, fields_in, encode, encode_all}
use Rattle.program.specs.Validity.{Grouped, end, a_test, a_flip, a_pass}
use Rattle.program.specs.Checks.{is_item, item_stands, items_stand, each_record, following_in, last_item, follows_in, group_of, group_size}
use Rattle.program.proofs.ValidKinds.{class_kind, head_following, is_item_lem, Takes, may_takes, takes_may, record_read}
use Rattle.program.proofs.ValidRecords.{after_record, record_long, encode_all_drop}

-- ---- items at the front

-- they have no more bytes than there are
items_fit : (last n : ℕ) (l : List ℕ) → items_stand last n l ≡ true → record_size * n ≤ length l
unfolding each_record
items_fit last zero l e = omega arith
items_fit last (suc n) l e =
    let x = each (item_stands last l) (items_stand last n (drop record_size l)) e in
    let h = leb-true _ _ (each (leb record_size (length l)) (is_item last (fields_in l)) x.0).0 in
    omega (arith, h, items_fit last n (drop record_size l) x.1, length-drop record_size l)

-- an item, and those after it
stand_next : (last n : ℕ) (r : Record) → Possible r → (rest : List ℕ)
    → items_stand last (suc n) (encode r ++ rest) ≡ both (is_item last (fields_of r)) (items_stand last n rest)
unfolding each_record
stand_next last n r p rest = rw (le-leb _ _ (record_long r rest), record_read r p rest, after_record r rest)

module _ (h : Head) where
  -- the last variant that may follow a head
  abbrev last : ℕ
  last = last_item (head_fields h)

  -- the records are so many items that it takes, and then others
  record Due (n : ℕ) (rs : List Record) : Type 0 where
    its : List Item
    rest : List Record
    count : length its ≡ n
    joined : rs ≡ map item its ++ rest
    taken : Every (Takes h) its

  stand_sound : (n : ℕ) (rs : List Record) → Every Possible rs → items_stand last n (encode_all rs) ≡ true → Due n rs
  unfolding encode_all each_record
  stand_sound zero rs ps e = record { its = []; rest = rs; count = refl; joined = refl; taken = every_none }
  stand_sound (suc n) [] ps e = never e
  stand_sound (suc n) (r ∷ rs) ps e =
      let x = each (is_item last (fields_of r)) (items_stand last n (encode_all rs)) (sym (stand_next last n r (every_front ps) (encode_all rs)) ∙ e) in
      by (is_item_lem last r x.0) x.0 (stand_sound n rs (every_rest ps) x.1)
    where
      by : (i : Item) × (r ≡ item i) → is_item last (fields_of r) ≡ true → Due n rs → Due (suc n) (r ∷ rs)
      by (i, q) t d = record {
        its = i ∷ d.its;
        rest = d.rest;
        count = ap suc d.count;
        joined = cc (q, d.joined);
        taken = every_more (record { is = rw q at t }) d.taken;
      }

  stand_complete : {its : List Item} (rest : List Record) → Every (Takes h) its → Every Possible (map item its ++ rest)
      → items_stand last (length its) (encode_all (map item its ++ rest)) ≡ true
  unfolding encode_all each_record
  stand_complete rest every_none ps = refl
  stand_complete rest (every_more {a = i} {xs = its} t ts) ps =
      stand_next last (length its) (item i) (every_front ps) (encode_all (map item its ++ rest))
      ∙ (pick_both (is_item last (fields_of (item i))) (items_stand last (length its) (encode_all (map item its ++ rest)))).1 (t.is, stand_complete rest ts (every_rest ps))

-- ---- a record with those that follow it

group_fits : (c : Option Class) (f : Fields) (l : List ℕ) → group_of c f l ≤ record_size + length l
unfolding follows_in
group_fits (Some aTest) f l = go (items_stand (last_item f) (following_in f) l) refl
  where
    go : (b : Bool) → items_stand (last_item f) (following_in f) l ≡ b → pick b (record_size + record_size * following_in f) 0 ≤ record_size + length l
    go true e = omega (arith, items_fit (last_item f) (following_in f) l e)
    go false e = omega arith
group_fits (Some an_item) f l = omega arith
group_fits (Some aFlip) f l = omega arith
group_fits (Some aPass) f l = omega arith
group_fits None f l = omega arith

-- it has no more bytes than there are
pub group_sizes : Sizes group_size
unfolding group_size
group_sizes = record { fits = λ l. go l (dec_le record_size (length l)) }
  where
    go : (l : List ℕ) → Dec (record_size ≤ length l) → group_size l ≤ length l
    go l (yes h) = rw (le-ltb _ _ h) (omega (arith, group_fits (class_is (fields_in l).kind) (fields_in l) (drop record_size l), length-drop record_size l))
    go l (no m) = rw (lt-ltb _ _ (lt_of_not-le m)) (omega arith)

-- by its class
group_class : (r : Record) → Possible r → (rest : List ℕ) → group_size (encode r ++ rest) ≡ group_of (Some (class_of r)) (fields_of r) rest
unfolding group_size
group_class r p rest = rw (le-ltb _ _ (record_long r rest), record_read r p rest, after_record r rest, class_kind r) refl

-- a test
group_test : (h : Head) → Possible (head h) → (rest : List ℕ)
    → group_size (encode (head h) ++ rest) ≡ pick (items_stand (last h) (count_of h) rest) (record_size + record_size * count_of h) 0
unfolding follows_in fields_of
group_test h p rest =
    group_class (head h) p rest ∙ ap (λ (n : ℕ). pick (items_stand (last h) n rest) (record_size + record_size * n) 0) (head_following h)

-- ---- all records

module _ (r : Record) (rs : List Record) where
  -- no group stands at the front
  front_bad : group_size (encode r ++ encode_all rs) ≡ 0 → whole group_size (encode_all (r ∷ rs)) ≡ false
  unfolding encode_all
  front_bad e = whole_bad group_size (encode r ++ encode_all rs) (omega (arith, record_long r (encode_all rs))) e

  -- one of so many records does
  front_next : (n : ℕ) → group_size (encode r ++ encode_all rs) ≡ record_size + record_size * n → whole group_size (encode_all (r ∷ rs)) ≡ whole group_size (encode_all (drop n rs))
  unfolding encode_all
  front_next n e =
      let k : record_size * suc n ≡ record_size + record_size * n = omega arith in
      whole_next group_size group_sizes (encode r ++ encode_all rs) (λ z. omega arith)
      ∙ ap (λ (m : ℕ). whole group_size (drop m (encode r ++ encode_all rs))) (e ∙ sym k)
      ∙ ap (whole group_size) (encode_all_drop (suc n) (r ∷ rs))

-- the records behind so many items
behind : (its : List Item) (rest : List Record) (n : ℕ) → length its ≡ n → drop n (map item its ++ rest) ≡ rest
behind its rest n e = drop_at (map item its) rest n (length-map its item ∙ e)

-- records that the test takes are grouped, if fewer are
sound_next : (f : ℕ) → ((rs : List Record) → length rs ≤ f → Every Possible rs → whole group_size (encode_all rs) ≡ true → Grouped rs)
    → (rs : List Record) → length rs ≤ suc f → Every Possible rs → whole group_size (encode_all rs) ≡ true → Grouped rs
sound_next f ih [] h ps t = end
sound_next f ih (item i ∷ rs) h ps t = never (sym (front_bad (item i) rs (group_class (item i) (every_front ps) (encode_all rs))) ∙ t)
sound_next f ih (flip ∷ rs) h ps t =
    a_flip (ih rs (omega arith) (every_rest ps) (sym (front_next flip rs 0 (group_class flip (every_front ps) (encode_all rs))) ∙ t))
sound_next f ih (pass o n ∷ rs) h ps t =
    a_pass (ih rs (omega arith) (every_rest ps) (sym (front_next (pass o n) rs 0 (group_class (pass o n) (every_front ps) (encode_all rs))) ∙ t))
sound_next f ih (head x ∷ rs) h ps t = by (items_stand (last x) (count_of x) (encode_all rs)) refl
  where
    size : group_size (encode (head x) ++ encode_all rs) ≡ pick (items_stand (last x) (count_of x) (encode_all rs)) (record_size + record_size * count_of x) 0
    size = group_test x (every_front ps) (encode_all rs)

    joined : items_stand (last x) (count_of x) (encode_all rs) ≡ true → Due x (count_of x) rs → Grouped (head x ∷ rs)
    joined e d =
        let rest : drop (count_of x) rs ≡ d.rest = ap (drop (count_of x)) d.joined ∙ behind d.its d.rest (count_of x) d.count in
        let good : whole group_size (encode_all d.rest) ≡ true
        = ap (λ (q : List Record). whole group_size (encode_all q)) (sym rest) ∙ sym (front_next (head x) rs (count_of x) (size ∙ rw e refl)) ∙ t in
        let few : length d.rest ≤ f = omega (arith, ap length rest, length-drop (count_of x) rs) in
        let possible : Every Possible d.rest = rw (← rest) (every_drop (count_of x) (every_rest ps)) in
        a_test (record { items = d.its; are = refl; counted = d.count; each = takes_may x d.count d.taken }) (ih d.rest few possible good) (ap (λ (l : List Record). head x ∷ l) d.joined)

    by : (b : Bool) → items_stand (last x) (count_of x) (encode_all rs) ≡ b → Grouped (head x ∷ rs)
    by false e = never (sym (front_bad (head x) rs (size ∙ rw e refl)) ∙ t)
    by true e = joined e (stand_sound x (count_of x) rs (every_rest ps) e)

-- f bounds their number
sound_up_to : (f : ℕ) (rs : List Record) → length rs ≤ f → Every Possible rs → whole group_size (encode_all rs) ≡ true → Grouped rs
sound_up_to zero [] h ps t = end
sound_up_to zero (r ∷ rs) h ps t = absurd (not-suc-le-zero h)
sound_up_to (suc f) rs h ps t = sound_next f (sound_up_to f) rs h ps t

pub grouped_sound : (rs : List Record) → Every Possible rs → whole group_size (encode_all rs) ≡ true → Grouped rs
grouped_sound rs ps t = sound_up_to (length rs) rs (omega arith) ps t

-- grouped records are taken
pub grouped_complete : {rs : List Record} → Every Possible rs → Grouped rs → whole group_size (encode_all rs) ≡ true
unfolding encode_all
grouped_complete ps end = whole_end group_size [] refl
grouped_complete ps (a_flip {rest = rest} g) = front_next flip rest 0 (group_class flip (every_front ps) (encode_all rest)) ∙ grouped_complete (every_rest ps) g
grouped_complete ps (a_pass {o = o} {count = n} {rest = rest} g) =
    front_next (pass o n) rest 0 (group_class (pass o n) (every_front ps) (encode_all rest)) ∙ grouped_complete (every_rest ps) g
grouped_complete {rs} ps (a_test {h = h} {rest = rest} x g e) = whole_is x.items x.counted (every_weaker (λ i m. may_takes m) x.each) (cc (x.are, e)) (λ qs. grouped_complete qs g)
  where
    whole_is : (its : List Item) → length its ≡ count_of h → Every (Takes h) its → rs ≡ head h ∷ (map item its ++ rest)
        → (Every Possible rest → whole group_size (encode_all rest) ≡ true) → whole group_size (encode_all rs) ≡ true
    whole_is its n ts q ih =
        let all : Every Possible (head h ∷ (map item its ++ rest)) = rw (← q) ps in
        let tail = map item its ++ rest in
        let stand : items_stand (last h) (count_of h) (encode_all tail) ≡ true
        = ap (λ (k : ℕ). items_stand (last h) k (encode_all tail)) (sym n) ∙ stand_complete h rest ts (every_rest all) in
        let behind_all : drop (count_of h) tail ≡ rest = behind its rest (count_of h) n in
        ap (λ (l : List Record). whole group_size (encode_all l)) q
        ∙ front_next (head h) tail (count_of h) (group_test h (every_front all) (encode_all tail) ∙ rw stand refl)
        ∙ ap (λ (l : List Record). whole group_size (encode_all l)) behind_all
        ∙ ih (rw (← behind_all) (every_drop (count_of h) (every_rest all)))
