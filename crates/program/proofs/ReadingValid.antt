-- The program of a reading is valid, where its tests are possible and it isn't too heavy. Assumes nothing.
use Prim.Native.Nat.{ℕ, zero, suc, ◌+◌, ◌-◌, ◌≤◌, ◌<◌}
use native.Mathlib.Nat.{lt_of_not-le, add-zero}
use native.Mathlib.Decide.{dec_le}
use native.Mathlib.Omega.{arith}
use mathlib.Core.Path.{◌≡◌, refl, sym, ◌∙◌}
use mathlib.Core.Bool.{false}
use mathlib.Core.List.{List, [], ◌∷◌, ◌++◌, map, append_assoc, append-nil}
use lib.ListN.{length, get_or, length-append, get_or-append}
use lib.Seq.{get_or-append-add}
use Rattle.octets.specs.Lists.{Every, every_none, every_more}
use Rattle.octets.proofs.Every.{every_append, every_map, every_place}
use Rattle.aspath.specs.declared.Item.{Item}
use Rattle.aspath.specs.declared.Item.TheVariants.{Number}
use Rattle.aspath.specs.Patterns.{Pattern}
use Rattle.program.specs.declared.Class.TheVariants.{Test as aTest, Item as an_item}
use Rattle.program.specs.Readings.{Test, type_is, has_attribute, path_matches, peer_is, has_loop, has_bogon, network_is, time_is, has_communities, item_count}
use Rattle.program.specs.Readings.{Operator, Reading, test, neg, joint, weight}
use Rattle.program.specs.Records.{Head, Record, head, item, flip, pass, weight_limit}
use Rattle.program.specs.Records.{Bits32, Code, ItemPossible, PeerPossible, NetworkPossible, TimePossible, PossibleHead, Possible}
use Rattle.program.specs.Kinds.{class_of}
use Rattle.program.specs.Compiling.{head_of, items_of, records, program_of}
use Rattle.program.specs.Validity.{Grouped, end, a_test, a_flip, a_pass, Landing, at_end, on_record, Valid}
use Rattle.program.proofs.MachineLaws.{test_follows, length_records}

-- ---- possible readings

-- a pattern of items that are possible, and of one or more unless `^` or `$` stands
pub record PatternPossible (p : Pattern) : Type 0 where
  pub each : Every ItemPossible p.items
  pub some : p.start ≡ false → p.end ≡ false → length p.items ≡ 0 → ⊥

-- one or more communities of 32 bits
pub record AskedPossible (cs : List ℕ) : Type 0 where
  pub each : Every Bits32 cs
  pub some : 1 ≤ length cs

-- a test that some text could give
abbrev pub PossibleTest : Test → Type 0
PossibleTest (type_is c) = Code c
PossibleTest (has_attribute c) = Code c
PossibleTest (path_matches p) = PatternPossible p
PossibleTest (peer_is p) = PeerPossible p
PossibleTest has_loop = Unit {0}
PossibleTest has_bogon = Unit {0}
PossibleTest (network_is r n s) = NetworkPossible n
PossibleTest (time_is c s m) = TimePossible s m
PossibleTest (has_communities cs) = AskedPossible cs

-- a reading of such tests
abbrev pub PossibleReading : Reading → Type 0
PossibleReading (test t) = PossibleTest t
PossibleReading (neg r) = PossibleReading r
PossibleReading (joint o a b) = PossibleReading a × PossibleReading b

-- a reading weighs something
weight_some : (r : Reading) → 1 ≤ weight r
unfolding weight
weight_some (test t) = omega arith
weight_some (neg r) = omega arith
weight_some (joint o a b) = omega arith

head_possible : (t : Test) → PossibleTest t → item_count t < weight_limit → PossibleHead (head_of t)
unfolding head_of item_count
head_possible (type_is c) p h = p
head_possible (has_attribute c) p h = p
head_possible (path_matches q) p h = record { few = h; some = p.some }
head_possible (peer_is q) p h = p
head_possible has_loop p h = tt
head_possible has_bogon p h = tt
head_possible (network_is r n s) p h = p
head_possible (time_is c s m) p h = p
head_possible (has_communities cs) p h = record { some = p.some; few = h }

items_possible : (t : Test) → PossibleTest t → Every ItemPossible (items_of t)
unfolding items_of
items_possible (type_is c) p = every_none
items_possible (has_attribute c) p = every_none
items_possible (path_matches q) p = p.each
items_possible (peer_is q) p = every_none
items_possible has_loop p = every_none
items_possible has_bogon p = every_none
items_possible (network_is r n s) p = every_none
items_possible (time_is c s m) p = every_none
items_possible (has_communities cs) p = every_map Number (λ n q. q) p.each

-- the records of a possible reading are possible
pub records_possible : (r : Reading) → PossibleReading r → weight r ≤ weight_limit → Every Possible (records r)
unfolding records weight
records_possible (test t) p h = every_more (head_possible t p (omega arith)) (every_map item (λ i q. q) (items_possible t p))
records_possible (neg r) p h = every_append (records_possible r p (omega arith)) (every_more tt every_none)
records_possible (joint o a b) p h =
    every_append (records_possible a p.0 (omega arith))
    (every_more
    (record { some = omega (arith, length_records b, weight_some b); few = omega (arith, length_records b, weight_some a) })
    (records_possible b p.1 (omega arith)))

-- ---- the first record

-- the first record of a reading is a test
records_start : (r : Reading) → class_of (get_or (records r) 0 flip) ≡ aTest
unfolding records
records_start (test t) = refl
records_start (neg r) = rw (get_or-append (records r) (flip ∷ []) flip 0 (omega (arith, length_records r, weight_some r))) (records_start r)
records_start (joint o a b) =
    rw (get_or-append (records a) (pass o (length (records b)) ∷ records b) flip 0 (omega (arith, length_records a, weight_some a))) (records_start a)

-- ---- groups

flip_no_item : class_of flip ≡ an_item → ⊥
flip_no_item e = let z : ◌≡◌ {A = ℕ} 0 1 = cc in omega arith

pass_no_item : (o : Operator) (count : ℕ) → class_of (pass o count) ≡ an_item → ⊥
pass_no_item o count e = let z : ◌≡◌ {A = ℕ} 0 1 = cc in omega arith

grouped_before : (r : Reading) {rest : List Record} → Grouped rest → Grouped (records r ++ rest)
unfolding records
grouped_before (test t) g = a_test (test_follows t) g refl
grouped_before (neg r) {rest} g = rw (append_assoc (records r) (flip ∷ []) rest) (grouped_before r (a_flip g))
grouped_before (joint o a b) {rest} g =
    rw (append_assoc (records a) (pass o (length (records b)) ∷ records b) rest) (grouped_before a (a_pass (grouped_before b g)))

-- each item of a reading's records stands with its path
records_grouped : (r : Reading) → Grouped (records r)
records_grouped r = rw (append-nil (records r)) at (grouped_before r end)

-- ---- landings

-- every pass lands well
pub record Lands (rs : List Record) : Type 0 where
  pub place : (i : ℕ) (o : Operator) (count : ℕ) → i < length rs → get_or rs i flip ≡ pass o count → Landing rs (i + 1 + count)

-- a place of records is one of more of them
landing_right : (xs : List Record) {ys : List Record} {p q : ℕ} → length xs + p ≡ q → Landing ys p → Landing (xs ++ ys) q
landing_right xs {ys} {p} e (at_end h) = at_end (omega (arith, length-append xs ys))
landing_right xs {ys} {p} {q} e (on_record h n) =
    on_record (omega (arith, length-append xs ys)) (rw (← e, get_or-append-add xs ys p flip) n)

landing_left : {xs : List Record} (y : Record) (ys : List Record) {p : ℕ} → (class_of y ≡ an_item → ⊥) → Landing xs p → Landing (xs ++ (y ∷ ys)) p
landing_left {xs} y ys f (at_end h) = landing_right xs (add-zero (length xs) ∙ sym h) (on_record (omega arith) f)
landing_left {xs} y ys {p} f (on_record h n) =
    on_record (omega (arith, length-append xs (y ∷ ys))) (rw (get_or-append xs (y ∷ ys) flip p h) n)

lands_cons : {r : Record} {rs : List Record} → ((o : Operator) (count : ℕ) → r ≡ pass o count → Landing (r ∷ rs) (1 + count)) → Lands rs → Lands (r ∷ rs)
lands_cons {r} {rs} f l = record { place = place }
  where
    place : (i : ℕ) (o : Operator) (count : ℕ) → i < length (r ∷ rs) → get_or (r ∷ rs) i flip ≡ pass o count → Landing (r ∷ rs) (i + 1 + count)
    place zero o count h e = f o count e
    place (suc i) o count h e = landing_right (r ∷ []) (omega arith) (l.place i o count (omega arith) e)

lands_append : {xs : List Record} {y : Record} {ys : List Record} → Lands xs → (class_of y ≡ an_item → ⊥) → Lands (y ∷ ys) → Lands (xs ++ (y ∷ ys))
lands_append {xs} {y} {ys} l f m = record { place = λ i o count h e. go i o count h e (dec_le (length xs) i) }
  where
    go : (i : ℕ) (o : Operator) (count : ℕ) → i < length (xs ++ (y ∷ ys)) → get_or (xs ++ (y ∷ ys)) i flip ≡ pass o count → Dec (length xs ≤ i)
        → Landing (xs ++ (y ∷ ys)) (i + 1 + count)
    go i o count h e (no n) =
        landing_left y ys f (l.place i o count (lt_of_not-le n) (sym (get_or-append xs (y ∷ ys) flip i (lt_of_not-le n)) ∙ e))
    go i o count h e (yes n) =
        let j = i - length xs in
        let k : length xs + j ≡ i = omega arith in
        landing_right xs {p = j + 1 + count} (omega arith)
        (m.place j o count (omega (arith, length-append xs (y ∷ ys))) (sym (get_or-append-add xs (y ∷ ys) j flip) ∙ rw k e))

lands_none : Lands []
lands_none = record { place = λ i o count h e. absurd (omega arith) }

lands_items : (is : List Item) → Lands (map item is)
lands_items [] = lands_none
lands_items (i ∷ is) = lands_cons (λ o count e. let z : ◌≡◌ {A = ℕ} 0 1 = cc in absurd (omega arith)) (lands_items is)

head_no_pass : (h : Head) (o : Operator) (count : ℕ) → head h ≡ pass o count → ⊥
head_no_pass h o count e = let z : ◌≡◌ {A = ℕ} 0 1 = cc in omega arith

-- the passes of a reading's records land well
records_land : (r : Reading) → Lands (records r)
unfolding records
records_land (test t) = lands_cons (λ o count e. absurd (head_no_pass (head_of t) o count e)) (lands_items (items_of t))
records_land (neg r) =
    lands_append (records_land r) flip_no_item
    (lands_cons (λ o count e. let z : ◌≡◌ {A = ℕ} 0 1 = cc in absurd (omega arith)) lands_none)
records_land (joint o a b) =
    lands_append (records_land a) (pass_no_item o (length (records b)))
    (lands_cons (λ p count e. at_end (let z : length (records b) ≡ count = cc in omega arith)) (records_land b))

-- ---- the whole

-- the program of a possible reading that isn't too heavy is valid
pub reading_valid : (r : Reading) → PossibleReading r → weight r ≤ weight_limit → Valid (program_of r)
reading_valid r p h = record {
  records = records r;
  laid = refl;
  some = omega (arith, length_records r, weight_some r);
  few = omega (arith, length_records r);
  possible = every_place (records_possible r p h) flip;
  starts = records_start r;
  grouped = records_grouped r;
  lands = (records_land r).place;
}
