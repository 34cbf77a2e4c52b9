-- `is_valid` decides `Valid`: each of its tests against its part of the words, over the records read. Assumes nothing.
use Rattle.std.specs.Prelude.{Some}
use Prim.Native.Nat.{ℕ, suc, ◌*◌, ◌/◌, ◌%◌, ◌≤◌}
use native.Mathlib.Omega.{arith}
use mathlib.Core.Path.{◌≡◌, refl, sym, ap, ◌∙◌}
use mathlib.Core.Bool.{true}
use mathlib.Core.List.{List}
use lib.ListN.{length, get_or, drop}
use lib.Dec.{eqb, leb}
use borrow.Author.Tests.{leb-true, eqb-true, le-leb, eq-eqb}
use Rattle.octets.specs.Numbers.{Octets}
use Rattle.octets.specs.Lists.{Every}
use Rattle.octets.specs.Rows.{whole}
use Rattle.octets.proofs.Choices.{never, each}
use Rattle.octets.proofs.Every.{every_place, every_places}
use Rattle.program.specs.declared.Class.{Class}
use Rattle.program.specs.declared.Class.TheVariants.{Test as aTest, Item as an_item, Flip as aFlip, Pass as aPass}
use Rattle.program.specs.Records.{Record, flip, Possible, weight_limit}
use Rattle.program.specs.Kinds.{class_of, class_is}
use Rattle.program.specs.Layout.{record_size, encode_all, records_in}
use Rattle.program.specs.Validity.{Valid}
use Rattle.program.specs.Checks.{is_test_class, each_record, right_record, lands_well, group_size, is_valid}
use Rattle.program.proofs.LayoutLaws.{encode_all_length}
use Rattle.program.proofs.RightLaws.{encode_right}
use Rattle.program.proofs.ValidKinds.{class_kind}
use Rattle.program.proofs.ValidRecords.{Right, right_sound, encode_all_at, kind_at}
use Rattle.program.proofs.ValidWalks.{walk_complete}
use Rattle.program.proofs.ValidGroups.{grouped_sound, grouped_complete}
use Rattle.program.proofs.ValidLandings.{landing_sound, landing_complete}

-- the first byte says the first record's class
first_class : (rs : List Record) → Every Possible rs → 1 ≤ length rs → class_is (get_or (encode_all rs) 0 0) ≡ Some (class_of (get_or rs 0 flip))
first_class rs ps h = ap class_is (kind_at rs ps 0 h) ∙ class_kind (get_or rs 0 flip)

-- a class that is taken for a test's is one
test_class : (c : Class) → is_test_class (Some c) ≡ true → c ≡ aTest
test_class aTest e = refl
test_class an_item e = never e
test_class aFlip e = never e
test_class aPass e = never e

-- what each test of a program says
record Tests (program : List ℕ) : Type 0 where
  some : record_size ≤ length program
  few : length program ≤ record_size * weight_limit
  exact : length program % record_size ≡ 0
  right : each_record right_record (length program / record_size) program ≡ true
  starts : is_test_class (class_is (get_or program 0 0)) ≡ true
  grouped : whole group_size program ≡ true
  lands : each_record lands_well (length program / record_size) program ≡ true

-- a program that passes the tests passes each
tests_sound : (program : List ℕ) → is_valid program ≡ true → Tests program
unfolding is_valid
tests_sound program t =
    let a = each (leb record_size (length program)) _ t in
    let b = each (leb (length program) (record_size * weight_limit)) _ a.1 in
    let c = each (eqb (length program % record_size) 0) _ b.1 in
    let d = each (each_record right_record (length program / record_size) program) _ c.1 in
    let e = each (is_test_class (class_is (get_or program 0 0))) _ d.1 in
    let f = each (whole group_size program) (each_record lands_well (length program / record_size) program) e.1 in
    record {
      some = leb-true _ _ a.0;
      few = leb-true _ _ b.0;
      exact = eqb-true _ _ c.0;
      right = d.0;
      starts = e.0;
      grouped = f.0;
      lands = f.1;
    }

-- and the other way round
tests_complete : {program : List ℕ} → Tests program → is_valid program ≡ true
unfolding is_valid
tests_complete t = rw (le-leb _ _ t.some, le-leb _ _ t.few, eq-eqb _ _ t.exact, t.right, t.starts, t.grouped) t.lands

-- a program of records that passes the tests is valid
records_valid : (program : List ℕ) (rs : List Record) → Right program rs → Tests program → Valid program
records_valid program rs r t =
    let e : length program ≡ record_size * length rs = ap length r.encoded ∙ encode_all_length rs in
    let some : 1 ≤ length rs = omega (arith, t.some) in
    let n : length program / record_size ≡ length rs = omega arith in
    record {
      records = rs;
      laid = r.encoded;
      some = some;
      few = omega (arith, t.few);
      possible = every_place r.possible flip;
      starts = test_class (class_of (get_or rs 0 flip))
          (ap is_test_class (sym (first_class rs r.possible some) ∙ ap (λ (l : List ℕ). class_is (get_or l 0 0)) (sym r.encoded)) ∙ t.starts);
      grouped = grouped_sound rs r.possible (ap (whole group_size) (sym r.encoded) ∙ t.grouped);
      lands = landing_sound rs r.possible (ap (each_record lands_well (length rs)) (sym r.encoded) ∙ ap (λ (k : ℕ). each_record lands_well k program) (sym n) ∙ t.lands);
    }

-- a program that is found valid is the bytes of the records read
pub valid_records : (program : List ℕ) → Octets program → is_valid program ≡ true → Right program (records_in program)
valid_records program o v =
    let t = tests_sound program v in
    let n = length program / record_size in
    let e : length program ≡ record_size * n = omega (arith, t.exact) in
    right_sound n program e o t.right

-- and it has no more than a program may
pub valid_few : (program : List ℕ) → is_valid program ≡ true → length program ≤ record_size * weight_limit
valid_few program v = (tests_sound program v).few

-- so it is valid
pub valid_sound : (program : List ℕ) → Octets program → is_valid program ≡ true → Valid program
valid_sound program o v = records_valid program (records_in program) (valid_records program o v) (tests_sound program v)

module _ {program : List ℕ} (v : Valid program) where
  -- each of its records is possible
  every_possible : Every Possible v.records
  every_possible = every_places v.records flip v.possible

  -- the bytes of a valid program are 16 for each record
  valid_length : length program ≡ record_size * length v.records
  valid_length = ap length v.laid ∙ encode_all_length v.records

  -- it passes the tests
  tests_pass : Tests program
  tests_pass =
      let rs = v.records in
      let n : length program / record_size ≡ length rs = omega (arith, valid_length) in
      record {
        some = omega (arith, valid_length, v.some);
        few = omega (arith, valid_length, v.few);
        exact = omega (arith, valid_length);
        right = ap (each_record right_record (length program / record_size)) v.laid
            ∙ ap (λ (k : ℕ). each_record right_record k (encode_all rs)) n
            ∙ walk_complete right_record rs (λ i h. rw (encode_all_at rs i h) (encode_right (get_or rs i flip) (v.possible i h) (encode_all (drop (suc i) rs))));
        starts = ap (λ (l : List ℕ). is_test_class (class_is (get_or l 0 0))) v.laid ∙ ap is_test_class (first_class rs every_possible v.some ∙ ap Some v.starts);
        grouped = ap (whole group_size) v.laid ∙ grouped_complete every_possible v.grouped;
        lands = ap (each_record lands_well (length program / record_size)) v.laid
            ∙ ap (λ (k : ℕ). each_record lands_well k (encode_all rs)) n
            ∙ landing_complete rs every_possible v.lands;
      }

  -- no valid program is missed
  pub valid_complete : is_valid program ≡ true
  valid_complete = tests_complete tests_pass
