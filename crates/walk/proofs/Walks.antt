-- The walk over bytes that split: its k-th step is the k-th record, and from the last on the closing answer. Assumes nothing.
use Prim.Native.Nat.{ℕ, zero, suc, ◌+◌, ◌≤◌, ◌<◌}
use native.Mathlib.Nat.{lt_of_not-le}
use native.Mathlib.Decide.{dec_le}
use native.Mathlib.Omega.{arith}
use mathlib.Core.Path.{◌≡◌, refl, sym, ap, ◌∙◌}
use mathlib.Core.List.{List, [], ◌∷◌, ◌++◌, append_assoc}
use lib.ListN.{length, get_or, length-append}
use Rattle.octets.specs.Rows.{Joined, none, more}
use Rattle.walk.specs.declared.Step.TheVariants.{Record}
use Rattle.walk.specs.Split.{IsRecord, Splits, place_in}
use Rattle.walk.specs.Steps.{step_at, record_of, place_after, place_of, step_of, closing_of}
use Rattle.walk.proofs.Steps.{step_stands, record_stands, step_closes, stays, closing_stopped}

-- the next place lies one record further
pub place_next : (rs : List (List ℕ)) (k : ℕ) → place_in rs (suc k) ≡ place_in rs k + length (get_or rs k [])
unfolding place_in
place_next [] zero = refl
place_next [] (suc k) = refl
place_next (r ∷ rs) zero = omega arith
place_next (r ∷ rs) (suc k) = omega (arith, place_next rs k)

-- past the last record the place is the length of all of them
pub place_end : {rs : List (List ℕ)} {front : List ℕ} → Joined IsRecord rs front → (k : ℕ) → length rs ≤ k → place_in rs k ≡ length front
unfolding place_in
place_end none zero h = refl
place_end none (suc k) h = refl
place_end (more w j e) zero h = absurd (omega arith)
place_end (more {bytes = bytes} {rest = rest} w j e) (suc k) h =
    omega (arith, place_end j k (omega arith), length-append bytes rest, ap length e, ap length w.same)

-- ---- a record that stands at a place in bytes

pub record Stands (bytes r : List ℕ) (at : ℕ) : Type 0 where
  pub before : List ℕ
  pub after : List ℕ
  pub split : bytes ≡ before ++ (r ++ after)
  pub placed : length before ≡ at
  pub is : IsRecord r r

-- the step there is that record
pub stands_step : {bytes r : List ℕ} {at : ℕ} → Stands bytes r at → step_at bytes at ≡ Record at (length r)
stands_step s = rw (s.split, ← s.placed) (step_stands s.before s.is s.after)

-- and its bytes are the record's
pub stands_record : {bytes r : List ℕ} {at : ℕ} → Stands bytes r at → record_of bytes (Record at (length r)) ≡ r
stands_record {r = r} s = rw (s.split, ← s.placed) (record_stands s.before r s.after)

-- a record stands at the front
stands_front : {r bytes : List ℕ} → IsRecord r bytes → (after : List ℕ) → Stands (bytes ++ after) r 0
stands_front w after = record {
  before = [];
  after = after;
  split = rw w.same;
  placed = refl;
  is = record { same = refl; headed = w.headed; sized = w.sized };
}

-- it stands further on where bytes come before it
stands_after : (front : List ℕ) {bytes r : List ℕ} {at : ℕ} → Stands bytes r at → Stands (front ++ bytes) r (length front + at)
stands_after front {bytes} {r} s = record {
  before = front ++ s.before;
  after = s.after;
  split = rw s.split (sym (append_assoc front s.before (r ++ s.after)));
  placed = rw (length-append, s.placed);
  is = s.is;
}

-- the k-th record stands at its place
pub joined_stands : {rs : List (List ℕ)} {front : List ℕ} → Joined IsRecord rs front
    → (rest : List ℕ) (k : ℕ) → k < length rs → Stands (front ++ rest) (get_or rs k []) (place_in rs k)
unfolding place_in
joined_stands none rest k h = absurd (omega arith)
joined_stands (more {rest = after} w j e) rest zero h = rw (e, append_assoc) (stands_front w (after ++ rest))
joined_stands (more {bytes = bytes} w j e) rest (suc k) h =
    rw (e, append_assoc, ← w.same) (stands_after bytes (joined_stands j rest k (omega arith)))

-- ---- the walk

module _ {bytes rest : List ℕ} {rs : List (List ℕ)} (s : Splits bytes rs rest) where
  -- the k-th record of a split stands at its place
  splits_stands : (k : ℕ) → k < length rs → Stands bytes (get_or rs k []) (place_in rs k)
  splits_stands k h = rw s.split (joined_stands s.joined rest k h)

  -- past the last record the walk closes
  closes : (k : ℕ) → length rs ≤ k → step_at bytes (place_in rs k) ≡ closing_of rest
  closes k h = rw (place_end s.joined k h, s.split) (step_closes s.front s.closing)

  -- each step goes on to the next place
  goes_on : (k : ℕ) → place_after (step_at bytes (place_in rs k)) (place_in rs k) ≡ place_in rs (suc k)
  goes_on k = go (dec_le (length rs) k)
    where
      go : Dec (length rs ≤ k) → place_after (step_at bytes (place_in rs k)) (place_in rs k) ≡ place_in rs (suc k)
      go (yes h) =
          rw (closes k h)
          (stays (closing_of rest) (place_in rs k) (closing_stopped rest)
          ∙ place_end s.joined k h ∙ sym (place_end s.joined (suc k) (omega arith)))
      go (no h) = rw (stands_step (splits_stands k (lt_of_not-le h))) (sym (place_next rs k))

  -- the place of the k-th step is that of the k-th record; past the last record it is their end
  place_is : (k : ℕ) → place_of bytes k ≡ place_in rs k
  unfolding place_of place_in
  place_is zero = refl
  place_is (suc k) = rw (place_is k) (goes_on k)

  -- the k-th step is the k-th record
  pub step_record : (k : ℕ) → k < length rs
      → (step_of bytes k ≡ Record (place_in rs k) (length (get_or rs k []))) × (record_of bytes (step_of bytes k) ≡ get_or rs k [])
  step_record k h =
      let w = splits_stands k h in
      let e : step_of bytes k ≡ Record (place_in rs k) (length (get_or rs k [])) = rw (place_is k) (stands_step w) in
      (e, rw e (stands_record w))

  -- after the last record every step is the closing answer
  pub step_closing : (k : ℕ) → length rs ≤ k → step_of bytes k ≡ closing_of rest
  step_closing k h = rw (place_is k) (closes k h)
