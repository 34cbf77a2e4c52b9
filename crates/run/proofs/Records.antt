-- A run over joined records, whatever follows them: the k-th step judges the k-th record with what those before it left. Assumes nothing.
use Prim.Native.Nat.{ℕ, zero, suc, ◌+◌, ◌≤◌, ◌<◌}
use native.Mathlib.Omega.{arith}
use mathlib.Core.Path.{◌≡◌, refl, ap, ◌∙◌}
use mathlib.Core.List.{List, [], ◌∷◌, ◌++◌}
use Rattle.std.specs.Prelude.{Option}
use lib.ListN.{length, get_or, take}
use Rattle.octets.specs.Rows.{Joined}
use Rattle.walk.specs.Split.{IsRecord, place_in}
use Rattle.walk.proofs.Walks.{place_next, Stands, stands_step, stands_record, joined_stands}
use Rattle.judge.specs.declared.Tally.{Tally}
use Rattle.judge.specs.Functions.{Judge}
use Rattle.run.specs.Runs.{Stepped, judged, RunState, start, moved, state_of, answer_of, through, runner_of}

module _ (judge : Judge) (program : List ℕ) where
  -- a step where a record stands judges it
  pub judges : {bytes r : List ℕ} {at : ℕ} → Stands bytes r at → (lines : List ℕ) (counting : Option Tally)
      → runner_of judge program bytes at lines counting ≡ judged (judge program r lines counting) (at + length r)
  judges w lines counting = rw (stands_step w, stands_record w)

  -- one record more is judged with what those before it left
  through_next : (rs : List (List ℕ)) (k : ℕ) → k < length rs → (lines : List ℕ) (counting : Option Tally)
      → let x = through judge program (take k rs) lines counting in
      let j = judge program (get_or rs k []) x.0 x.1 in
      through judge program (take (suc k) rs) lines counting ≡ (j.lines, j.tally)
  unfolding through
  through_next [] k h lines counting = absurd (omega arith)
  through_next (r ∷ rs) zero h lines counting = refl
  through_next (r ∷ rs) (suc k) h lines counting =
      let j = judge program r lines counting in
      through_next rs k (omega arith) j.lines j.tally

  -- the state before the k-th of the records
  abbrev pub state_in : List (List ℕ) → List ℕ → Option Tally → ℕ → RunState
  state_in rs lines counting k =
      let x = through judge program (take k rs) lines counting in
      record { at = place_in rs k; lines = x.0; counting = x.1 }

  -- the answer of the k-th step
  abbrev pub answer_in : List (List ℕ) → List ℕ → Option Tally → ℕ → Stepped
  answer_in rs lines counting k =
      let s = state_in rs lines counting k in
      judged (judge program (get_or rs k []) s.lines s.counting) (place_in rs (suc k))

  module _ {rs : List (List ℕ)} {front : List ℕ} (j : Joined IsRecord rs front) (rest lines : List ℕ) (counting : Option Tally) where
    -- from that state the step judges the k-th record
    answers : (k : ℕ) → k < length rs
        → state_of (runner_of judge) program (front ++ rest) (start lines counting) k ≡ state_in rs lines counting k
        → answer_of (runner_of judge) program (front ++ rest) (start lines counting) k ≡ answer_in rs lines counting k
    answers k h e = rw (e, place_next rs k) (judges (joined_stands j rest k h) _ _)

    pub state_in_lem : (k : ℕ) → k ≤ length rs
        → state_of (runner_of judge) program (front ++ rest) (start lines counting) k ≡ state_in rs lines counting k
    unfolding state_of through place_in
    state_in_lem zero h = refl
    state_in_lem (suc k) h =
        ap (moved (state_of (runner_of judge) program (front ++ rest) (start lines counting) k)) (answers k (omega arith) (state_in_lem k (omega arith)))
        ∙ rw (through_next rs k (omega arith) lines counting)

    pub answer_in_lem : (k : ℕ) → k < length rs
        → answer_of (runner_of judge) program (front ++ rest) (start lines counting) k ≡ answer_in rs lines counting k
    answer_in_lem k h = answers k h (state_in_lem k (omega arith))
