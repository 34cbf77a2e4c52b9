-- A damaged record whose length is right changes nothing in a run of ours but that it is seen and refused. Assumes nothing.
use Prim.Native.Nat.{ℕ, zero, suc, ◌+◌, ◌≤◌, ◌<◌}
use native.Mathlib.Omega.{arith}
use mathlib.Core.Path.{◌≡◌, refl, sym, ◌∙◌}
use mathlib.Core.List.{List, ◌++◌}
use Rattle.std.specs.Prelude.{Option, Some, None}
use lib.ListN.{length}
use Rattle.octets.specs.Numbers.{Octets}
use Rattle.octets.specs.Rows.{Joined}
use Rattle.message.specs.declared.Refusal.{Refusal}
use Rattle.message.specs.Refusals.{RefusedWith}
use Rattle.program.specs.Validity.{Valid}
use Rattle.walk.specs.Split.{IsRecord}
use Rattle.walk.proofs.Walks.{place_end}
use Rattle.judge.specs.declared.Tally.{Tally}
use Rattle.judge.specs.Tallies.{FullTally}
use Rattle.judge.specs.declared.Refusal.TheVariants.{Record}
use Rattle.judge.specs.Answers.{number_of, refused}
use Rattle.judge.specs.Functions.{Judging, our_judge}
use Rattle.judge.specs.Functions as judge
use Rattle.judge.proofs.Answered.{refused_judged}
use Rattle.run.specs.Runs.{judged, Runner, RunState, start, state_of, answer_of, runner_of}
use Rattle.run.specs.Damage.{NoneFull, OneMore, uncounted, counted, Refuses, Unshaken, ChangesNothing}
use Rattle.run.proofs.Records.{judges, state_in_lem, answer_in_lem}
use Rattle.run.proofs.Apart.{Apart, later_alike}

-- a record's refusal is one more seen and refused
pub one_refused : (why : Refusal) (counting : Option Tally) → OneMore (judge.counted (refused (Record why)) counting) counting
one_refused why None = uncounted
one_refused why (Some t) = counted

-- a damaged record gets its refusal where the tally isn't full
refuses : {program damaged : List ℕ} {why : Refusal} → Valid program → Octets damaged → RefusedWith damaged why → (s : RunState) → (FullTally s.counting → ⊥)
    → Refuses s why (our_judge program damaged s.lines s.counting)
unfolding number_of
refuses {why = why} v o x s n =
    rw (refused_judged v n o x (length s.lines))
    (record { numbered = refl; nothing_spent = refl; unwritten = refl; lines_left = refl; counts = one_refused why s.counting })

-- what is asked of a run's first step, a tally that isn't full meets
pub none_full_first : (runner : Runner) (program bytes lines : List ℕ) (counting : Option Tally) → (FullTally counting → ⊥)
    → NoneFull runner program bytes (start lines counting) 0
unfolding state_of
none_full_first runner program bytes lines counting n = record { none_full = first }
  where
    first : (k : ℕ) → k ≤ 0 → {j : Judging} {next : ℕ} → answer_of runner program bytes (start lines counting) k ≡ judged j next
        → FullTally (state_of runner program bytes (start lines counting) k).counting → ⊥
    first zero h e f = n f
    first (suc k) h e f = omega arith

module _ (program before damaged after : List ℕ) {records : List (List ℕ)} (j : Joined IsRecord records before) (lines : List ℕ) (counting : Option Tally) where
  -- where each run has come to after the records before
  abbrev whole_here : RunState
  whole_here = state_of (runner_of our_judge) program (before ++ (damaged ++ after)) (start lines counting) (length records)

  abbrev clean_here : RunState
  clean_here = state_of (runner_of our_judge) program (before ++ after) (start lines counting) (length records)

  -- it is the same
  here_same : whole_here ≡ clean_here
  here_same =
      state_in_lem our_judge program j (damaged ++ after) lines counting (length records) (omega arith)
      ∙ sym (state_in_lem our_judge program j after lines counting (length records) (omega arith))

  here_placed : whole_here.at ≡ length before
  here_placed =
      rw (state_in_lem our_judge program j (damaged ++ after) lines counting (length records) (omega arith))
      (place_end j (length records) (omega arith))

  -- earlier answers are the same
  earlier : (k : ℕ) → k < length records
      → answer_of (runner_of our_judge) program (before ++ (damaged ++ after)) (start lines counting) k
      ≡ answer_of (runner_of our_judge) program (before ++ after) (start lines counting) k
  earlier k h =
      answer_in_lem our_judge program j (damaged ++ after) lines counting k h
      ∙ sym (answer_in_lem our_judge program j after lines counting k h)

  -- there the damaged record is judged
  abbrev answer : Judging
  answer = our_judge program damaged whole_here.lines whole_here.counting

  itself : IsRecord damaged damaged
      → answer_of (runner_of our_judge) program (before ++ (damaged ++ after)) (start lines counting) (length records) ≡ judged answer (length before + length damaged)
  itself is =
      rw here_placed
      (judges our_judge program (record { before = before; after = after; split = refl; placed = refl; is = is }) whole_here.lines whole_here.counting)

  -- and once it is refused, the runs are apart by it
  apart : IsRecord damaged damaged → {why : Refusal} → Refuses whole_here why answer
      → Apart program before damaged after (state_of (runner_of our_judge) program (before ++ (damaged ++ after)) (start lines counting) (suc (length records))) clean_here
  unfolding state_of
  apart is x =
      rw (itself is, ← here_same)
      (record {
        gone = 0;
        further_on = omega arith;
        placed = omega (arith, here_placed);
        same_lines = x.lines_left;
        one_more = x.counts;
      })

pub changes_nothing : ChangesNothing (runner_of our_judge)
changes_nothing = record { unshaken = unshaken }
  where
    unshaken : {program before damaged after : List ℕ} {records : List (List ℕ)} {why : Refusal} → Valid program
        → Joined IsRecord records before → IsRecord damaged damaged → Octets damaged → RefusedWith damaged why
        → (lines : List ℕ) (counting : Option Tally)
        → Unshaken (runner_of our_judge) program before damaged after (length records) why (start lines counting)
    unshaken {program} {before} {damaged} {after} {records} v j is o x lines counting =
        let e = itself program before damaged after j lines counting is in
        record {
          earlier = earlier program before damaged after j lines counting;
          answer = answer program before damaged after j lines counting;
          itself = e;
          refusal = refuses v o x _;
          later = λ k h m n.
              let r = refuses v o x _ (m.none_full (length records) (omega arith) e) in
              later_alike program before damaged after _ (length records) k h (m, n) (apart program before damaged after j lines counting is r);
        }
