-- A damaged record in a run: what a run over `before ++ damaged ++ after` has to do with one over `before ++ after`.
use Rattle.std.specs.Prelude.{ℕ, suc, ◌+◌, ◌≤◌, ◌<◌, ◌≡◌, List, ◌++◌, length, Option, Some, None}
use Rattle.octets.specs.Numbers.{Octets}
use Rattle.octets.specs.Rows.{Joined}
use Rattle.message.specs.declared.Refusal.{Refusal}
use Rattle.message.specs.Refusals.{RefusedWith, number}
use Rattle.program.specs.Spent.{nothing}
use Rattle.program.specs.Validity.{Valid}
use Rattle.walk.specs.Split.{IsRecord}
use Rattle.judge.specs.declared.Tally.{Tally}
use Rattle.judge.specs.Tallies.{FullTally, one_refused}
use Rattle.judge.specs.Functions.{Judging}
use Rattle.run.specs.Runs.{Stepped, judged, done, cut, Runner, RunState, start, state_of, answer_of}

-- no record of a run is judged with a full tally, up to the n-th step
pub record NoneFull (runner : Runner) (program bytes : List ℕ) (s : RunState) (n : ℕ) : Type 0 where
  pub none_full : (k : ℕ) → k ≤ n → {j : Judging} {next : ℕ} → answer_of runner program bytes s k ≡ judged j next
      → FullTally (state_of runner program bytes s k).counting → ⊥

-- the first tally is the second with one more seen and one more refused; or there is none
pub data OneMore : Option Tally → Option Tally → Type 0 where
  uncounted : OneMore None None
  counted : {t : Tally} → OneMore (Some (one_refused t)) (Some t)

-- the same number, what was spent, bytes written and line buffer
pub record SameAnswer (a b : Judging) : Type 0 where
  pub same_number : a.number ≡ b.number
  pub same_spent : a.spent ≡ b.spent
  pub same_written : a.written ≡ b.written
  pub same_lines : a.lines ≡ b.lines
  pub one_more : OneMore a.tally b.tally

-- the same later answer, at places that lie so many bytes apart
pub data Same (size : ℕ) : Stepped → Stepped → Type 0 where
  both_judged : {a b : Judging} {p q : ℕ} → SameAnswer a b → p ≡ q + size → Same size (judged a p) (judged b q)
  both_done : {lines : List ℕ} → Same size (done lines) (done lines)
  both_cut : {left : ℕ} {lines : List ℕ} → Same size (cut left lines) (cut left lines)

-- the damaged record gets its refusal: no byte of the line buffer changes, and it counts as one seen and one refused
pub record Refuses (s : RunState) (why : Refusal) (j : Judging) : Type 0 where
  pub numbered : j.number ≡ number why
  pub nothing_spent : j.spent ≡ nothing
  pub unwritten : j.written ≡ 0
  pub lines_left : j.lines ≡ s.lines
  pub counts : OneMore j.tally s.counting

-- what the damaged record does to a run that has come to it after some records
pub record Unshaken (runner : Runner) (program before damaged after : List ℕ) (records : ℕ) (why : Refusal) (s : RunState) : Type 0 where
  -- earlier answers are the same
  pub earlier : (k : ℕ) → k < records → answer_of runner program (before ++ (damaged ++ after)) s k ≡ answer_of runner program (before ++ after) s k
  -- its own answer
  pub answer : Judging
  pub itself : answer_of runner program (before ++ (damaged ++ after)) s records ≡ judged answer (length before + length damaged)
  -- is its refusal, if the tally isn't full
  pub refusal : (FullTally (state_of runner program (before ++ (damaged ++ after)) s records).counting → ⊥)
      → Refuses (state_of runner program (before ++ (damaged ++ after)) s records) why answer
  -- later answers are the same, one step later, while no tally is full in either run
  pub later : (k : ℕ) → records ≤ k → NoneFull runner program (before ++ (damaged ++ after)) s (suc k) → NoneFull runner program (before ++ after) s k
      → Same (length damaged) (answer_of runner program (before ++ (damaged ++ after)) s (suc k)) (answer_of runner program (before ++ after) s k)

-- with a valid program, records before it whose lengths are right, its own length right, and whatever it is otherwise refused for
pub record ChangesNothing (runner : Runner) : Type 1 where
  pub unshaken : {program before damaged after : List ℕ} {records : List (List ℕ)} {why : Refusal} → Valid program
      → Joined IsRecord records before → IsRecord damaged damaged → Octets damaged → RefusedWith damaged why
      → (lines : List ℕ) (counting : Option Tally)
      → Unshaken runner program before damaged after (length records) why (start lines counting)
