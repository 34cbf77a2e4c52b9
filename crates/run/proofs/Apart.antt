-- Two runs over the same bytes, behind a front and behind one that has a refused record more: their answers stay the same. Assumes nothing.
use Prim.Native.Nat.{ℕ, zero, suc, ◌+◌, ◌-◌, ◌≤◌}
use native.Mathlib.Nat.{add-zero, add-suc}
use native.Mathlib.Omega.{arith}
use mathlib.Core.Path.{◌≡◌, refl}
use mathlib.Core.List.{List, ◌++◌, append_assoc}
use Rattle.std.specs.Prelude.{Option}
use lib.ListN.{length, take, drop, length-append}
use Rattle.walk.specs.declared.Step.{Step}
use Rattle.walk.specs.declared.Step.TheVariants.{Record, Done, Cut}
use Rattle.walk.specs.Steps.{step_at}
use Rattle.judge.specs.declared.Tally.{Tally}
use Rattle.judge.specs.Tallies.{FullTally, one_kept, one_dropped, one_refused}
use Rattle.judge.specs.declared.Refusal.TheVariants.{Program, Count, Record as OfRecord, Lines}
use Rattle.judge.specs.Answers.{RecordOutcome, kept, dropped, refused}
use Rattle.judge.specs.Functions.{Judging, our_judge}
use Rattle.judge.specs.Functions as judge
use Rattle.judge.proofs.Alike.{judged_alike}
use Rattle.run.specs.Runs.{Stepped, judged, RunState, moved, step_on, state_of, stepped_by, runner_of}
use Rattle.run.specs.Damage.{NoneFull, OneMore, uncounted, counted, SameAnswer, Same, both_judged, both_done, both_cut}
use Rattle.run.proofs.Behind.{onward, runs_behind}

-- ---- one record

-- one more seen and refused stays so after any outcome
more_after : (o : RecordOutcome) {a b : Option Tally} → OneMore a b → OneMore (judge.counted o a) (judge.counted o b)
more_after o uncounted = uncounted
more_after (kept spent lines) (counted {t}) = counted {t = one_kept t}
more_after (dropped spent) (counted {t}) = counted {t = one_dropped t}
more_after (refused (OfRecord why)) (counted {t}) = counted {t = one_refused t}
more_after (refused Program) (counted {t}) = counted {t = t}
more_after (refused Count) (counted {t}) = counted {t = t}
more_after (refused Lines) (counted {t}) = counted {t = t}

-- so where neither tally is full, a record has the same answer
same_answer : (program bytes lines : List ℕ) {a b : Option Tally} → OneMore a b → (FullTally a → ⊥) → (FullTally b → ⊥)
    → SameAnswer (our_judge program bytes lines a) (our_judge program bytes lines b)
same_answer program bytes lines more m n =
    rw (judged_alike m n program bytes (length lines))
    (record { same_number = refl; same_spent = refl; same_written = refl; same_lines = refl; one_more = more_after _ more })

-- ---- the runs

module _ (program before damaged after : List ℕ) where
  -- a step of each, and the state after some
  abbrev whole_step : RunState → Stepped
  whole_step s = step_on (runner_of our_judge) program (before ++ (damaged ++ after)) s

  abbrev clean_step : RunState → Stepped
  clean_step s = step_on (runner_of our_judge) program (before ++ after) s

  abbrev whole_state : RunState → ℕ → RunState
  whole_state s k = state_of (runner_of our_judge) program (before ++ (damaged ++ after)) s k

  abbrev clean_state : RunState → ℕ → RunState
  clean_state s k = state_of (runner_of our_judge) program (before ++ after) s k

  -- as much of what follows is behind both, the line buffer is the same, and the tally is one more seen and refused
  pub record Apart (a b : RunState) : Type 0 where
    pub gone : ℕ
    pub further_on : a.at ≡ length before + length damaged + gone
    pub placed : b.at ≡ length before + gone
    pub same_lines : a.lines ≡ b.lines
    pub one_more : OneMore a.counting b.counting

  module _ {a b : RunState} (w : Apart a b) where
    -- the answers at such states are the same, and lead to such states
    abbrev Alike : Stepped → Stepped → Type 0
    Alike x y = Same (length damaged) x y × Apart (moved a x) (moved b y)

    -- both steps are that over what follows
    whole_behind : whole_step a
        ≡ onward (length before + length damaged) (stepped_by our_judge program after a.lines a.counting (step_at after w.gone))
    whole_behind =
        rw (w.further_on, ← append_assoc before damaged after, ← length-append before damaged)
        (runs_behind our_judge program (before ++ damaged) after w.gone a.lines a.counting)

    clean_behind : clean_step b
        ≡ onward (length before) (stepped_by our_judge program after b.lines b.counting (step_at after w.gone))
    clean_behind = rw w.placed (runs_behind our_judge program before after w.gone b.lines b.counting)

    steps_alike : ((j : Judging) (next : ℕ) → whole_step a ≡ judged j next → FullTally a.counting → ⊥)
        → ((j : Judging) (next : ℕ) → clean_step b ≡ judged j next → FullTally b.counting → ⊥)
        → Alike (whole_step a) (clean_step b)
    steps_alike m n = go (step_at after w.gone) whole_behind clean_behind
      where
        -- done and cut leave both where they are
        still : Apart (record { at = a.at; lines = b.lines; counting = a.counting }) b
        still = record { gone = w.gone; further_on = w.further_on; placed = w.placed; same_lines = refl; one_more = w.one_more }

        go : (t : Step)
            → whole_step a ≡ onward (length before + length damaged) (stepped_by our_judge program after a.lines a.counting t)
            → clean_step b ≡ onward (length before) (stepped_by our_judge program after b.lines b.counting t)
            → Alike (whole_step a) (clean_step b)
        go (Record start len) e f =
            let r = take len (drop start after) in
            let x : SameAnswer (our_judge program r a.lines a.counting) (our_judge program r b.lines b.counting) =
            rw w.same_lines (same_answer program r b.lines w.one_more (m _ _ e) (n _ _ f)) in
            let further : length before + length damaged + (start + len) ≡ length before + (start + len) + length damaged = omega arith in
            rw (e, f)
            (both_judged x further, record { gone = start + len; further_on = refl; placed = refl; same_lines = x.same_lines; one_more = x.one_more })
        go Done e f = rw (e, f, w.same_lines) (both_done, still)
        go (Cut left) e f = rw (e, f, w.same_lines) (both_cut, still)

  module _ (s : RunState) where
    -- no tally is full in either run, up to the step of the clean one
    abbrev Free : ℕ → Type 0
    Free k = NoneFull (runner_of our_judge) program (before ++ (damaged ++ after)) s (suc k) × NoneFull (runner_of our_judge) program (before ++ after) s k

    -- nor up to an earlier one
    free_before : {i k : ℕ} → i ≤ k → Free k → Free i
    free_before h f = (record { none_full = λ j g. f.0.none_full j (omega arith) }, record { none_full = λ j g. f.1.none_full j (omega arith) })

    -- one step later
    next_apart : (k : ℕ) → Free k → Apart (whole_state s (suc k)) (clean_state s k)
        → Same (length damaged) (whole_step (whole_state s (suc k))) (clean_step (clean_state s k)) × Apart (whole_state s (suc (suc k))) (clean_state s (suc k))
    unfolding state_of
    next_apart k f w = steps_alike w (λ j next e. f.0.none_full (suc k) (omega arith) e) (λ j next e. f.1.none_full k (omega arith) e)

    -- any number of steps later
    stays_apart : (i k : ℕ) → Free (i + k) → Apart (whole_state s (suc i)) (clean_state s i) → Apart (whole_state s (suc (i + k))) (clean_state s (i + k))
    stays_apart i zero f w = rw add-zero w
    stays_apart i (suc k) f w =
        let g : Free (i + k) = free_before (omega arith) f in
        rw add-suc (next_apart (i + k) g (stays_apart i k g w)).1

    pub later_alike : (i k : ℕ) → i ≤ k → Free k → Apart (whole_state s (suc i)) (clean_state s i)
        → Same (length damaged) (whole_step (whole_state s (suc k))) (clean_step (clean_state s k))
    later_alike i k h f w =
        let e : i + (k - i) ≡ k = omega arith in
        (next_apart k f (rw e at (stays_apart i (k - i) (rw e f) w))).0
