-- Demand 1 holds of our compiler and our judge. Assumes nothing.
use Prim.Native.Nat.{ℕ, ◌≤◌}
use native.Mathlib.Omega.{arith}
use mathlib.Core.Path.{◌≡◌, refl, ap}
use mathlib.Core.List.{List}
use Rattle.std.specs.Prelude.{Option, Some, None}
use lib.ListN.{length}
use Rattle.truth.proofs.Machines.{record_means}
use Rattle.filter.specs.Answers as texts
use Rattle.filter.specs.Answering as compiling
use Rattle.filter.specs.Functions as functions
use Rattle.filter.specs.Functions.{our_compiler}
use Rattle.filter.proofs.Answered.{answer_given, only_answer}
use Rattle.filter.proofs.Numbers as filter
use Rattle.filter.proofs.GivenPossible.{given_possible}
use Rattle.judge.specs.declared.Tally.{Tally}
use Rattle.judge.specs.declared.Refusal.{Refusal}
use Rattle.judge.specs.declared.Refusal.TheVariants.{Program, Count, Record, Lines}
use Rattle.judge.specs.Answers as records
use Rattle.judge.specs.Judging as judging
use Rattle.judge.specs.Functions.{said_of, counted as tallied, judgement, our_judge}
use Rattle.judge.proofs.Answered.{judge_given, only_judged}
use Rattle.judge.proofs.Counting.{record_number, number_between, number_one}
use Rattle.judge.proofs.Counting.{roomy as never_short}
use Rattle.run.specs.Damage.{OneMore}
use Rattle.run.proofs.Damaged.{one_refused}
use Rattle.claims.specs.DemandOne.{OfText, verdict, refusal, OfRecord, DemandOne}

-- ---- texts

module _ {text buffer : List ℕ} where
  -- by the answer, where no other is given
  of_text : (o : texts.TextOutcome) → texts.TextAnswers text (length buffer) o → ((p : texts.TextOutcome) → texts.TextAnswers text (length buffer) p → o ≡ p)
      → OfText text buffer (functions.compiling o buffer)
  of_text (texts.compiled r) a only = record {
    numbered = omega arith;
    refuses = λ why place. (
      λ e. absurd (omega (arith, e.0, filter.number_between why)),
      λ b. let z : ◌≡◌ {A = ℕ} 0 1 = cc (only (texts.refused why place) b) in absurd (omega arith),
    );
    leaves = λ h. absurd (omega arith);
    answer = texts.compiled r;
    given = a;
    is = refl;
  }
  of_text (texts.refused m q) a only = record {
    numbered = (filter.number_between m).1;
    refuses = λ why place. (
      λ e. rw (← filter.number_one m why e.0, ← e.1) a,
      λ b. (
        ap (λ (o : texts.TextOutcome). (functions.compiling o buffer).number) (only (texts.refused why place) b),
        ap (λ (o : texts.TextOutcome). (functions.compiling o buffer).value) (only (texts.refused why place) b),
      ),
    );
    leaves = λ h. refl;
    answer = texts.refused m q;
    given = a;
    is = refl;
  }

-- ---- records

-- a refusal of a record is counted
one_more : (why : Refusal) (counting : Option Tally) → records.number_of why ≤ 18 → OneMore (tallied (records.refused why) counting) counting
unfolding records.number_of
one_more (Record why) counting h = one_refused why counting
one_more Program counting h = absurd (omega arith)
one_more Count counting h = absurd (omega arith)
one_more Lines counting h = absurd (omega arith)

-- the others leave the tally
as_it_was : (why : Refusal) (counting : Option Tally) → 19 ≤ records.number_of why → tallied (records.refused why) counting ≡ counting
as_it_was (Record why) counting h = absurd (omega (arith, record_number why))
as_it_was Program None h = refl
as_it_was Program (Some t) h = refl
as_it_was Count None h = refl
as_it_was Count (Some t) h = refl
as_it_was Lines None h = refl
as_it_was Lines (Some t) h = refl

module _ (program bytes lines : List ℕ) (counting : Option Tally) where
  abbrev Given : records.RecordOutcome → Type 1
  Given o = records.RecordAnswers program bytes (length lines) counting o

  -- a verdict is no refusal
  of_verdict : (o : records.RecordOutcome) → Given o → (said_of o).0 ≤ 1 → ((why : Refusal) → Given (records.refused why) → ⊥)
      → OfRecord program bytes lines counting (judgement o lines counting)
  of_verdict o a small no-refusal = record {
    numbered = verdict small;
    refuses = λ why. (λ e. absurd (omega (arith, e, number_between why)), λ b. absurd (no-refusal why b));
    leaves = λ h. absurd (omega arith);
    counts = λ h k. absurd (omega arith);
    uncounted = λ h. absurd (omega arith);
    roomy = λ h e. omega arith;
    answer = o;
    given = a;
    is = refl;
  }

  -- by the answer, where no other is given
  of_record : (o : records.RecordOutcome) → Given o → ((p : records.RecordOutcome) → Given p → o ≡ p) → OfRecord program bytes lines counting (judgement o lines counting)
  unfolding records.number_of
  of_record (records.kept spent text) a only =
      of_verdict (records.kept spent text) a (omega arith) (λ why b. let z : ◌≡◌ {A = ℕ} 0 1 = cc (only (records.refused why) b) in omega arith)
  of_record (records.dropped spent) a only =
      of_verdict (records.dropped spent) a (omega arith) (λ why b. let z : ◌≡◌ {A = ℕ} 0 1 = cc (only (records.refused why) b) in omega arith)
  of_record (records.refused m) a only = record {
    numbered = refusal (number_between m).0 (number_between m).1;
    refuses = λ why.
        (λ e. rw (← number_one m why e) a, λ b. ap (λ (o : records.RecordOutcome). (said_of o).0) (only (records.refused why) b));
    leaves = λ h. (refl, refl);
    counts = λ h k. one_more m counting k;
    uncounted = λ h. as_it_was m counting h;
    roomy = λ h e. never_short h (rw (number_one m Lines e) at a);
    answer = records.refused m;
    given = a;
    is = refl;
  }

-- demand 1
pub demand_one : DemandOne our_compiler our_judge
demand_one = record {
  texts = λ text buffer. of_text (compiling.answer text (length buffer)) (answer_given text (length buffer)) (λ p a. only_answer text (length buffer) a);
  records = λ program bytes lines counting p b.
      of_record program bytes lines counting (judging.judge_of program bytes (length lines) counting) (judge_given p b) (λ o a. only_judged p b a);
  possible = given_possible;
  truthful = record_means;
}
