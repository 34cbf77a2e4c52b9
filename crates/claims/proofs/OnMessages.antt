-- Judging a message's record with the program of a text: the verdict that the words mean, and the lines. Assumes nothing.
use Prim.Native.Nat.{ℕ}
use native.Mathlib.Omega.{arith}
use mathlib.Core.Path.{◌≡◌, refl, sym, ◌∙◌}
use mathlib.Core.Bool.{Bool, true, false}
use mathlib.Core.List.{List}
use mathlib.Core.Logic.{◌↔◌}
use Rattle.std.specs.Prelude.{Option}
use lib.ListN.{length}
use lib.Dec.{ltb}
use borrow.Author.Tests.{le-ltb}
use Rattle.octets.proofs.Choices.{never}
use Rattle.message.specs.Message.{Message}
use Rattle.message.specs.Represents.{Represents}
use Rattle.line.specs.Line.{lines_of}
use Rattle.program.specs.declared.Spent.{Spent}
use Rattle.program.specs.Readings.{Reading, verdict, spent}
use Rattle.truth.specs.Means.{test_holds}
use Rattle.truth.specs.Verdict.{HasVerdict}
use Rattle.truth.proofs.Addresses.{represented_addressed, reading_addressed}
use Rattle.truth.proofs.Verdicts.{verdict_exactly}
use Rattle.filter.specs.Answers.{Derived}
use Rattle.filter.specs.Functions.{reported, our_compiler}
use Rattle.filter.proofs.CompiledValid.{reads_possible}
use Rattle.judge.specs.declared.Tally.{Tally}
use Rattle.judge.specs.Tallies.{FullTally}
use Rattle.judge.specs.Judging.{judged_by}
use Rattle.judge.specs.Functions.{judgement, our_judge}
use Rattle.claims.specs.DemandTwo.{OnMessage}
use Rattle.claims.proofs.DemandThree.{judges, not_dropped}

-- by the verdict
module _ (r : Reading) (m : Message) (lines : List ℕ) (counting : Option Tally) (n : Spent)
    (told : (b : Bool) → (verdict (test_holds m) r ≡ b) ↔ HasVerdict m r b) where
  by_verdict : (b : Bool) → verdict (test_holds m) r ≡ b → OnMessage r m lines (judgement (judged_by (length lines) m (b, n)) lines counting)
  by_verdict true e = record {
    keeps = λ h. (λ x. (told true).0 e, λ y. rw (le-ltb _ _ h));
    drops = (λ x. absurd (not_dropped (ltb (length lines) (length (lines_of m))) n (lines_of m) x), λ y. absurd (never (sym ((told false).1 y) ∙ e)));
    printed = λ h y. rw (le-ltb _ _ h) (refl, refl);
    silent = λ y. absurd (never (sym ((told false).1 y) ∙ e));
  }
  by_verdict false e = record {
    keeps = λ h. (λ x. absurd (omega arith), λ y. absurd (never (sym e ∙ (told true).1 y)));
    drops = (λ x. (told false).0 e, λ y. refl);
    printed = λ h y. absurd (never (sym e ∙ (told true).1 y));
    silent = λ y. (refl, refl);
  }

-- as demand 2 has it
pub on_message : (text buffer : List ℕ) {r : Reading} → (our_compiler text buffer).number ≡ 0 → Derived text r
    → {m : Message} {bytes : List ℕ} → Represents m bytes → (lines : List ℕ) (counting : Option Tally) → (FullTally counting → ⊥)
    → OnMessage r m lines (our_judge (reported (our_compiler text buffer)) bytes lines counting)
on_message text buffer {r} e d {m} x lines counting f =
    let p = reading_addressed r (reads_possible d.reads) in
    rw (judges text buffer e d x f (length lines) refl)
    (by_verdict r m lines counting (spent (test_holds m) r) (λ b. verdict_exactly (represented_addressed x) r p) (verdict (test_holds m) r) refl)
