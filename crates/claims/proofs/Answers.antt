-- What `compile_and_judge` answers is what compiling and judging answer, and so demand 3 holds of it. Assumes nothing.
use Prim.Native.Nat.{ℕ}
use native.Mathlib.Omega.{arith}
use mathlib.Core.Path.{◌≡◌, refl, ap, ◌∙◌}
use mathlib.Core.List.{List}
use Rattle.std.specs.Prelude.{Option, Some, None, Result, Ok, Err}
use lib.ListN.{take}
use borrow.Author.Tests.{ne_eqb}
use Rattle.filter.specs.declared.Refused as filter
use Rattle.filter.specs.Answers.{number_of}
use Rattle.filter.specs.Functions.{Compiling, compiling_of, our_compiler}
use Rattle.filter.proofs.Numbers.{number_between}
use Rattle.judge.specs.declared.Tally.{Tally}
use Rattle.judge.specs.declared.Verdict.{Verdict}
use Rattle.judge.specs.declared.Refusal.{Refusal}
use Rattle.judge.specs.Functions.{Judging, judging_of, our_judge}
use Rattle.claims.specs.Functions.{judged_with}
use Rattle.claims.specs.DemandThree.{DemandThreeAt}
use Rattle.claims.specs.Answered.{compiling_in, judging_in, Claimed}
use Rattle.claims.proofs.DemandOne.{demand_one}
use Rattle.claims.proofs.DemandThree.{demand_three}

module _ (text buffer bytes lines : List ℕ) (counting : Option Tally) where
  -- demand 3 at an answer that says what compiling and judging do
  demanded : {c : Compiling} {j : Option Judging} → c ≡ our_compiler text buffer → j ≡ judged_with our_judge (our_compiler text buffer) bytes lines counting
      → DemandThreeAt text buffer bytes lines counting c j
  demanded e f = rw (e, f) (demand_three.anywhere text buffer bytes lines counting)

  module _ (c : Result ℕ filter.Refused) (program : List ℕ) (promise : compiling_of c program ≡ our_compiler text buffer) where
    -- the text compiles, and the record is judged with the reported bytes
    pub promised_judged : (size : ℕ) → c ≡ Ok size → (j : Result Verdict Refusal) (new : List ℕ) (after : Option Tally)
        → judging_of j new after ≡ our_judge (take size program) bytes lines counting → Claimed text buffer bytes lines counting (Ok (record { bytes = size; judged = j })) program new after
    unfolding compiling_in judging_in compiling_of
    promised_judged size is j new after e =
        let says : compiling_of (Ok size) program ≡ our_compiler text buffer = rw is at promise in
        let judges : Some (judging_of j new after) ≡ judged_with our_judge (our_compiler text buffer) bytes lines counting = rw (← says) (ap Some e) in
        record { compiled = says; judged = judges; demand = demanded says judges; left_alone = λ n. absurd (n refl) }

    -- it doesn't
    pub promised_refused : (r : filter.Refused) → c ≡ Err r → Claimed text buffer bytes lines counting (Err r) program lines counting
    unfolding compiling_in judging_in compiling_of
    promised_refused r is =
        let says : compiling_of (Err r) program ≡ our_compiler text buffer = rw is at promise in
        let number : number_of r.refusal ≡ (our_compiler text buffer).number = ap (λ (x : Compiling). x.number) says in
        let some_number : (our_compiler text buffer).number ≡ 0 → ⊥ = λ z. omega (arith, number, number_between r.refusal) in
        let judges : ◌≡◌ {A = Option Judging} None (judged_with our_judge (our_compiler text buffer) bytes lines counting) = rw (ne_eqb _ _ some_number) refl in
        record {
          compiled = says;
          judged = judges;
          demand = demanded says judges;
          left_alone = λ n.
              (ap (λ (x : Compiling). x.buffer) says ∙ (demand_one.texts text buffer).leaves (omega (arith, number, number_between r.refusal)), refl, refl);
        }
