-- What `compile_and_judge` answers, as what compiling and judging answer; and what it leaves where compiling refuses.
use Rattle.std.specs.Prelude.{ℕ, ◌≡◌, List, Option, Some, None, Result, Ok, Err}
use Rattle.filter.specs.declared.Refused.{Refused}
use Rattle.filter.specs.Functions.{Compiling, compiling_of, our_compiler}
use Rattle.judge.specs.declared.Tally.{Tally}
use Rattle.judge.specs.Functions.{Judging, judging_of, our_judge}
use Rattle.claims.specs.declared.Judged.{Judged}
use Rattle.claims.specs.Functions.{judged_with}
use Rattle.claims.specs.DemandThree.{DemandThreeAt}

-- what compiling says in an answer, with the program buffer afterwards
unfoldable pub compiling_in : Result Judged Refused → List ℕ → Compiling
compiling_in (Ok j) buffer = compiling_of (Ok j.bytes) buffer
compiling_in (Err r) buffer = compiling_of (Err r) buffer

-- what judging does, with the line buffer and the tally afterwards; where compiling refuses, nothing is judged
unfoldable pub judging_in : Result Judged Refused → List ℕ → Option Tally → Option Judging
judging_in (Ok j) lines counting = Some (judging_of j.judged lines counting)
judging_in (Err r) lines counting = None

-- what is promised of an answer a, with program, new and after as the two buffers and the tally afterwards
pub record Claimed (text buffer bytes lines : List ℕ) (counting : Option Tally) (a : Result Judged Refused) (program new : List ℕ) (after : Option Tally)
    : Type 0 where
  -- the answer is that of compiling, and of judging with the bytes that it reported
  pub compiled : compiling_in a program ≡ our_compiler text buffer
  pub judged : judging_in a new after ≡ judged_with our_judge (our_compiler text buffer) bytes lines counting
  -- demand 3 at these arguments
  pub demand : DemandThreeAt text buffer bytes lines counting (compiling_in a program) (judging_in a new after)
  -- where compiling refuses, program buffer, line buffer and tally are as they were
  pub left_alone : ((compiling_in a program).number ≡ 0 → ⊥) → (program ≡ buffer) × (new ≡ lines) × (after ≡ counting)
