-- Judging as a function of all that is lent, so that a claim can be said of another judge too; and ours.
use Rattle.std.specs.Prelude.{ℕ, List, length, Option, Some, None, Result, Ok, Err}
use Rattle.program.specs.declared.Spent.{Spent}
use Rattle.program.specs.Spent.{nothing}
use Rattle.judge.specs.declared.Refusal.{Refusal}
use Rattle.judge.specs.declared.Verdict.{Verdict}
use Rattle.judge.specs.declared.Verdict.TheVariants.{Kept, Dropped}
use Rattle.judge.specs.declared.Tally.{Tally}
use Rattle.judge.specs.Answers.{number_of, RecordOutcome, kept, dropped, refused, lines_after, tally_after}
use Rattle.judge.specs.Judging.{judge_of}

-- what judging answers, and the line buffer and the tally afterwards: 1 kept or 0 dropped with what was spent and the bytes of the lines, or a
-- refusal's number
pub record Judging : Type 0 where
  pub number : ℕ
  pub spent : Spent
  pub written : ℕ
  pub lines : List ℕ
  pub tally : Option Tally

-- of a program, a record, a line buffer and a tally or none
abbrev pub Judge : Type 0
Judge = List ℕ → List ℕ → List ℕ → Option Tally → Judging

-- what the code's answer says: 1 kept with what was spent and the bytes of the lines, 0 dropped with what was spent, or a refusal's number
unfoldable pub value_of : Result Verdict Refusal → ℕ × Spent × ℕ
value_of (Ok (Kept spent bytes)) = (1, spent, bytes)
value_of (Ok (Dropped spent)) = (0, spent, 0)
value_of (Err why) = (number_of why, nothing, 0)

-- with the line buffer and the tally afterwards
abbrev pub judging_of : Result Verdict Refusal → List ℕ → Option Tally → Judging
judging_of j lines counting = record { number = (value_of j).0; spent = (value_of j).1; written = (value_of j).2; lines = lines; tally = counting }

-- what an answer in words says
abbrev pub said_of : RecordOutcome → ℕ × Spent × ℕ
said_of (kept spent lines) = (1, spent, length lines)
said_of (dropped spent) = (0, spent, 0)
said_of (refused why) = (number_of why, nothing, 0)

-- what it does to a tally or none
abbrev pub counted : RecordOutcome → Option Tally → Option Tally
counted o None = None
counted o (Some t) = Some (tally_after o t)

-- both, with the line buffer
abbrev pub judgement : RecordOutcome → List ℕ → Option Tally → Judging
judgement o lines counting = record {
  number = (said_of o).0;
  spent = (said_of o).1;
  written = (said_of o).2;
  lines = lines_after o lines;
  tally = counted o counting;
}

-- ---- ours, as its promises settle it

abbrev pub our_judge : Judge
our_judge program bytes lines counting = judgement (judge_of program bytes (length lines) counting) lines counting
