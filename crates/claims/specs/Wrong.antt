-- The wrong programs that document 01 wants shut out, each as what makes a compiler, a judge or a walker such a one, whatever it does otherwise.
use Rattle.std.specs.Prelude.{ℕ, ◌≡◌, List, length, Option}
use Rattle.walk.specs.declared.Step.TheVariants.{Record}
use Rattle.judge.specs.declared.Tally.{Tally}
use Rattle.judge.specs.Functions.{Judge}
use Rattle.filter.specs.Functions.{Compiler, reported}
use Rattle.claims.specs.Functions.{Walker}

-- a compiler that refuses all
abbrev pub RefusesAll : Compiler → Type 0
RefusesAll compiler = (text buffer : List ℕ) → (compiler text buffer).number ≡ 0 → ⊥

-- one that gives one program for every text that it compiles
abbrev pub OneProgram : List ℕ → Compiler → Type 0
OneProgram program compiler = (text buffer : List ℕ) → (compiler text buffer).number ≡ 0 → reported (compiler text buffer) ≡ program

-- a judge that always keeps: it drops no record, whichever it may refuse
abbrev pub AlwaysKeeps : Judge → Type 0
AlwaysKeeps judge = (program bytes lines : List ℕ) (counting : Option Tally) → (judge program bytes lines counting).number ≡ 0 → ⊥

-- one whose writer writes nothing
abbrev pub WritesNothing : Judge → Type 0
WritesNothing judge = (program bytes lines : List ℕ) (counting : Option Tally) → (judge program bytes lines counting).lines ≡ lines

-- one whose step count is made up: any function of the program, the line buffer and the tally, whatever the record
abbrev pub StepsMadeUp : (List ℕ → List ℕ → Option Tally → ℕ) → Judge → Type 0
StepsMadeUp count judge = (program bytes lines : List ℕ) (counting : Option Tally)
    → (judge program bytes lines counting).spent.steps ≡ count program lines counting

-- one that counts nothing
abbrev pub CountsNothing : Judge → Type 0
CountsNothing judge = (program bytes lines : List ℕ) (counting : Option Tally) → (judge program bytes lines counting).tally ≡ counting

-- a walk that reads all at its first step, whatever it does then
abbrev pub ReadsAll : Walker → Type 0
ReadsAll walker = (bytes : List ℕ) → (walker bytes 0).0 ≡ Record 0 (length bytes)

-- one that doesn't move from its first place
abbrev pub NeverMoves : Walker → Type 0
NeverMoves walker = (bytes : List ℕ) → (walker bytes 0).1 ≡ 0
