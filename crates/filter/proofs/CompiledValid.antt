-- What compiles is a valid program: every test of a derived reading is possible. Assumes nothing.
use Prim.Native.Nat.{ℕ}
use mathlib.Core.List.{List}
use Rattle.octets.specs.Lists.{Every, every_none, every_more}
use Rattle.program.specs.Readings.{Reading}
use Rattle.program.specs.Compiling.{program_of}
use Rattle.program.specs.Validity.{Valid}
use Rattle.program.proofs.ReadingValid.{PossibleTest, PossibleReading, reading_valid}
use Rattle.token.specs.Tokens.{Token}
use Rattle.operand.proofs.MeaningsPossible.{means_possible}
use Rattle.filter.specs.Words.{Role, joins, flag, name, vocabulary}
use Rattle.filter.specs.Grammar.{Part, Reads, flagged, tested, negated, grouped, single, anded, lone, ored}
use Rattle.filter.specs.Answers.{TextAnswers, compiles, compiled}
use Rattle.names.specs.Tables.{Row}
use Rattle.names.proofs.Finding.{in_each}

-- a role whose test, if it is one, is possible
abbrev RolePossible : Role → Type 0
RolePossible (joins o) = Unit {0}
RolePossible (flag x) = PossibleTest x
RolePossible (name k) = Unit {0}

-- so is every word's
vocabulary_possible : Every (λ (e : Row Role). RolePossible e.value) vocabulary
unfolding vocabulary
vocabulary_possible =
    every_more tt (every_more tt (every_more tt (every_more tt (every_more tt (every_more tt (every_more tt (every_more tt
    (every_more tt (every_more tt (every_more tt (every_more tt (every_more tt (every_more tt every_none)))))))))))))

-- every test of a derived reading is possible
pub reads_possible : {p : Part} {ts : List Token} {r : Reading} → Reads p ts r → PossibleReading r
reads_possible (flagged s) = in_each (λ (w : List ℕ) (r : Role). RolePossible r) vocabulary_possible s
reads_possible (tested s o m) = means_possible m
reads_possible (negated f) = reads_possible f
reads_possible (grouped e) = reads_possible e
reads_possible (single f) = reads_possible f
reads_possible (anded w c s f) = (reads_possible c, reads_possible f)
reads_possible (lone c) = reads_possible c
reads_possible (ored w e s c) = (reads_possible e, reads_possible c)

-- the program of a text that compiles is valid
pub compiled_valid : {text : List ℕ} {room : ℕ} {r : Reading} → TextAnswers text room (compiled r) → Valid (program_of r)
compiled_valid {r = r} (compiles f d w l) = reading_valid r (reads_possible d.derived.reads) w
