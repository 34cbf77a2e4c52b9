-- The claims are false of the wrong programs that document 01 wants shut out. Assumes nothing.
use Prim.Native.Nat.{ℕ, ◌≤◌}
use native.Mathlib.Omega.{arith}
use mathlib.Core.Path.{◌≡◌, refl, sym, ap, ◌∙◌}
use mathlib.Core.List.{List, [], ◌∷◌, ◌++◌}
use Rattle.std.specs.Prelude.{Option, Some, None}
use lib.ListN.{length, get_or, replicate}
use Rattle.header.specs.Header.{header_size}
use Rattle.octets.specs.Numbers.{number_at, bytes_of}
use Rattle.message.specs.Message.{Message}
use Rattle.message.proofs.RecordOctets.{represents_octets}
use Rattle.line.specs.Text.{separated}
use Rattle.line.specs.Line.{line_of, lines_of}
use Rattle.program.specs.Readings.{has_loop, Reading, test, weight, spent}
use Rattle.program.specs.declared.Spent.{Spent}
use Rattle.program.specs.Layout.{head_fields, fields_of, laid, encode_all}
use Rattle.program.specs.Compiling.{head_of, items_of, records, program_of}
use Rattle.program.proofs.ProgramOctets.{program_octets}
use Rattle.walk.specs.declared.Step.{Step}
use Rattle.walk.specs.Split.{IsRecord, Splits, nothing, place_in}
use Rattle.walk.specs.Steps.{place_after}
use Rattle.walk.proofs.Splits.{splits_append, splits_rest}
use Rattle.truth.specs.Means.{test_holds}
use Rattle.filter.specs.Functions.{Compiler, reported}
use Rattle.judge.specs.declared.Tally.{Tally}
use Rattle.judge.specs.Tallies.{one_dropped}
use Rattle.judge.specs.Answers.{dropped}
use Rattle.judge.specs.Functions.{Judging, Judge}
use Rattle.judge.proofs.Answered.{only_judged}
use Rattle.run.specs.Runs.{Runner}
use Rattle.pairs.specs.RecordR.{record_r, message_r}
use Rattle.pairs.proofs.RecordR.{record_represents}
use Rattle.pairs.proofs.Texts.{TextOnR}
use Rattle.pairs.proofs.KnownPairs.{not_loops}
use Rattle.pairs.proofs.Samples.{loops, bogon, bogon_and_loops_text, bogon_and_loops}
use Rattle.claims.specs.Functions.{Walker, place_by, step_by}
use Rattle.claims.specs.Walk.{Walks}
use Rattle.claims.specs.DemandOne.{DemandOne}
use Rattle.claims.specs.DemandTwo.{DemandTwo}
use Rattle.claims.specs.DemandThree.{DemandThree}
use Rattle.claims.specs.Wrong.{RefusesAll, OneProgram, AlwaysKeeps, WritesNothing, StepsMadeUp, CountsNothing, ReadsAll, NeverMoves}
use Rattle.claims.proofs.SamplesOnR.{buffer, room, room_enough, first_blank, none_seen, few_loops, few_bogon, few_not, few_both, uncounted, number_is, reported_are, on_R, judged_on, loops_drop, zero_represents, zero_drops, zero_steps}

-- ---- compilers

module _ (compiler : Compiler) (judge : Judge) where
  -- one that refuses all
  pub refuses_all : RefusesAll compiler → DemandThree compiler judge → ⊥
  refuses_all wrong d = wrong _ _ (number_is loops few_loops compiler judge d)

  -- one that gives one program for every text: it would be that of `-loops` and that of `-bogon-asn`
  pub one_program : {program : List ℕ} → OneProgram program compiler → DemandThree compiler judge → ⊥
  unfolding encode_all laid head_fields fields_of bytes_of records head_of items_of
  one_program {program} wrong d =
      let e : ◌≡◌ {A = ℕ} 6 7 = ap (λ (l : List ℕ). get_or l 0 0) (sym (only loops few_loops) ∙ only bogon few_bogon) in
      omega arith
    where
      only : {Verdict : Message → Reading → Type 0} {text : List ℕ} {r : Reading} {count : ℕ} → TextOnR Verdict text r count → weight r ≤ 3 → program ≡ program_of r
      only t few = sym (wrong _ _ (number_is t few compiler judge d)) ∙ reported_are t few compiler judge d

-- ---- judges

abbrev tally_of : Judging → Option Tally
tally_of j = j.tally

abbrev seen_of : Option Tally → ℕ
seen_of None = 0
seen_of (Some t) = t.seen

-- beside a compiler that compiles as demand 3 has it
module _ (compiler : Compiler) (other judge : Judge) (runner : Runner) (c : DemandThree compiler other) where
  -- one that always keeps: `-loops` drops R
  pub always_keeps : AlwaysKeeps judge → DemandTwo compiler judge runner → ⊥
  always_keeps wrong d = wrong _ _ _ _ ((on_R loops few_loops compiler judge other runner c d []).drops.1 loops.verdict)

  -- one that writes nothing: `! -loops` keeps R, whose line begins with `+`
  pub writes_nothing : WritesNothing judge → DemandTwo compiler judge runner → ⊥
  unfolding lines_of line_of separated message_r
  writes_nothing wrong d =
      let x = on_R not_loops few_not compiler judge other runner c d room in
      let e : ◌≡◌ {A = ℕ} 0 43 =
      sym (first_blank (length (lines_of message_r)))
      ∙ ap (λ (l : List ℕ). get_or l 0 0) (sym (wrong _ _ _ _) ∙ (x.printed room_enough not_loops.verdict).1) in
      omega arith

module _ (compiler : Compiler) (judge : Judge) where
  -- one that makes its steps up: `-bogon-asn -and -loops` takes two on R, and three on a record that has a bogon
  pub steps_made_up : {count : List ℕ → List ℕ → Option Tally → ℕ} → StepsMadeUp count judge → DemandThree compiler judge → ⊥
  steps_made_up {count} wrong d =
      let steps : ℕ = count (reported (compiler bogon_and_loops_text buffer)) [] None in
      let on_R = judged_on bogon_and_loops few_both compiler judge d record_represents [] in
      let on_zero = judged_on bogon_and_loops few_both compiler judge d zero_represents [] in
      let steps_of : Spent → ℕ = λ s. s.steps in
      let two : steps ≡ 2 = sym (wrong _ _ _ _) ∙ ap steps_of ((on_R.judging_drops uncounted).1 (bogon_and_loops.verdict, bogon_and_loops.counted)).1 in
      let three : steps ≡ 3 = sym (wrong _ _ _ _) ∙ ap steps_of ((on_zero.judging_drops uncounted).1 (zero_drops, zero_steps)).1 in
      omega arith

  -- one that counts nothing: `-loops` drops R, which is one seen
  pub counts_nothing : CountsNothing judge → DemandOne compiler judge → ⊥
  counts_nothing wrong d =
      let x = d.records (program_of (test has_loop)) record_r [] (Some none_seen) (program_octets (test has_loop)) (represents_octets record_represents) in
      let e : x.answer ≡ dropped (spent (test_holds message_r) (test has_loop)) =
      sym (only_judged (program_octets (test has_loop)) (represents_octets record_represents) x.given) ∙ loops_drop in
      let same : Some (one_dropped none_seen) ≡ Some none_seen = sym (rw e at (ap tally_of x.is)) ∙ wrong _ _ _ _ in
      let z : ◌≡◌ {A = ℕ} 1 0 = ap seen_of same in
      omega arith

-- ---- walks

-- a record that is a header alone
abbrev header : List ℕ
header = replicate header_size 0

is_record : IsRecord header header
unfolding number_at
is_record = record { same = refl; headed = omega arith; sized = refl }

two_records : Splits (header ++ (header ++ [])) (header ∷ header ∷ []) []
two_records = splits_append (splits_append (splits_rest nothing) is_record) is_record

-- one that reads all at its first step: of two records it hands out both as one
pub reads_all : (walker : Walker) → ReadsAll walker → Walks walker → ⊥
unfolding place_by place_in
reads_all walker wrong w =
    let e : ◌≡◌ {A = ℕ} 24 12 = ap (λ (s : Step). place_after s 0) (sym (wrong _) ∙ w.in_order two_records 0 (omega arith)) in
    omega arith

-- one that never moves: its second step would be its first
pub never_moves : (walker : Walker) → NeverMoves walker → Walks walker → ⊥
unfolding place_by place_in
never_moves walker wrong w =
    let held : place_by walker (header ++ (header ++ [])) 1 ≡ 0 = wrong _ in
    let same : step_by walker (header ++ (header ++ [])) 1 ≡ step_by walker (header ++ (header ++ [])) 0 = ap (λ (p : ℕ). (walker (header ++ (header ++ [])) p).0) held in
    let e : ◌≡◌ {A = ℕ} 24 12 =
    ap (λ (s : Step). place_after s 0) (sym (w.in_order two_records 1 (omega arith)) ∙ same ∙ w.in_order two_records 0 (omega arith)) in
    omega arith
