-- Demand 3 holds of our compiler and our judge. Assumes nothing.
use Prim.Native.Nat.{ℕ, ◌*◌, ◌≤◌}
use native.Mathlib.Omega.{arith}
use mathlib.Core.Path.{◌≡◌, refl, sym, ap, ◌∙◌}
use mathlib.Core.Bool.{Bool, true, false}
use mathlib.Core.List.{List, ◌++◌}
use mathlib.Core.Logic.{◌↔◌}
use Rattle.std.specs.Prelude.{Option, Some}
use lib.ListN.{length, drop}
use lib.Seq.{take_at}
use lib.Dec.{ltb}
use borrow.Author.Tests.{le-ltb, eq-eqb}
use Rattle.octets.specs.Choice.{pick}
use Rattle.octets.proofs.Choices.{never}
use Rattle.message.specs.Message.{Message}
use Rattle.message.specs.Represents.{Represents}
use Rattle.message.proofs.ReadableRecords.{readable_represents, represents_readable}
use Rattle.line.specs.Line.{lines_of}
use Rattle.program.specs.declared.Spent.{Spent}
use Rattle.program.specs.Readings.{Reading, weight, verdict, spent}
use Rattle.program.specs.Records.{weight_limit}
use Rattle.program.specs.Layout.{record_size}
use Rattle.program.specs.Compiling.{records, program_of}
use Rattle.program.proofs.LayoutLaws.{encode_all_length}
use Rattle.program.proofs.MachineLaws.{length_records}
use Rattle.program.proofs.ReadingValid.{records_possible}
use Rattle.truth.specs.Means.{test_holds}
use Rattle.truth.specs.Verdict.{Keeps, Drops, HasVerdict, Spends}
use Rattle.truth.proofs.Addresses.{OperandsAddressed, represented_addressed, reading_addressed}
use Rattle.truth.proofs.Machines.{machine_exactly}
use Rattle.truth.proofs.Spending.{spends_exactly, few_steps}
use Rattle.truth.proofs.Verdicts.{verdict_exactly}
use Rattle.token.proofs.Lexing.{lexes_once}
use Rattle.filter.specs.Answers.{Derived, TextOutcome, compiled, refused, TextAnswers}
use Rattle.filter.specs.Answers as words
use Rattle.filter.specs.Answering.{answer}
use Rattle.filter.specs.Functions.{Compiling, reported, compiling, our_compiler}
use Rattle.filter.proofs.Complete as complete
use Rattle.filter.proofs.CompiledValid.{reads_possible}
use Rattle.filter.proofs.Answered.{answer_given, only_answer}
use Rattle.filter.proofs.Numbers.{number_between}
use Rattle.filter.proofs.RefusedTexts.{first_refused}
use Rattle.judge.specs.declared.Tally.{Tally}
use Rattle.judge.specs.Tallies.{FullTally}
use Rattle.judge.specs.declared.Refusal.TheVariants.{Lines}
use Rattle.judge.specs.Answers.{number_of, kept}
use Rattle.judge.specs.Answers.{refused as judge_refused}
use Rattle.judge.specs.Judging.{judged_by, judge_of}
use Rattle.judge.specs.Functions.{Judging, said_of, judgement, our_judge}
use Rattle.judge.proofs.Readings.{reading_judged}
use Rattle.claims.specs.Functions.{judged_with}
use Rattle.claims.specs.DemandThree.{Compiles, JudgedSo, DemandThreeAt, DemandThree}

-- a text has one reading
one_reading : {text : List ℕ} {r s : Reading} → Derived text r → Derived text s → r ≡ s
one_reading {r = r} {s} d e = by_tokens (lexes_once d.lexed e.lexed)
  where
    by_tokens : d.tokens ≡ e.tokens → r ≡ s
    by_tokens p = complete.one_reading d.reads (rw p e.reads)

-- an answer of 0 is a program
compiled_only : (o : TextOutcome) (buffer : List ℕ) → (compiling o buffer).number ≡ 0 → (r : Reading) × (o ≡ compiled r)
compiled_only (compiled r) buffer e = (r, refl)
compiled_only (refused why p) buffer e = absurd (omega (arith, number_between why))

-- and what the words ask for then
pub compiled_compiles : {text : List ℕ} {room : ℕ} {r : Reading} → TextAnswers text room (compiled r) → Compiles text room
compiled_compiles (words.compiles {r} f d w l) = record { fine = f; reading = r; derives = d; light = w; fits = l }

-- the reading is the text's
compiled_reading : {text : List ℕ} {room : ℕ} {r s : Reading} → TextAnswers text room (compiled r) → Derived text s → (r ≡ s) × (weight r ≤ weight_limit)
compiled_reading (words.compiles f d w l) e = (one_reading d.derived e, w)

-- a program's bytes
program_length : (r : Reading) → length (program_of r) ≡ record_size * weight r
program_length r = encode_all_length (records r) ∙ ap (λ (n : ℕ). record_size * n) (length_records r)

-- the bytes that compiling reports, where its buffer begins with them
pub reported_front : (c : Compiling) (program rest : List ℕ) → c.value ≡ length program → c.buffer ≡ program ++ rest → reported c ≡ program
reported_front c program rest v b = rw (v, b) (take_at program rest (length program) refl)

module _ (text buffer : List ℕ) where
  -- 0 exactly when the words ask for it
  exactly : ((our_compiler text buffer).number ≡ 0) ↔ Compiles text (length buffer)
  exactly = (forth, back)
    where
      forth : (our_compiler text buffer).number ≡ 0 → Compiles text (length buffer)
      forth e =
          let x = compiled_only (answer text (length buffer)) buffer e in
          compiled_compiles (rw x.1 at (answer_given text (length buffer)))

      back : Compiles text (length buffer) → (our_compiler text buffer).number ≡ 0
      back c = ap (λ (o : TextOutcome). (compiling o buffer).number) (only_answer text (length buffer) (words.compiles c.fine c.derives c.light c.fits))

  -- the answer is the text's reading
  reading_is : {r : Reading} → (our_compiler text buffer).number ≡ 0 → Derived text r → (answer text (length buffer) ≡ compiled r) × (weight r ≤ weight_limit)
  reading_is {r} e d =
      let x = compiled_only (answer text (length buffer)) buffer e in
      let y = compiled_reading (rw x.1 at (answer_given text (length buffer))) d in
      (x.1 ∙ ap compiled y.0, rw y.0 at y.1)

  -- the very records
  gives : {r : Reading} → (our_compiler text buffer).number ≡ 0 → Derived text r
      → ((our_compiler text buffer).value ≡ length (program_of r)) × ((our_compiler text buffer).buffer ≡ program_of r ++ drop (length (program_of r)) buffer)
  gives {r} e d = rw (reading_is e d).0 (sym (program_length r), refl)

  -- so the reported bytes are the reading's program
  reported_is : {r : Reading} → (our_compiler text buffer).number ≡ 0 → Derived text r → reported (our_compiler text buffer) ≡ program_of r
  reported_is {r} e d =
      let x = gives e d in
      reported_front (our_compiler text buffer) (program_of r) _ x.0 x.1

  -- judging with them gives the verdict of the reading
  pub judges : {r : Reading} → (our_compiler text buffer).number ≡ 0 → Derived text r → {m : Message} {bytes : List ℕ} → Represents m bytes
      → {counting : Option Tally} → (FullTally counting → ⊥) → (room : ℕ) {b : Bool} → verdict (test_holds m) r ≡ b
      → judge_of (reported (our_compiler text buffer)) bytes room counting ≡ judged_by room m (b, spent (test_holds m) r)
  judges {r} e d x f room h = rw (reported_is e d) (reading_judged r (reads_possible d.reads) (reading_is e d).1 x f room h)

  -- where the text compiles, the record is judged
  judged_with_lem : (bytes lines : List ℕ) (counting : Option Tally) → (our_compiler text buffer).number ≡ 0
      → judged_with our_judge (our_compiler text buffer) bytes lines counting ≡ Some (our_judge (reported (our_compiler text buffer)) bytes lines counting)
  judged_with_lem bytes lines counting e = rw (eq-eqb _ _ e)

-- ---- the verdict and what is spent of judging, by the verdict that is computed

-- what is kept or has no room isn't dropped
pub not_dropped : (b : Bool) (n : Spent) (lines : List ℕ) → (said_of (pick b (judge_refused Lines) (kept n lines))).0 ≡ 0 → ⊥
unfolding number_of
not_dropped true n lines e = omega arith
not_dropped false n lines e = omega arith

module _ {r : Reading} {m : Message} (lines : List ℕ) (counting : Option Tally) (count : Spent) (counted : (n : Spent) → (count ≡ n) ↔ Spends m r n)
    (told : (b : Bool) → (verdict (test_holds m) r ≡ b) ↔ HasVerdict m r b) where
  abbrev answer_by : Bool → Judging
  answer_by b = judgement (judged_by (length lines) m (b, count)) lines counting

  -- kept, where there is room
  keeps_by : (b : Bool) → verdict (test_holds m) r ≡ b → length (lines_of m) ≤ length lines → {n : Spent}
      → (((answer_by b).number ≡ 1) × ((answer_by b).spent ≡ n)) ↔ (Keeps m r × Spends m r n)
  keeps_by true e h {n} = rw (le-ltb (length lines) (length (lines_of m)) h) (λ x. ((told true).0 e, (counted n).0 x.1), λ y. (refl, (counted n).1 y.1))
  keeps_by false e h = (λ x. absurd (omega (arith, x.0)), λ y. absurd (never (sym e ∙ (told true).1 y.0)))

  -- dropped
  drops_by : (b : Bool) → verdict (test_holds m) r ≡ b → {n : Spent} → (((answer_by b).number ≡ 0) × ((answer_by b).spent ≡ n)) ↔ (Drops m r × Spends m r n)
  drops_by true e =
      (λ x. absurd (not_dropped (ltb (length lines) (length (lines_of m))) count (lines_of m) x.0), λ y. absurd (never (sym ((told false).1 y.0) ∙ e)))
  drops_by false e {n} = (λ x. ((told false).0 e, (counted n).0 x.1), λ y. (refl, (counted n).1 y.1))

-- what is claimed of judging a record
module _ (text buffer bytes lines : List ℕ) (counting : Option Tally) {r : Reading} (e : (our_compiler text buffer).number ≡ 0) (d : Derived text r)
    {m : Message} (x : Represents m bytes) where
  operands : OperandsAddressed r
  operands = reading_addressed r (reads_possible d.reads)

  judged_so : JudgedSo r m lines counting (our_compiler text buffer) (our_judge (reported (our_compiler text buffer)) bytes lines counting)
  judged_so =
      let v : (b : Bool) → (verdict (test_holds m) r ≡ b) ↔ HasVerdict m r b = λ b. verdict_exactly (represented_addressed x) r operands in
      let s : (n : Spent) → (spent (test_holds m) r ≡ n) ↔ Spends m r n = λ n. spends_exactly (represented_addressed x) r operands in
      record {
        machine_gives = rw (reported_is text buffer e d)
            (machine_exactly (represented_addressed x) operands (records_possible r (reads_possible d.reads) (reading_is text buffer e d).1));
        judging_keeps = λ f l. rw (judges text buffer e d x f (length lines) refl) (keeps_by lines counting (spent (test_holds m) r) s v (verdict (test_holds m) r) refl l);
        judging_drops = λ f. rw (judges text buffer e d x f (length lines) refl) (drops_by lines counting (spent (test_holds m) r) s v (verdict (test_holds m) r) refl);
        few = few_steps;
      }

-- demand 3
at : (text buffer bytes lines : List ℕ) (counting : Option Tally)
    → DemandThreeAt text buffer bytes lines counting (our_compiler text buffer) (judged_with our_judge (our_compiler text buffer) bytes lines counting)
at text buffer bytes lines counting = record {
  compiles = exactly text buffer;
  one_reading = one_reading;
  records = gives text buffer;
  judged = λ e d x. (
    our_judge (reported (our_compiler text buffer)) bytes lines counting,
    judged_with_lem text buffer bytes lines counting e,
    judged_so text buffer bytes lines counting e d x,
  );
  refused = λ f l n. first_refused buffer (answer_given text (length buffer)) f l n;
}

pub demand_three : DemandThree our_compiler our_judge
demand_three = record { anywhere = at; readable = λ o. (readable_represents o, λ x. represents_readable x.1) }
