-- Laws of answers: that they stand for their outcomes. Assumes nothing.
use Prim.Native.Nat.{ℕ}
use mathlib.Core.Path.{◌≡◌, refl, sym, ◌∙◌}
use mathlib.Core.Bool.{true, false}
use mathlib.Core.List.{List}
use Rattle.std.specs.Prelude.{Result, Ok, Err}
use lib.ListN.{length}
use borrow.Author.Tests.{le-ltb, lt-ltb}
use Rattle.message.specs.declared.Parts.{Parts}
use Rattle.message.specs.declared.Refusal.{Refusal as RecordRefusal}
use Rattle.message.specs.Decode.{message_at, decode_of, decoding_of, our_decoding}
use Rattle.message.proofs.Numbered.{decoding_one}
use Rattle.line.specs.declared.Short.{Short}
use Rattle.line.specs.Line.{lines_of}
use Rattle.line.specs.Answer.{writing_of, writing}
use Rattle.line.proofs.Told.{short_told, bytes_told}
use Rattle.program.specs.declared.Spent.{Spent}
use Rattle.program.specs.Machine.{machine}
use Rattle.truth.specs.Records.{record_truth}
use Rattle.judge.specs.declared.Refusal.TheVariants.{Record, Lines}
use Rattle.judge.specs.declared.Refusal.{Refusal}
use Rattle.judge.specs.declared.Verdict.{Verdict}
use Rattle.judge.specs.declared.Verdict.TheVariants.{Kept, Dropped}
use Rattle.judge.specs.Answers.{lines_after}
use Rattle.judge.specs.Judging.{decoded}
use Rattle.judge.specs.Functions.{value_of}
use Rattle.judge.specs.Executing.{tally_of, JudgedAs}

-- an answer and the lines afterwards are those of the outcome
abbrev Comes : List ℕ → List ℕ → List ℕ → Result Verdict Refusal → List ℕ → Type 0
Comes program bytes old j new =
    let o = decoded program bytes (length old) (decode_of bytes) in
    JudgedAs j o × (new ≡ lines_after o old)

module _ (program bytes old : List ℕ) (d : Result Parts RecordRefusal) (decoding : decoding_of d ≡ our_decoding bytes) where
  -- the outcome goes by what the decoder said
  goes_by : {x : Result Parts RecordRefusal} → d ≡ x → decode_of bytes ≡ x
  goes_by e = sym (decoding_one d (decode_of bytes) decoding) ∙ e

  -- a record that isn't read
  pub comes_unread : (why : RecordRefusal) → d ≡ Err why → Comes program bytes old (Err (Record why)) old
  unfolding value_of tally_of
  comes_unread why e = rw (goes_by e) (record { said = refl; counts = λ t. refl }, refl)

  module _ (parts : Parts) (read : d ≡ Ok parts) (spent : Spent) where
    -- a record that is dropped
    pub comes_dropped : (false, spent) ≡ machine (record_truth (message_at bytes parts)) program → Comes program bytes old (Ok (Dropped spent)) old
    unfolding value_of tally_of
    comes_dropped e = rw (goes_by read, ← e) (record { said = refl; counts = λ t. refl }, refl)

    module _ (ran : (true, spent) ≡ machine (record_truth (message_at bytes parts)) program) (new : List ℕ) where
      -- one that is kept without room for its lines
      pub comes_short : {short : Short} → writing_of (Err short) new ≡ writing (lines_of (message_at bytes parts)) old → Comes program bytes old (Err Lines) new
      unfolding value_of tally_of
      comes_short e =
          let x = short_told (lines_of (message_at bytes parts)) old e in
          rw (goes_by read, ← ran, lt-ltb _ _ x.0) (record { said = refl; counts = λ t. refl }, x.1)

      -- one that is kept, with its lines
      pub comes_kept : (size : ℕ) → writing_of (Ok size) new ≡ writing (lines_of (message_at bytes parts)) old → Comes program bytes old (Ok (Kept spent size)) new
      unfolding value_of tally_of
      comes_kept size e =
          let x = bytes_told (lines_of (message_at bytes parts)) old e in
          rw (goes_by read, ← ran, le-ltb _ _ x.0, x.1) (record { said = refl; counts = λ t. refl }, x.2)
