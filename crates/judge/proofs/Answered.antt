-- Judging answers as the words say, and in one way only. Assumes nothing.
use Prim.Native.Nat.{ℕ}
use mathlib.Core.Path.{◌≡◌, refl, sym, ap, ◌∙◌}
use mathlib.Core.Bool.{Bool, true, false}
use Rattle.std.specs.Prelude.{Option, Result, Ok, Err}
use mathlib.Core.List.{List}
use lib.ListN.{length}
use lib.Dec.{ltb}
use borrow.Author.Tests.{ltb-true, ltb-false, lt-ltb, le-ltb}
use Rattle.octets.specs.Choice.{pick}
use Rattle.octets.specs.Numbers.{Octets}
use Rattle.message.specs.Message.{Message}
use Rattle.message.specs.declared.Refusal.{Refusal}
use Rattle.message.specs.declared.Parts.{Parts}
use Rattle.message.specs.Represents.{Represents}
use Rattle.message.specs.Refusals.{RefusedWith}
use Rattle.message.specs.Decode.{message_at, decode_of}
use Rattle.message.proofs.Deciding.{Decides, decides_false, decides_not}
use Rattle.message.proofs.RecordReads.{represents_read, read_represents}
use Rattle.message.proofs.Refused.{refused_sound, refused_complete}
use Rattle.line.specs.Line.{lines_of}
use Rattle.program.specs.Machine.{machine}
use Rattle.program.specs.declared.Spent.{Spent}
use Rattle.program.specs.Validity.{Valid}
use Rattle.program.specs.Checks.{is_valid}
use Rattle.program.proofs.Valid.{valid_sound, valid_complete}
use Rattle.truth.specs.Records.{record_truth}
use Rattle.judge.specs.declared.Tally.{Tally}
use Rattle.judge.specs.declared.Refusal.TheVariants.{Program, Count, Record, Lines}
use Rattle.judge.specs.Tallies.{FullTally, is_full_tally}
use Rattle.judge.specs.Answers.{RecordOutcome, kept, refused, RecordAnswers, not_valid, full, unread, drops, short, keeps}
use Rattle.judge.specs.Judging.{judged_by, decoded, judge_of}
use Rattle.judge.proofs.Tallies.{tally_sound, tally_complete}

-- the code's test of a program decides the words
valid_decides : {program : List ℕ} → Octets program → Decides (is_valid program) (Valid program)
valid_decides {program} o = record { sound = valid_sound program o; complete = valid_complete }

-- and so does its test of a tally or none
full_decides : (counting : Option Tally) → Decides (is_full_tally counting) (FullTally counting)
full_decides counting = record { sound = tally_sound counting; complete = tally_complete }

module _ {program bytes : List ℕ} {room : ℕ} {counting : Option Tally} where
  -- ---- what is answered is an answer

  module _ (v : Valid program) (n : FullTally counting → ⊥) where
    -- of a record that represents a message: the verdict, or 19
    judged_given : {m : Message} → Represents m bytes → (x : Bool × Spent) → machine (record_truth m) program ≡ x
        → RecordAnswers program bytes room counting (judged_by room m x)
    judged_given r (false, spent) e = drops v n r e
    judged_given {m} r (true, spent) e = by_room (ltb room (length (lines_of m))) refl
      where
        by_room : (b : Bool) → ltb room (length (lines_of m)) ≡ b
            → RecordAnswers program bytes room counting (pick b (refused Lines) (kept spent (lines_of m)))
        by_room true h = short v n r e (ltb-true _ _ h)
        by_room false h = keeps v n r e (ltb-false _ _ h)

    -- of any record: 11 to 18 too
    decoded_given : Octets bytes → (d : Result Parts Refusal) → decode_of bytes ≡ d → RecordAnswers program bytes room counting (decoded program bytes room d)
    decoded_given o (Ok p) e = judged_given (read_represents o e) (machine (record_truth (message_at bytes p)) program) refl
    decoded_given o (Err why) e = unread v n (refused_sound o e)

  -- with a valid program: 21 too
  counting_given : Octets bytes → Valid program → (b : Bool) → is_full_tally counting ≡ b
      → RecordAnswers program bytes room counting (pick b (refused Count) (decoded program bytes room (decode_of bytes)))
  counting_given o v true e = full v (tally_sound counting e)
  counting_given o v false e = decoded_given v (decides_false (full_decides counting) e) o (decode_of bytes) refl

  -- with any program: 20 too
  pub judge_given : Octets program → Octets bytes → RecordAnswers program bytes room counting (judge_of program bytes room counting)
  unfolding judge_of
  judge_given p o = by_program (is_valid program) refl
    where
      by_program : (b : Bool) → is_valid program ≡ b
          → RecordAnswers program bytes room counting
          (pick b (pick (is_full_tally counting) (refused Count) (decoded program bytes room (decode_of bytes))) (refused Program))
      by_program true e = counting_given o (valid_sound program p e) (is_full_tally counting) refl
      by_program false e = not_valid (decides_false (valid_decides p) e)

-- ---- and the only one

-- with a valid program, a full tally is 21
full_judged : {program : List ℕ} {counting : Option Tally} → Valid program → FullTally counting → (bytes : List ℕ) (room : ℕ)
    → judge_of program bytes room counting ≡ refused Count
unfolding judge_of
full_judged v f bytes room = rw (valid_complete v, tally_complete f)

module _ {program : List ℕ} {counting : Option Tally} (v : Valid program) (n : FullTally counting → ⊥) where
  -- with no full tally, the record is read
  record_judged : (bytes : List ℕ) (room : ℕ) → judge_of program bytes room counting ≡ decoded program bytes room (decode_of bytes)
  unfolding judge_of
  record_judged bytes room = rw (valid_complete v, decides_not (full_decides counting) n)

  -- its refusal goes out
  pub refused_judged : {bytes : List ℕ} {why : Refusal} → Octets bytes → RefusedWith bytes why → (room : ℕ)
      → judge_of program bytes room counting ≡ refused (Record why)
  refused_judged {bytes} b x room = record_judged bytes room ∙ ap (decoded program bytes room) (refused_complete b x)

  -- and a message that it represents is judged by what the machine finds
  pub message_judged : {m : Message} {bytes : List ℕ} → Represents m bytes → (room : ℕ)
      → judge_of program bytes room counting ≡ judged_by room m (machine (record_truth m) program)
  message_judged {bytes = bytes} r room =
      let x = represents_read r in
      record_judged bytes room
      ∙ ap (decoded program bytes room) x.0
      ∙ ap (λ (m : Message). judged_by room m (machine (record_truth m) program)) x.1

module _ {program bytes : List ℕ} {room : ℕ} {counting : Option Tally} (p : Octets program) (b : Octets bytes) where
  -- judging gives no other answer
  pub only_judged : {o : RecordOutcome} → RecordAnswers program bytes room counting o → judge_of program bytes room counting ≡ o
  unfolding judge_of
  only_judged (not_valid n) = rw (decides_not (valid_decides p) n)
  only_judged (full v f) = full_judged v f bytes room
  only_judged (unread v n x) = refused_judged v n b x room
  only_judged (drops {m} v n r e) = message_judged v n r room ∙ ap (judged_by room m) e
  only_judged (short {m} v n r e h) = message_judged v n r room ∙ ap (judged_by room m) e ∙ rw (lt-ltb _ _ h)
  only_judged (keeps {m} v n r e h) = message_judged v n r room ∙ ap (judged_by room m) e ∙ rw (le-ltb _ _ h)

  -- so there is one answer at most
  pub answers_one : {o o' : RecordOutcome} → RecordAnswers program bytes room counting o → RecordAnswers program bytes room counting o' → o ≡ o'
  answers_one x y = sym (only_judged x) ∙ only_judged y
