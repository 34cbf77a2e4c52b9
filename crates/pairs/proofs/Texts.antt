-- From what is computed for a text to what its words mean on R. Assumes nothing.
use Prim.Native.Nat.{ℕ, ◌*◌, ◌≤◌}
use native.Mathlib.Nat.{le_refl}
use mathlib.Core.Path.{◌≡◌}
use mathlib.Core.Bool.{Bool, true, false}
use mathlib.Core.List.{List}
use Rattle.network.specs.Networks.{agree, covers, relates, cleared}
use Rattle.aspath.specs.Members.{members, holds, some_held}
use Rattle.aspath.specs.Loops as loops
use Rattle.aspath.specs.Bogons.{bogons, is_bogon, some_bogon}
use Rattle.aspath.specs.Patterns.{matches_here, matches_some}
use Rattle.attributes.specs.Attribute.{first_of, ask_path}
use Rattle.message.specs.Message.{Message}
use Rattle.program.specs.Spent.{spending}
use Rattle.program.specs.Readings.{Test, Reading, item_count, weight, verdict, spent}
use Rattle.program.specs.Layout.{record_size}
use Rattle.token.specs.Lexer.{byte_sort, lex}
use Rattle.token.specs.Next.{run, is_blank}
use Rattle.operand.specs.Fronts.{after, optional, cut}
use Rattle.operand.specs.Decimals.{is_digit, number_on, number, numeral}
use Rattle.octets.specs.Equal.{same}
use Rattle.octets.specs.Lists.{some_passes}
use Rattle.names.specs.Tables.{found}
use Rattle.operand.specs.Addresses.{part_read, address_read, network_read, network_operand}
use Rattle.operand.specs.Peers.{peer_operand}
use Rattle.operand.specs.AsNumbers.{as_number, as_numeral}
use Rattle.operand.specs.Parted.{parted_read}
use Rattle.operand.specs.Patterns.{item_read, pattern_operand}
use Rattle.operand.specs.Tests.{meaning}
use Rattle.filter.specs.Words.{vocabulary, role_of}
use Rattle.filter.specs.Reader.{read}
use Rattle.filter.specs.Answers.{bare, DerivedWithin, TextOutcome, compiled, TextAnswers, compiles}
use Rattle.filter.specs.Answering.{start_of, place_of, answer}
use Rattle.filter.proofs.Answered.{answer_given}
use Rattle.filter.proofs.CompiledValid.{reads_possible}
use Rattle.truth.specs.Means.{on_path, some_prefix, test_holds}
use Rattle.truth.specs.Verdict.{Keeps, Drops, Spends}
use Rattle.truth.proofs.Addresses.{represented_addressed, OperandsAddressed, reading_addressed}
use Rattle.truth.proofs.Spending.{spends_exactly}
use Rattle.truth.proofs.Verdicts.{verdict_exactly}
use Rattle.pairs.specs.RecordR.{message_r}
use Rattle.pairs.specs.Pairs.{OnR}
use Rattle.pairs.proofs.RecordR.{record_represents}

-- ---- what is computed: to unfold one of these two is to unfold all that it goes through

-- the answer in a buffer that just holds the program of a reading
unfoldable pub answer_for : List ℕ → Reading → TextOutcome
unfolding
    answer run lex byte_sort bare read vocabulary role_of found same meaning
    pattern_operand parted_read item_read as_numeral as_number peer_operand address_read network_operand network_read part_read
    numeral number number_on is_digit optional after cut is_blank cleared place_of start_of weight item_count
answer_for text r = answer text (record_size * weight r)

-- which tests are true of R
unfoldable pub truth_on_r : Test → Bool
unfolding
    test_holds message_r on_path first_of ask_path members holds some_held matches_here matches_some loops.has_loop loops.returns_in
    some_passes some_bogon is_bogon bogons some_prefix relates covers agree
truth_on_r t = test_holds message_r t

-- a text's answer is a reading, which keeps R or doesn't, in so many steps
abbrev pub Computed : Bool → List ℕ → Reading → ℕ → Type 0
Computed kept text r count = (answer_for text r ≡ compiled r) × (verdict truth_on_r r ≡ kept) × (spent truth_on_r r ≡ spending count)

-- ---- what it means

-- `OnR` with the reading in sight, and with any room that holds the program
pub record TextOnR (Verdict : Message → Reading → Type 0) (text : List ℕ) (r : Reading) (count : ℕ) : Type 0 where
  pub derives : DerivedWithin text r
  pub compiles : (room : ℕ) → record_size * weight r ≤ room → TextAnswers text room (compiled r)
  pub verdict : Verdict message_r r
  pub counted : Spends message_r r (spending count)

pub on_R : {Verdict : Message → Reading → Type 0} {text : List ℕ} {r : Reading} {count : ℕ} → TextOnR Verdict text r count → OnR Verdict text count
on_R {r = r} t =
    record { reading = r; derives = t.derives; compiles = t.compiles (record_size * weight r) (le_refl _); verdict = t.verdict; counted = t.counted }

module _ {text : List ℕ} {r : Reading} {count : ℕ} where
  -- the words' answer is the computed one, and the verdict is told of a reading whose operands are a text's
  told : {Verdict : Message → Reading → Type 0} {kept : Bool} → Computed kept text r count → (OperandsAddressed r → Verdict message_r r) → TextOnR Verdict text r count
  unfolding answer_for truth_on_r
  told {Verdict} (e, k, s) v = by_answer (rw e at (answer_given text (record_size * weight r)))
    where
      by_answer : {room : ℕ} → TextAnswers text room (compiled r) → TextOnR Verdict text r count
      by_answer (compiles f d w l) =
          let h : OperandsAddressed r = reading_addressed r (reads_possible d.derived.reads) in
          record {
            derives = d;
            compiles = λ room l. compiles f d w l;
            verdict = v h;
            counted = (spends_exactly (represented_addressed record_represents) r h).0 s;
          }

  pub keeps : Computed true text r count → TextOnR Keeps text r count
  unfolding truth_on_r
  keeps c = told c (λ h. (verdict_exactly (represented_addressed record_represents) r h).0 c.1)

  pub drops : Computed false text r count → TextOnR Drops text r count
  unfolding truth_on_r
  drops c = told c (λ h. (verdict_exactly (represented_addressed record_represents) r h).0 c.1)
