-- Samples for the theorems of ShutOut: texts on R, and one on a record of another path. Assumes nothing.
use Prim.Native.Nat.{ℕ, zero, suc, ◌*◌, ◌≤◌}
use native.Mathlib.Omega.{arith}
use mathlib.Core.Path.{◌≡◌, refl, ap}
use mathlib.Core.Bool.{false}
use mathlib.Core.List.{List, [], ◌∷◌, ◌++◌}
use Rattle.std.specs.Prelude.{Some, None}
use lib.ListN.{length, get_or, drop, replicate, length-replicate}
use borrow.Author.Tests.{eq-eqb}
use Rattle.octets.specs.Lists.{some_here}
use Rattle.octets.proofs.Choices.{never}
use Rattle.octets.proofs.Some.{at_within}
use Rattle.aspath.specs.declared.Width.TheVariants.{Four}
use Rattle.aspath.specs.Members.{Member, itself}
use Rattle.aspath.specs.Bogons.{range, bogons}
use Rattle.message.specs.Message.{Message}
use Rattle.message.specs.Represents.{Represents}
use Rattle.line.specs.Line.{lines_of}
use Rattle.program.specs.Spent.{spending}
use Rattle.program.specs.Readings.{has_loop, has_bogon, and, Reading, test, neg, joint, item_count, weight, spent}
use Rattle.program.specs.Layout.{record_size}
use Rattle.program.specs.Compiling.{program_of}
use Rattle.truth.specs.Means.{Means, loop, bogon, test_holds}
use Rattle.truth.specs.Verdict.{Drops, is_true, is_false, right_drops, and_kept, Spends, of_test, of_both}
use Rattle.truth.proofs.Addresses.{represented_addressed, reading_addressed}
use Rattle.truth.proofs.Meanings.{path_one}
use Rattle.truth.proofs.Verdicts.{verdict_exactly}
use Rattle.filter.specs.Functions.{Compiler, reported}
use Rattle.filter.proofs.CompiledValid.{reads_possible}
use Rattle.judge.specs.declared.Tally.{Tally}
use Rattle.judge.specs.Tallies.{FullTally, is_full, tally}
use Rattle.judge.specs.Answers.{dropped}
use Rattle.judge.specs.Judging.{judge_of}
use Rattle.judge.specs.Functions.{Judge}
use Rattle.judge.proofs.Readings.{reading_judged}
use Rattle.judge.proofs.Tallies.{tally_complete}
use Rattle.run.specs.Runs.{Runner}
use Rattle.pairs.specs.RecordR.{record_r, message_r}
use Rattle.pairs.proofs.RecordR.{record_represents}
use Rattle.pairs.proofs.Texts.{TextOnR}
use Rattle.pairs.proofs.Samples.{loops}
use Rattle.claims.specs.DemandTwo.{OnMessage, Whole, DemandTwo}
use Rattle.claims.specs.DemandThree.{Compiles, JudgedSo, DemandThree}
use Rattle.claims.proofs.DemandThree.{compiled_compiles, reported_front}
use Rattle.claims.proofs.WholeNumbers.{whole}

-- a buffer for three records
abbrev pub buffer : List ℕ
buffer = replicate (record_size * 3) 0

-- no text has more
pub few_loops : weight (test has_loop) ≤ 3
unfolding weight item_count
few_loops = omega arith

pub few_bogon : weight (test has_bogon) ≤ 3
unfolding weight item_count
few_bogon = omega arith

pub few_not : weight (neg (test has_loop)) ≤ 3
unfolding weight item_count
few_not = omega arith

pub few_both : weight (joint and (test has_bogon) (test has_loop)) ≤ 3
unfolding weight item_count
few_both = omega arith

-- just the room for R's lines
abbrev pub room : List ℕ
room = replicate (length (lines_of message_r)) 0

pub room_enough : length (lines_of message_r) ≤ length room
room_enough = omega (arith, length-replicate {A = ℕ} (length (lines_of message_r)) 0)

-- which holds zeros
pub first_blank : (n : ℕ) → ◌≡◌ {A = ℕ} (get_or (replicate n 0) 0 0) 0
first_blank zero = refl
first_blank (suc n) = refl

-- no tally is not full
pub uncounted : FullTally None → ⊥
uncounted f = never (tally_complete f)

-- a tally that isn't full
abbrev pub none_seen : Tally
none_seen = tally 0 0 0 0

pub room_to_count : FullTally (Some none_seen) → ⊥
unfolding is_full
room_to_count f = never (tally_complete f)

module _ {Verdict : Message → Reading → Type 0} {text : List ℕ} {r : Reading} {count : ℕ} (t : TextOnR Verdict text r count) (few : weight r ≤ 3) where
  -- a sample compiles
  compiles : Compiles text (length buffer)
  compiles = compiled_compiles (t.compiles (length buffer) (omega arith))

  -- so a compiler for which demand 3 holds compiles it
  pub number_is : (compiler : Compiler) (judge : Judge) → DemandThree compiler judge → (compiler text buffer).number ≡ 0
  number_is compiler judge d = (d.anywhere text buffer [] [] None).compiles.1 compiles

  -- into the program of its reading
  records_are : (compiler : Compiler) (judge : Judge) → DemandThree compiler judge
      → ((compiler text buffer).value ≡ length (program_of r)) × ((compiler text buffer).buffer ≡ program_of r ++ drop (length (program_of r)) buffer)
  records_are compiler judge d = (d.anywhere text buffer [] [] None).records (number_is compiler judge d) t.derives.derived

  -- and reports that program's bytes
  pub reported_are : (compiler : Compiler) (judge : Judge) → DemandThree compiler judge → reported (compiler text buffer) ≡ program_of r
  reported_are compiler judge d =
      let x = records_are compiler judge d in
      reported_front (compiler text buffer) (program_of r) _ x.0 x.1

  module _ (compiler : Compiler) (judge : Judge) where
    -- what is claimed of judging R with it, where another judge shows that the compiler compiles as demand 3 has it
    pub on_R : (other : Judge) (runner : Runner) → DemandThree compiler other → DemandTwo compiler judge runner → (lines : List ℕ)
        → OnMessage r message_r lines (judge (reported (compiler text buffer)) record_r lines None)
    on_R other runner c d lines = d.on_message {buffer = buffer} (number_is compiler other c) t.derives.derived record_represents lines None uncounted

    -- and of its verdict and what it spends on any message
    pub judged_on : DemandThree compiler judge → {m : Message} {bytes : List ℕ} → Represents m bytes → (lines : List ℕ)
        → JudgedSo r m lines None (compiler text buffer) (judge (reported (compiler text buffer)) bytes lines None)
    judged_on d {bytes = bytes} x lines =
        let e : (compiler text buffer).number ≡ 0 = number_is compiler judge d in
        let y = (d.anywhere text buffer bytes lines None).judged e t.derives.derived x in
        let same : judge (reported (compiler text buffer)) bytes lines None ≡ y.0 = cc (rw (eq-eqb _ _ e) at y.1) in
        rw same y.2

-- judging R with `-loops` drops it
pub loops_drop : judge_of (program_of (test has_loop)) record_r 0 (Some none_seen) ≡ dropped (spent (test_holds message_r) (test has_loop))
loops_drop =
    let p = reads_possible loops.derives.derived.reads in
    reading_judged (test has_loop) p (omega (arith, few_loops)) record_represents room_to_count 0 {b = false}
    ((verdict_exactly (represented_addressed record_represents) (test has_loop) (reading_addressed (test has_loop) p)).1 loops.verdict)

-- ---- a record whose path is AS 0 alone

abbrev zero_sent : Whole Four 0
zero_sent = whole Four 0 (omega arith)

abbrev pub zero_message : Message
zero_message = zero_sent.message

abbrev pub zero_record : List ℕ
zero_record = zero_sent.record_bytes

pub zero_represents : Represents zero_message zero_record
zero_represents = zero_sent.represents

-- 0 is a bogon, and one member is no loop: `-bogon-asn -and -loops` looks at both and drops it
has_bogon_lem : Means zero_message has_bogon
unfolding bogons
has_bogon_lem = bogon zero_sent.path (record {
  some = some_here (record { n = 0; holds = itself; is = record { listed = some_here {a = range 0 0} (record { above = omega arith; below = omega arith }) } });
})

no_loop : Means zero_message has_loop → ⊥
no_loop (loop {members} h l) = by_path (path_one h zero_sent.path)
  where
    by_path : {m : Member} → members ≡ m ∷ [] → ⊥
    by_path e = omega (arith, ap length e, l.before, l.after, at_within l.returns)

pub zero_drops : Drops zero_message (joint and (test has_bogon) (test has_loop))
zero_drops = right_drops (is_false no_loop)

pub zero_steps : Spends zero_message (joint and (test has_bogon) (test has_loop)) (spending 3)
zero_steps = of_both of_test (and_kept (is_true has_bogon_lem)) of_test
