-- The numbers of the answers, and what each does to a tally. Assumes nothing.
use Prim.Native.Nat.{ℕ, ◌+◌, ◌≤◌}
use native.Mathlib.Omega.{arith}
use mathlib.Core.Path.{◌≡◌, refl, sym, ap, ◌∙◌}
use Rattle.std.specs.Prelude.{Option, Some}
use mathlib.Core.List.{List}
use lib.Dec.{eqb}
use Rattle.octets.specs.Choice.{pick}
use Rattle.message.specs.declared.Refusal.{Refusal as RecordRefusal}
use Rattle.message.specs.declared.Refusal.TheVariants.{Size, MrtType, Peer, Frame, Sections, Attributes, Body, Prefix}
use Rattle.message.specs.Refusals.{rows}
use Rattle.message.proofs.Numbered.{refusal_of as record_refusal_of}
use Rattle.line.specs.Answer.{line_room, short_number}
use Rattle.line.proofs.Room.{room_suffices}
use Rattle.judge.specs.declared.Tally.{Tally}
use Rattle.judge.specs.declared.Refusal.{Refusal}
use Rattle.judge.specs.declared.Refusal.TheVariants.{Program, Count, Record, Lines}
use Rattle.judge.specs.Tallies.{full_count, Full, seen as full_seen, kept as full_kept, dropped as full_dropped, refused as full_refused, full as full_tally}
use Rattle.judge.specs.Answers.{number_of, RecordOutcome, kept, dropped, refused, RecordAnswers, not_valid, full, unread, drops, short, keeps, tally_after}

-- ---- the numbers

-- the numbers of a record's refusals are 11 to 18
pub record_number : (why : RecordRefusal) → (11 ≤ number_of (Record why)) × (number_of (Record why) ≤ 18)
unfolding number_of
record_number Size = omega arith
record_number MrtType = omega arith
record_number Peer = omega arith
record_number Frame = omega arith
record_number Sections = omega arith
record_number Attributes = omega arith
record_number Body = omega arith
record_number Prefix = omega arith

-- all are 11 to 21
pub number_between : (why : Refusal) → (11 ≤ number_of why) × (number_of why ≤ 21)
unfolding number_of
number_between Program = omega arith
number_between Count = omega arith
number_between (Record why) = omega (arith, record_number why)
number_between Lines = omega arith

-- the refusal that has a number
abbrev refusal_of : ℕ → Refusal
refusal_of n = pick (eqb n 20) Program (pick (eqb n 21) Count (pick (eqb n short_number) Lines (Record (record_refusal_of n))))

refusal_back : (why : Refusal) → refusal_of (number_of why) ≡ why
unfolding number_of rows
refusal_back Program = refl
refusal_back Count = refl
refusal_back (Record Size) = refl
refusal_back (Record MrtType) = refl
refusal_back (Record Peer) = refl
refusal_back (Record Frame) = refl
refusal_back (Record Sections) = refl
refusal_back (Record Attributes) = refl
refusal_back (Record Body) = refl
refusal_back (Record Prefix) = refl
refusal_back Lines = refl

-- so the numbers tell the refusals apart
pub number_one : (why other : Refusal) → number_of why ≡ number_of other → why ≡ other
number_one why other e = sym (refusal_back why) ∙ ap refusal_of e ∙ refusal_back other

-- 65,536 bytes of room never give 19
pub roomy : {program bytes : List ℕ} {room : ℕ} {counting : Option Tally} → line_room ≤ room → RecordAnswers program bytes room counting (refused Lines) → ⊥
roomy h (short v n r e l) = omega (arith, room_suffices r)

-- ---- no count overflows

-- each count is one of 32 bits
pub record TallyFits (t : Tally) : Type 0 where
  pub seen_fits : t.seen ≤ full_count
  pub kept_fits : t.kept ≤ full_count
  pub dropped_fits : t.dropped ≤ full_count
  pub refused_fits : t.refused ≤ full_count

-- a count that isn't full can grow
grows : {n : ℕ} → n ≤ full_count → (n ≡ full_count → ⊥) → n + 1 ≤ full_count
grows h n = omega arith

-- where a tally isn't full, each count of it fits after any answer
after_fits : (o : RecordOutcome) {t : Tally} → TallyFits t → (Full t → ⊥) → TallyFits (tally_after o t)
after_fits o {t} f n =
    by_outcome o (grows f.seen_fits (λ e. n (full_seen e))) (grows f.kept_fits (λ e. n (full_kept e)))
    (grows f.dropped_fits (λ e. n (full_dropped e))) (grows f.refused_fits (λ e. n (full_refused e)))
  where
    by_outcome : (o : RecordOutcome) → t.seen + 1 ≤ full_count → t.kept + 1 ≤ full_count → t.dropped + 1 ≤ full_count → t.refused + 1 ≤ full_count
        → TallyFits (tally_after o t)
    by_outcome (kept spent lines) a b c d = omega arith
    by_outcome (dropped spent) a b c d = omega arith
    by_outcome (refused (Record why)) a b c d = omega arith
    by_outcome (refused Program) a b c d = f
    by_outcome (refused Count) a b c d = f
    by_outcome (refused Lines) a b c d = f

-- where it is full, the answer is 20 or 21: so each count fits after judging with any tally
pub answer_fits : {program bytes : List ℕ} {room : ℕ} {t : Tally} {o : RecordOutcome} → RecordAnswers program bytes room (Some t) o → TallyFits t → TallyFits (tally_after o t)
answer_fits (not_valid n) f = f
answer_fits (full v x) f = f
answer_fits {o = o} (unread v n x) f = after_fits o f (λ x. n (full_tally x))
answer_fits {o = o} (drops v n r e) f = after_fits o f (λ x. n (full_tally x))
answer_fits (short v n r e h) f = f
answer_fits {o = o} (keeps v n r e h) f = after_fits o f (λ x. n (full_tally x))
