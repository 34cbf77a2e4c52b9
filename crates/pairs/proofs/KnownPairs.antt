-- The known pairs of document 01 that are to be proved. Assumes nothing.
use Prim.Native.Nat.{ℕ}
use mathlib.Core.Path.{◌≡◌, refl, sym, ◌∙◌}
use mathlib.Core.Bool.{true, false}
use mathlib.Core.List.{List, [], ◌∷◌}
use Rattle.octets.proofs.Choices.{never}
use Rattle.network.specs.Networks.{address_bits}
use Rattle.network.specs.declared.Relation.TheVariants.{Exact, Subnet}
use Rattle.aspath.specs.declared.Item.TheVariants.{Number}
use Rattle.aspath.specs.Bogons.{is_bogon}
use Rattle.aspath.proofs.MeaningBogons.{bogon_sound, bogon_complete}
use Rattle.program.specs.Readings.{by_as, either_side, withdrawn, path_matches, peer_is, has_loop, has_bogon, network_is, and, Reading, test, neg, joint, verdict, spent}
use Rattle.filter.specs.declared.Refusal.{Refusal}
use Rattle.filter.specs.declared.Refusal.TheVariants.{Token as BadToken}
use Rattle.filter.specs.Answers.{number_of}
use Rattle.filter.specs.Answers as words
use Rattle.filter.specs.Answering.{answer}
use Rattle.filter.proofs.Answered.{answer_given}
use Rattle.truth.specs.Verdict.{Keeps}
use Rattle.pairs.specs.Pairs.{Pair, kept, dropped, refused, bogon, no_bogon, PairHolds, EachPair, none, more, pairs, KnownPairs}
use Rattle.pairs.proofs.RecordR.{record_represents}
use Rattle.pairs.proofs.Texts.{answer_for, truth_on_r, Computed, TextOnR, on_R, keeps, drops}

-- what is computed for a pair
abbrev Shown : Pair → Type 0
Shown (kept text count) = (r : Reading) × Computed true text r count
Shown (dropped text count) = (r : Reading) × Computed false text r count
Shown (refused text number place) = (why : Refusal) × (number_of why ≡ number) × ((room : ℕ) → answer text room ≡ words.refused why place)
Shown (bogon n) = is_bogon n ≡ true
Shown (no_bogon n) = is_bogon n ≡ false

-- a pair holds where that is so
holds : (p : Pair) → Shown p → PairHolds p
holds (kept text count) (r, c) = on_R (keeps c)
holds (dropped text count) (r, c) = on_R (drops c)
holds (refused text number place) (why, e, a) = λ room. (why, e, rw (a room) at (answer_given text room))
holds (bogon n) e = bogon_sound e
holds (no_bogon n) e = λ b. never (sym e ∙ bogon_complete b)

-- a pair for which it is computed, and those after it
infixr 5 ◌also◌
◌also◌ : {p : Pair} {ps : List Pair} → Shown p → EachPair ps → EachPair (p ∷ ps)
◌also◌ {p} s e = more (holds p s) e

-- ! -loops
abbrev not_loops_text : List ℕ
not_loops_text = 33 ∷ 32 ∷ 45 ∷ 108 ∷ 111 ∷ 111 ∷ 112 ∷ 115 ∷ []

not_loops_computed : Computed true not_loops_text (neg (test has_loop)) 2
unfolding answer_for truth_on_r verdict spent
not_loops_computed = (refl, refl, refl)

pub not_loops : TextOnR Keeps not_loops_text (neg (test has_loop)) 2
not_loops = keeps not_loops_computed

-- each pair, with the reading of its text or its refusal
each : EachPair pairs
unfolding pairs number_of answer_for truth_on_r verdict spent
each =
    (test (peer_is (by_as 199036)), (refl, refl, refl))
    also (test (peer_is (by_as 2428)), (refl, refl, refl))
    also (test (path_matches (record { start = false; items = Number 3333 ∷ []; end = true })), (refl, refl, refl))
    also (test (path_matches (record { start = true; items = Number 3333 ∷ []; end = false })), (refl, refl, refl))
    also (joint and (test has_loop) (test has_bogon), (refl, refl, refl))
    also (neg (test has_loop), not_loops_computed)
    also (test (network_is Subnet (record { bits = address_bits; address = 167772160; len = 8 }) either_side), (refl, refl, refl))
    also (test (network_is Exact (record { bits = address_bits; address = 167838208; len = 24 }) withdrawn), (refl, refl, refl))
    also (BadToken, refl, λ room. refl)  -- empty text
    also (BadToken, refl, λ room. refl)  -- -loops )
    also (BadToken, refl, λ room. refl)  -- -aspath !432
    also refl  -- 131071
    also refl  -- 131072
    also none

-- R's bytes are R's message, and each pair holds
pub known_pairs : KnownPairs
known_pairs = record { record_is = record_represents; each = each }
