-- Texts on R: what they read as, and that they drop it. Assumes nothing.
use Prim.Native.Nat.{ℕ}
use mathlib.Core.Path.{refl}
use mathlib.Core.List.{List, [], ◌∷◌}
use Rattle.program.specs.Readings.{has_loop, has_bogon, and, test, joint, verdict, spent}
use Rattle.truth.specs.Verdict.{Drops}
use Rattle.pairs.proofs.Texts.{answer_for, truth_on_r, TextOnR, drops}

-- -loops
abbrev loops_text : List ℕ
loops_text = 45 ∷ 108 ∷ 111 ∷ 111 ∷ 112 ∷ 115 ∷ []

-- -bogon-asn
abbrev bogon_text : List ℕ
bogon_text = 45 ∷ 98 ∷ 111 ∷ 103 ∷ 111 ∷ 110 ∷ 45 ∷ 97 ∷ 115 ∷ 110 ∷ []

-- -bogon-asn -and -loops
abbrev pub bogon_and_loops_text : List ℕ
bogon_and_loops_text =
    45 ∷ 98 ∷ 111 ∷ 103 ∷ 111 ∷ 110 ∷ 45 ∷ 97 ∷ 115 ∷ 110 ∷ 32 ∷ 45 ∷ 97 ∷ 110 ∷ 100 ∷ 32 ∷ 45 ∷ 108 ∷ 111 ∷ 111 ∷ 112 ∷ 115 ∷ []

pub loops : TextOnR Drops loops_text (test has_loop) 1
unfolding answer_for truth_on_r verdict spent
loops = drops (refl, refl, refl)

pub bogon : TextOnR Drops bogon_text (test has_bogon) 1
unfolding answer_for truth_on_r verdict spent
bogon = drops (refl, refl, refl)

pub bogon_and_loops : TextOnR Drops bogon_and_loops_text (joint and (test has_bogon) (test has_loop)) 2
unfolding answer_for truth_on_r verdict spent
bogon_and_loops = drops (refl, refl, refl)
