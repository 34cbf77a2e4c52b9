-- A step behind a front: it is the step in what stands behind it, and hands out the same record. Assumes nothing.
use Prim.Native.Nat.{ℕ, ◌+◌, ◌-◌, ◌≤◌}
use native.Mathlib.Nat.{add_assoc, lt_of_not-le}
use native.Mathlib.Decide.{dec_le}
use native.Mathlib.Omega.{arith}
use mathlib.Core.Path.{◌≡◌, refl, ap, ◌∙◌}
use mathlib.Core.List.{List, ◌++◌}
use lib.ListN.{length, length-append}
use lib.Seq.{drop-append-add}
use Rattle.header.specs.Header.{header_size, length_at}
use Rattle.octets.proofs.Numbers.{number_after}
use Rattle.walk.specs.declared.Step.{Step}
use Rattle.walk.specs.declared.Step.TheVariants.{Record, Done, Cut}
use Rattle.walk.specs.Steps.{step_at, record_of}
use Rattle.walk.proofs.Steps.{step_past, step_short, step_overrun, step_whole}

-- a step, so many bytes further on
abbrev pub further : ℕ → Step → Step
further n (Record start len) = Record (n + start) len
further n Done = Done
further n (Cut left) = Cut left

module _ (front s : List ℕ) where
  -- the record that it hands out is the same
  pub record_behind : (t : Step) → record_of (front ++ s) (further (length front) t) ≡ record_of s t
  record_behind (Record start len) = rw (drop-append-add front s start)
  record_behind Done = refl
  record_behind (Cut left) = refl

  pub step_behind : (at : ℕ) → step_at (front ++ s) (length front + at) ≡ further (length front) (step_at s at)
  step_behind at = go (dec_le (length s) at) (dec_le header_size (length s - at)) (dec_le (header_size + length_at s at) (length s - at))
    where
      place : ℕ
      place = length front + at

      left : length (front ++ s) - place ≡ length s - at
      left = omega (arith, length-append front s)

      body : length_at (front ++ s) place ≡ length_at s at
      body = rw add_assoc (number_after front s (at + 8) 4)

      go : Dec (length s ≤ at) → Dec (header_size ≤ length s - at) → Dec (header_size + length_at s at ≤ length s - at)
          → step_at (front ++ s) place ≡ further (length front) (step_at s at)
      go (yes i) d f = rw (step_past s at i) (step_past (front ++ s) place (omega (arith, length-append front s)))
      go (no i) (no j) f =
          rw (step_short s at (lt_of_not-le i) (lt_of_not-le j))
          (step_short (front ++ s) place (omega (arith, length-append front s)) (omega (arith, left)) ∙ ap Cut left)
      go (no i) (yes j) (no l) =
          rw (step_overrun s at j (lt_of_not-le l))
          (step_overrun (front ++ s) place (omega (arith, left)) (omega (arith, left, body)) ∙ ap Cut left)
      go (no i) (yes j) (yes l) =
          rw (step_whole s at l)
          (step_whole (front ++ s) place (omega (arith, left, body)) ∙ ap (λ (n : ℕ). Record place (header_size + n)) body)
