-- A number that is at most n is one of 0 to n: what holds of each holds of it. Assumes nothing.
use Prim.Native.Nat.{ℕ, zero, suc, ◌≤◌}
use native.Mathlib.Omega.{arith}

-- R, from what holds of each of 0 to n
abbrev pub From : ℕ → (ℕ → Type 0) → Type 0 → Type 0
From zero P R = P 0 → R
From (suc n) P R = P 0 → From n (λ k. P (suc k)) R

given : (n : ℕ) (P : ℕ → Type 0) {R : Type 0} → R → From n P R
given zero P r = λ p. r
given (suc n) P r = λ p. given n (λ k. P (suc k)) r

-- what holds of each of 0 to n holds of a number that is at most n
pub within : (n : ℕ) (P : ℕ → Type 0) (k : ℕ) → k ≤ n → From n P (P k)
within zero P zero h = λ p. p
within zero P (suc k) h = absurd (omega arith)
within (suc n) P zero h = λ p. given n (λ k. P (suc k)) p
within (suc n) P (suc k) h = λ p. within n (λ j. P (suc j)) k (omega arith)
