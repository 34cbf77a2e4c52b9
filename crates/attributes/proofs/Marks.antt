-- Laws of marks: the codes that are marked are the bits of words of 64. Assumes nothing.
use Prim.Native.Nat.{ℕ, zero, suc, ◌+◌, ◌-◌, ◌*◌, ◌/◌, ◌%◌, ◌^◌, ◌≤◌, ◌<◌}
use native.Mathlib.Nat.{lt_of_not-le, pow-suc, mod-lt, div-eq_of_lt, div_self, zero-div, one-mul, zero-mul, add-zero}
use native.Mathlib.Decide.{dec_le, ℕ_discrete}
use native.Mathlib.Omega.{arith}
use mathlib.Core.Path.{◌≡◌, refl, sym, ◌∙◌}
use mathlib.Core.Bool.{Bool, true, false}
use mathlib.Core.List.{List}
use lib.ListN.{length, get_or, set, replicate}
use lib.Seq.{get_or-set_same, get_or-set_other}
use lib.Dec.{eqb}
use lib.Pow.{pow_pos, pow-lt, pow-add, shl-shr, split}
use lib.Bits.{bit_and, bit_or, and_block, and_mask, and_zero_r, or_disjoint, or_lt, or_shr, or_mod, or_zero_r}
use borrow.Author.Tests.{eq-eqb, eqb-false}
use Rattle.attributes.proofs.Distinct.{Adds}

-- ---- a bit of a word

-- a power of two has one bit
power_bit : (k j : ℕ) → (j ≡ k → ⊥) → 2 ^ k / 2 ^ j % 2 ≡ 0
power_bit k j n = go (dec_le k j)
  where
    above : (m : ℕ) → k ≡ suc m + j → 2 ^ k / 2 ^ j % 2 ≡ 0
    above m e =
        let p : 2 ^ (suc m + j) / 2 ^ j ≡ 2 ^ suc m = rw (pow-add 2 (suc m) j) (shl-shr (2 ^ suc m) j) in
        rw (e, p) (omega (arith, pow-suc 2 m))

    go : Dec (k ≤ j) → 2 ^ k / 2 ^ j % 2 ≡ 0
    go (yes h) =
        let z : 2 ^ k / 2 ^ j ≡ 0 = div-eq_of_lt (pow-lt {i = k} {j = j} (omega arith)) in
        rw z refl
    go (no f) = above (k - j - 1) (omega (arith, lt_of_not-le f))

-- a word whose bit is clear has none in common with that power
clear_and : (n k : ℕ) → n / 2 ^ k % 2 ≡ 0 → bit_and n (2 ^ k) ≡ 0
clear_and n k e =
    let p : 1 * 2 ^ k + 0 ≡ 2 ^ k = rw add-zero (one-mul (2 ^ k)) in
    let b = and_block k (n / 2 ^ k) 1 (n % 2 ^ k) 0 (mod-lt n (pow_pos k)) (pow_pos k) in
    let z : bit_and (n / 2 ^ k) 1 ≡ 0 = and_mask (n / 2 ^ k) 1 ∙ e in
    rw (split n k, p, z, and_zero_r, zero-mul) at b

-- setting it adds the power
mark_or : (n k : ℕ) → n / 2 ^ k % 2 ≡ 0 → n + 2 ^ k ≡ bit_or n (2 ^ k)
mark_or n k e = sym (or_disjoint n (2 ^ k) (clear_and n k e))

-- and keeps the word's size
pub mark_lt : (w n k : ℕ) → n < 2 ^ w → k < w → n / 2 ^ k % 2 ≡ 0 → n + 2 ^ k < 2 ^ w
mark_lt w n k h l e = rw (mark_or n k e) (or_lt w n (2 ^ k) h (pow-lt l))

-- any bit of it then
mark_bit : (n k j : ℕ) → n / 2 ^ k % 2 ≡ 0 → (n + 2 ^ k) / 2 ^ j % 2 ≡ bit_or (n / 2 ^ j % 2) (2 ^ k / 2 ^ j % 2)
mark_bit n k j e = rw (mark_or n k e, or_shr n (2 ^ k) j) (or_mod (n / 2 ^ j) (2 ^ k / 2 ^ j) 1)

-- that bit is set
mark_same : (n k : ℕ) → n / 2 ^ k % 2 ≡ 0 → (n + 2 ^ k) / 2 ^ k % 2 ≡ 1
mark_same n k e =
    let p : 2 ^ k / 2 ^ k ≡ 1 = div_self (pow_pos k) in
    mark_bit n k k e ∙ rw (e, p) refl

-- and the others are as they were
mark_other : (n k j : ℕ) → n / 2 ^ k % 2 ≡ 0 → (j ≡ k → ⊥) → (n + 2 ^ k) / 2 ^ j % 2 ≡ n / 2 ^ j % 2
mark_other n k j e d = mark_bit n k j e ∙ rw (power_bit k j d) (or_zero_r (n / 2 ^ j % 2))

-- ---- the bits of a list of words

-- the bit of a code is set
abbrev pub marks : List ℕ → ℕ → Bool
marks seen c = eqb (get_or seen (c / 64) 0 / 2 ^ (c % 64) % 2) 1

-- a bit that isn't 1 is 0
pub bit_clear : (n : ℕ) → eqb (n % 2) 1 ≡ false → n % 2 ≡ 0
bit_clear n e = omega (arith, eqb-false (n % 2) 1 e)

-- words of 0 mark nothing
pub none_marked : (n c : ℕ) → marks (replicate n 0) c ≡ false
none_marked n c =
    rw (zeros n (c / 64), zero-div) refl
  where
    zeros : (n i : ℕ) → get_or {A = ℕ} (replicate n 0) i 0 ≡ 0
    zeros zero i = refl
    zeros (suc n) zero = refl
    zeros (suc n) (suc i) = zeros n i

-- the words with the bit of a code set as well
abbrev marking : List ℕ → ℕ → List ℕ
marking seen c = set seen (c / 64) (get_or seen (c / 64) 0 + 2 ^ (c % 64))

-- they mark that code as well
pub marking_adds : (seen : List ℕ) (c : ℕ) → c / 64 < length seen → marks seen c ≡ false → Adds c (marks seen) (marks (marking seen c))
marking_adds seen c h e = record { this = this; others = λ d n. other d n (ℕ_discrete (d / 64) (c / 64)) }
  where
    word : ℕ
    word = get_or seen (c / 64) 0

    clear : word / 2 ^ (c % 64) % 2 ≡ 0
    clear = bit_clear (word / 2 ^ (c % 64)) e

    this : marks (marking seen c) c ≡ true
    this = rw (get_or-set_same seen (c / 64) (word + 2 ^ (c % 64)) 0 h) (eq-eqb _ _ (mark_same word (c % 64) clear))

    other : (d : ℕ) → (d ≡ c → ⊥) → Dec (d / 64 ≡ c / 64) → marks (marking seen c) d ≡ marks seen d
    other d n (yes w) =
        rw (w, get_or-set_same seen (c / 64) (word + 2 ^ (c % 64)) 0 h, mark_other word (c % 64) (d % 64) clear (λ q. n (omega arith))) refl
    other d n (no w) = rw (get_or-set_other seen (c / 64) (d / 64) (word + 2 ^ (c % 64)) 0 w) refl
