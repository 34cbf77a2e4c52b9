-- Laws of covering, over the width: the leading zeros of an exclusive-or count the bits that two addresses share. Assumes nothing.
use Prim.Native.Nat.{ℕ, zero, suc, ◌+◌, ◌-◌, ◌*◌, ◌/◌, ◌%◌, ◌^◌, ◌≤◌, ◌<◌}
use native.Mathlib.Nat.{pow-suc, lt_of_not-le, lt_of_lt_of_le, mod-lt, zero-mul, zero-add, div-eq_of_lt, sub-zero}
use native.Mathlib.Decide.{dec_le}
use native.Mathlib.Omega.{arith}
use mathlib.Core.Path.{◌≡◌, refl, sym, ap, ◌∙◌}
use mathlib.Core.Bool.{true, false}
use mathlib.Core.Logic.{⊎_elim, inl, inr, ◌↔◌}
use lib.Bits.{bit_xor, xor_add_and, and_le_l, and_le_r, xor_self, xor_shr, xor_lt}
use lib.Count.{count_leading_zeros, leading_length, leading_le}
use lib.Pow.{pow_pos, pow_mono, split, shr-shr}
use lib.Dec.{leb, eqb}
use borrow.Author.Tests.{le-leb, lt-leb, eq-eqb, ne_eqb, leb-true, eqb-true}
use Rattle.octets.specs.Choice.{pick}
use Rattle.octets.proofs.Choices.{alike, pick_both, pick_either}
use Rattle.network.specs.declared.Relation.{Relation}
use Rattle.network.specs.declared.Relation.TheVariants.{Exact, Supernet, Subnet, Related}
use Rattle.network.specs.Networks.{Network, bit_at, FirstBits, Covers, Relates, agree, covers, relates}

-- numbers that differ in no bit are equal
xor_eq : (p q : ℕ) → bit_xor p q ≡ 0 → p ≡ q
xor_eq p q z = omega (arith, xor_add_and p q, and_le_l p q, and_le_r p q)

-- a number with nothing above its last k bits
div_below : (x k : ℕ) → x / 2 ^ k ≡ 0 → x < 2 ^ k
div_below x k z = rw (sym (split x k), z, zero-mul, zero-add) (mod-lt x (pow_pos k))

-- a number below 2 ^ (w - len) has at least len leading zeros
leading_below : (w len x : ℕ) → len ≤ w → x < 2 ^ w → x < 2 ^ (w - len) → len ≤ count_leading_zeros w x
leading_below w len x h f k =
    let l = leading_length w x f in
    go l.0 l.1 l.3 (dec_le l.0 (w - len))
  where
    go : (m : ℕ) → count_leading_zeros w x + m ≡ w → 2 ^ m ≤ 2 * x + 1 → Dec (m ≤ w - len) → len ≤ count_leading_zeros w x
    go m e top (yes le) = omega arith
    go m e top (no nle) =
        let up : 2 ^ suc (w - len) ≤ 2 ^ m = pow_mono (lt_of_not-le nle) in
        absurd (omega (arith, up, pow-suc 2 (w - len)))

-- and no other has
below_leading : (w len x : ℕ) → len ≤ w → x < 2 ^ w → len ≤ count_leading_zeros w x → x < 2 ^ (w - len)
below_leading w len x h f k =
    let l = leading_length w x f in
    lt_of_lt_of_le l.2 (pow_mono (omega (arith, l.1)))

-- the leading zeros of the exclusive-or are len or more exactly where the first len bits agree
shared_within : (w len a b : ℕ) → len ≤ w → a < 2 ^ w → b < 2 ^ w → leb len (count_leading_zeros w (bit_xor a b)) ≡ agree w len a b
unfolding agree
shared_within w len a b h ha hb = go (dec_le len (count_leading_zeros w (bit_xor a b)))
  where
    go : Dec (len ≤ count_leading_zeros w (bit_xor a b)) → leb len (count_leading_zeros w (bit_xor a b)) ≡ eqb (a / 2 ^ (w - len)) (b / 2 ^ (w - len))
    go (yes m) =
        let z = div-eq_of_lt (below_leading w len (bit_xor a b) h (xor_lt w a b ha hb) m) in
        le-leb _ _ m ∙ sym (eq-eqb _ _ (xor_eq (a / 2 ^ (w - len)) (b / 2 ^ (w - len)) (sym (xor_shr a b (w - len)) ∙ z)))
    go (no m) =
        let ne : a / 2 ^ (w - len) ≡ b / 2 ^ (w - len) → ⊥ = λ e.
        m (leading_below w len (bit_xor a b) h (xor_lt w a b ha hb)
        (div_below (bit_xor a b) (w - len) (xor_shr a b (w - len) ∙ ap (bit_xor (a / 2 ^ (w - len))) (sym e) ∙ xor_self (a / 2 ^ (w - len))))) in
        lt-leb _ _ (lt_of_not-le m) ∙ sym (ne_eqb _ _ ne)

-- the same for any length: there are no more leading zeros than the width
pub shared : (w len a b : ℕ) → a < 2 ^ w → b < 2 ^ w → leb len (count_leading_zeros w (bit_xor a b)) ≡ pick (leb len w) (agree w len a b) false
shared w len a b ha hb = go (dec_le len w)
  where
    go : Dec (len ≤ w) → leb len (count_leading_zeros w (bit_xor a b)) ≡ pick (leb len w) (agree w len a b) false
    go (yes h) = simp (le-leb _ _ h) (shared_within w len a b h ha hb)
    go (no h) =
        let k : count_leading_zeros w (bit_xor a b) < len = omega (arith, leading_le w (bit_xor a b), lt_of_not-le h) in
        simp (lt-leb _ _ (lt_of_not-le h)) (lt-leb _ _ k)

-- a network covers none that is shorter
pub covers_no_shorter : (a b : Network) → b.len < a.len → covers a b ≡ false
unfolding covers
covers_no_shorter a b h = alike (eqb a.bits b.bits) (alike (leb a.len a.bits) (simp (lt-leb _ _ h)) refl) refl

-- it covers another where the leading zeros of the exclusive-or are as many as its length
pub covers_shared : (a b : Network) → a.bits ≡ b.bits → a.len ≤ b.len → a.address < 2 ^ a.bits → b.address < 2 ^ a.bits
    → leb a.len (count_leading_zeros a.bits (bit_xor a.address b.address)) ≡ covers a b
unfolding covers
covers_shared a b e h ha hb = simp (eq-eqb _ _ e, le-leb _ _ h) (shared a.bits a.len a.address b.address ha hb)

-- ---- the words and the tests

-- where the numbers above the last bits are equal, the first bits are
agree_first : (w len a b : ℕ) → len ≤ w → a / 2 ^ (w - len) ≡ b / 2 ^ (w - len) → FirstBits w len a b
unfolding bit_at
agree_first w len a b h e = record { same = λ i k. ap (λ (q : ℕ). q % 2) (bits a i k ∙ ap (λ (q : ℕ). q / 2 ^ (len - 1 - i)) e ∙ sym (bits b i k)) }
  where
    bits : (x i : ℕ) → i < len → x / 2 ^ (w - 1 - i) ≡ x / 2 ^ (w - len) / 2 ^ (len - 1 - i)
    bits x i k =
        let j : w - len + (len - 1 - i) ≡ w - 1 - i = omega arith in
        sym (shr-shr x (w - len) (len - 1 - i) ∙ ap (λ (m : ℕ). x / 2 ^ m) j)

-- one bit more of an address
bit_more : (w len a : ℕ) → len < w → a / 2 ^ (w - suc len) ≡ a / 2 ^ (w - len) * 2 + bit_at w len a
unfolding bit_at
bit_more w len a h =
    let j : w - suc len ≡ w - 1 - len = omega arith in
    let m : w - suc len + 1 ≡ w - len = omega arith in
    rw (← m, ← shr-shr a (w - suc len) 1, ← j) (omega arith)

-- where the first bits are equal, the numbers above the last bits are
first_agree : (w len a b : ℕ) → len ≤ w → a < 2 ^ w → b < 2 ^ w → FirstBits w len a b → a / 2 ^ (w - len) ≡ b / 2 ^ (w - len)
first_agree w zero a b h ha hb f = rw sub-zero (div-eq_of_lt ha ∙ sym (div-eq_of_lt hb))
first_agree w (suc len) a b h ha hb f =
    let before = first_agree w len a b (omega arith) ha hb (record { same = λ i k. f.same i (omega arith) }) in
    omega (arith, before, bit_more w len a (omega arith), bit_more w len b (omega arith), f.same len (omega arith))

-- the first bits agree exactly where the test says so
pub agree_means : (w len a b : ℕ) → len ≤ w → a < 2 ^ w → b < 2 ^ w → (agree w len a b ≡ true) ↔ FirstBits w len a b
unfolding agree
agree_means w len a b h ha hb = (λ e. agree_first w len a b h (eqb-true _ _ e), λ f. eq-eqb _ _ (first_agree w len a b h ha hb f))

-- a network that was found to cover another covers it, whatever the addresses are
covers_sound : (a b : Network) → covers a b ≡ true → Covers a b
unfolding covers agree
covers_sound a b e =
    let f = (pick_both _ _).0 e in
    let p = (pick_both _ _).0 f.1 in
    let q = (pick_both _ _).0 p.1 in
    let h = leb-true a.len a.bits p.0 in
    record {
      family = eqb-true _ _ f.0;
      sized = h;
      shorter = leb-true a.len b.len q.0;
      first = agree_first a.bits a.len a.address b.address h (eqb-true _ _ q.1);
    }

-- a network covers another exactly where the test says so
pub covers_means : (a b : Network) → a.address < 2 ^ a.bits → b.address < 2 ^ b.bits → (covers a b ≡ true) ↔ Covers a b
unfolding covers
covers_means a b ha hb = (
  covers_sound a b,
  λ c.
      let f = (agree_means a.bits a.len a.address b.address c.sized ha (rw c.family hb)).1 c.first in
      (pick_both _ _).1 (eq-eqb _ _ c.family, (pick_both _ _).1 (le-leb _ _ c.sized, (pick_both _ _).1 (le-leb _ _ c.shorter, f))),
)

-- a prefix that was found to stand to an operand as a relation says does, whatever the addresses are
pub relates_sound : (r : Relation) (operand prefix : Network) → relates r operand prefix ≡ true → Relates r operand prefix
unfolding relates Relates
relates_sound Exact o p e =
    let f = (pick_both _ _).0 e in
    let b = (pick_both _ _).0 f.1 in
    (eqb-true _ _ f.0, eqb-true _ _ b.0, eqb-true _ _ b.1)
relates_sound Supernet o p e = covers_sound p o e
relates_sound Subnet o p e = covers_sound o p e
relates_sound Related o p e = ⊎_elim (λ k. inl (covers_sound p o k)) (λ k. inr (covers_sound o p k)) ((pick_either _ _).0 e)

-- and none is missed
pub relates_complete : (r : Relation) (operand prefix : Network) → operand.address < 2 ^ operand.bits → prefix.address < 2 ^ prefix.bits
    → Relates r operand prefix → relates r operand prefix ≡ true
unfolding relates Relates
relates_complete Exact o p ho hp c = (pick_both _ _).1 (eq-eqb _ _ c.0, (pick_both _ _).1 (eq-eqb _ _ c.1, eq-eqb _ _ c.2))
relates_complete Supernet o p ho hp c = (covers_means p o hp ho).1 c
relates_complete Subnet o p ho hp c = (covers_means o p ho hp).1 c
relates_complete Related o p ho hp c =
    (pick_either _ _).1 (⊎_elim (λ k. inl ((covers_means p o hp ho).1 k)) (λ k. inr ((covers_means o p ho hp).1 k)) c)

-- a prefix stands to an operand as a relation says exactly where the test says so
pub relates_means : (r : Relation) (operand prefix : Network) → operand.address < 2 ^ operand.bits → prefix.address < 2 ^ prefix.bits
    → (relates r operand prefix ≡ true) ↔ Relates r operand prefix
relates_means r o p ho hp = (relates_sound r o p, relates_complete r o p ho hp)
