-- Networks and their sides: decided, and at most one. Assumes nothing.
use Prim.Native.Nat.{ℕ, ◌+◌}
use mathlib.Core.Path.{◌≡◌, refl, ◌∙◌}
use mathlib.Core.Bool.{false}
use Rattle.std.specs.Prelude.{Some}
use mathlib.Core.List.{List, ◌∷◌, ◌++◌, append_assoc}
use lib.Dec.{eqb}
use lib.ListN.{get_or, drop}
use Rattle.network.specs.Networks.{address_bits, Network}
use Rattle.program.specs.Readings.{Side}
use Rattle.operand.proofs.Holding.{AnswerHolds, held, holds_onward, holds_pick}
use Rattle.operand.proofs.FrontReads.{other, after_sound, after_complete, first_is}
use Rattle.operand.proofs.Decimals.{numeral_sound, numeral_complete}
use Rattle.operand.proofs.Blanks.{decimal_first}
use Rattle.operand.proofs.OperandAddresses.{address_sound, address_complete}
use Rattle.operand.specs.Addresses.{NetworkText, NetworkOperand, plain, plus, minus, network_read, Sided, sided, network_operand}
use Rattle.operand.specs.Decimals.{is_digit}

-- a network that was read is written so
network_sound : (l : List ℕ) → AnswerHolds (NetworkText l) (network_read l)
unfolding network_read
network_sound l =
    holds_onward (address_sound l) (λ a g. holds_onward (after_sound 47 a.rest) (λ r e. holds_onward (numeral_sound (address_bits + 1) r) (λ n b.
    held (record { address = a.value; len = n; address_text = g.text; len_text = r; joined = rw (← e) g.joined; address_is = g.says; len_is = b; value = refl }))))

-- and every network is read
network_complete : {l : List ℕ} {n : Network} → NetworkText l n → network_read l ≡ Some n
unfolding network_read is_digit
network_complete x =
    rw (x.joined, x.value, address_complete {rest = 47 ∷ x.len_text} x.address_is (other refl), after_complete 47 x.len_text, numeral_complete x.len_is)

-- ---- with a side

-- a network and side that were read are meant
pub network_operand_sound : (l : List ℕ) → AnswerHolds (λ (x : Sided). NetworkOperand l x.side x.network) (network_operand l)
unfolding network_operand
network_operand_sound l =
    holds_pick (eqb (get_or l 0 0) 43) (λ e. holds_onward (network_sound (drop 1 l)) (λ n t. held (rw (first_is 43 l refl e) (plus t))))
    (λ u. holds_pick (eqb (get_or l 0 0) 45) (λ e. holds_onward (network_sound (drop 1 l)) (λ n t. held (rw (first_is 45 l refl e) (minus t))))
    (λ v. holds_onward (network_sound l) (λ n t. held (plain t))))

-- a network starts with a digit
network_first : {l : List ℕ} {n : Network} → NetworkText l n → (b : ℕ) → is_digit b ≡ false → eqb 0 b ≡ false → eqb (get_or l 0 0) b ≡ false
network_first {l} x b e z =
    let a = x.address_is in
    let j : l ≡ a.aText ++ (46 ∷ (a.bText ++ (46 ∷ (a.cText ++ (46 ∷ (a.dText ++ (47 ∷ x.len_text))))))) = x.joined ∙ rw a.joined (simp append_assoc) in
    rw j (decimal_first a.a_is.decimal _ b e z)

-- and none is missed
pub network_operand_complete : {l : List ℕ} {s : Side} {n : Network} → NetworkOperand l s n → network_operand l ≡ Some (sided s n)
unfolding network_operand is_digit
network_operand_complete (plain t) = rw (network_first t 43 refl refl, network_first t 45 refl refl, network_complete t)
network_operand_complete (plus t) = rw (network_complete t)
network_operand_complete (minus t) = rw (network_complete t)
