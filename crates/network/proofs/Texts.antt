-- Bounds of addresses and networks as text. Assumes nothing.
use Prim.Native.Nat.{ℕ, ◌+◌, ◌*◌, ◌/◌, ◌%◌, ◌^◌, ◌≤◌, ◌<◌}
use native.Mathlib.Nat.{lt_of_not-le}
use native.Mathlib.Decide.{dec_le, ℕ_discrete}
use native.Mathlib.Omega.{arith}
use mathlib.Core.Path.{◌≡◌, refl, ap}
use mathlib.Core.List.{List}
use lib.ListN.{length, get_or, length-append}
use Rattle.octets.specs.Numbers.{number_at}
use Rattle.octets.specs.Decimal.{decimal, digits}
use Rattle.octets.proofs.Decimal.{digits_few, digits_length}
use Rattle.network.specs.Networks.{address_bits, Network, cleared}
use Rattle.network.specs.Wire.{prefix_size, network_of}
use Rattle.network.specs.Text.{address_text, network_text}
use Rattle.network.proofs.Clearing.{cleared_low}
use Rattle.network.proofs.Prefixes.{Stands, size_stands}

-- the parts of an address after the first have d bytes of text each, and the dots one
parts : (a d : ℕ) → length (decimal (a / 65536 % 256)) ≤ d → length (decimal (a / 256 % 256)) ≤ d → length (decimal (a % 256)) ≤ d
    → length (address_text a) ≤ length (decimal (a / 16777216)) + (3 * d + 3)
unfolding address_text
parts a d h i j = simp length-append (omega arith)

-- an address has 12 bytes of text at most after those of its first part
address_any : (a : ℕ) → length (address_text a) ≤ length (decimal (a / 16777216)) + 12
address_any a = parts a 3 (digits_few 2 9 _ (omega arith)) (digits_few 2 9 _ (omega arith)) (digits_few 2 9 _ (omega arith))

-- an address has 15 bytes of text at most
pub address_text_length : (a : ℕ) → a < 2 ^ address_bits → length (address_text a) ≤ 15
address_text_length a h = omega (arith, address_any a, digits_few 2 9 (a / 16777216) (omega arith))

-- an address and a length
network_any : (n : Network) → n.len ≤ address_bits → length (network_text n) ≤ length (address_text n.address) + 3
unfolding network_text
network_any n h = simp length-append (omega (arith, digits_few 1 9 n.len (omega arith)))

-- a prefix of n bytes has fewer than 10 n bytes of text: `0.0.0.0/0` is 1 byte, and `255.0.0.0/8` is 2
pub network_text_cost : (l : List ℕ) → (prefix_size address_bits l ≡ 0 → ⊥) → 1 + length (network_text (network_of address_bits l)) ≤ 10 * prefix_size address_bits l
unfolding network_of
network_text_cost l n = go (size_stands address_bits l n) (ℕ_discrete (get_or l 0 0) 0) (dec_le (get_or l 0 0) 8)
  where
    none : length (network_text (record { bits = address_bits; address = 0; len = 0 })) ≡ 9
    none = unfold network_text in unfold address_text in unfold digits in refl

    go : Stands address_bits l → Dec (get_or l 0 0 ≡ 0) → Dec (get_or l 0 0 ≤ 8) → 1 + length (network_text (network_of address_bits l)) ≤ 10 * prefix_size address_bits l
    go s (yes z) d =
        let e : network_of address_bits l ≡ record { bits = address_bits; address = 0; len = 0 } = unfold number_at in unfold cleared in rw z refl in
        omega (arith, s.size, ap (λ (m : Network). length (network_text m)) e, none)
    go s (no z) (yes h) =
        let a = (network_of address_bits l).address in
        let e : a % 16777216 ≡ 0 = cleared_low address_bits (get_or l 0 0) 24 _ (omega arith) in
        let t = parts a 1 (digits_few 0 9 _ (omega arith)) (digits_few 0 9 _ (omega arith)) (digits_few 0 9 _ (omega arith)) in
        omega (arith, s.size, network_any (network_of address_bits l) s.short, t, digits_length 10 (a / 16777216))
    go s (no z) (no h) =
        let a = (network_of address_bits l).address in
        omega (arith, s.size, network_any (network_of address_bits l) s.short, address_any a, digits_length 10 (a / 16777216), lt_of_not-le h)
