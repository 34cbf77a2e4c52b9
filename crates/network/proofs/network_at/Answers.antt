-- `network::network_at` meets its contract, by the bytes at the place. Assumes nothing.
use Prim.Native.Nat.{◌+◌, ◌≤◌}
use native.Mathlib.Omega.{arith}
use mathlib.Core.Path.{refl}
use lib.ListN.{length, get_or-eq_default}
use Rattle.octets.proofs.Numbers.{number_past, number_one}
use Rattle.octets.specs.Numbers.{Octets}
use Rattle.network.specs.Networks.{address_bits}
use Rattle.network.proofs.Prefixes.{network_here}
use Rattle.network.proofs.network_at.Goals as goal

pub returns-then-s-at : goal.returns-then-s-at
returns-then-s-at c = let a = c.args in
    let s = a.s.now in
    let h : length s ≤ a.at = c.if-s-at.true in
    let o : Octets s = record { below = λ i. (c.type_inv.s i).fits } in
    rw (network_here address_bits a.at refl o, number_past s (a.at + 1) 4 (omega arith), get_or-eq_default s 0 h) c.network_of.ensures

pub returns : goal.returns
returns c = let a = c.args in
    let s = a.s.now in
    let o : Octets s = record { below = λ i. (c.type_inv.s i).fits } in
    rw (network_here address_bits a.at refl o, ← number_one s a.at, ← c.number.ensures, ← c.number-len.ensures) c.network_of-2.ensures
