-- `network::network_of` meets its contract: shifts down and up clear the bits. Assumes nothing.
use native.Mathlib.Omega.{arith}
use Rattle.network.specs.Networks.{address_bits}
use Rattle.network.proofs.Clearing.{shifted, cleared_all, cleared_none}
use Rattle.network.proofs.network_of.Goals as goal

pub returns-then-len-ge-ADDRESS_BITS : goal.returns-then-len-ge-ADDRESS_BITS
returns-then-len-ge-ADDRESS_BITS c = let a = c.args in
    rw (cleared_all address_bits a.len a.address c.if-len-ge-ADDRESS_BITS.true)

pub returns-then-len-eq0 : goal.returns-then-len-eq0
returns-then-len-eq0 c = let s = c in
    rw (c.if-len-eq0.true, cleared_none address_bits s.args.address s.ranges.address.fits)

pub returns : goal.returns
returns c = let s = c in
    rw (shifted address_bits s.args.len s.args.address (omega arith) s.ranges.address.fits)
