-- `network::prefix_size` meets its contract, by the byte at the place. Assumes nothing.
use borrow.Author.Tests.{lt-ltb, le-ltb}
use native.Mathlib.Omega.{arith}
use mathlib.Core.Path.{refl, sym}
use lib.ListN.{drop_of_length-le}
use Rattle.octets.proofs.Rows.{some_sized}
use Rattle.network.specs.Networks.{address_bits}
use Rattle.network.specs.Wire.{prefix_size}
use Rattle.network.proofs.Prefixes.{size_at}
use Rattle.network.proofs.prefix_size.Goals as goal

pub returns-then-s-at : goal.returns-then-s-at
unfolding prefix_size
returns-then-s-at c = rw (drop_of_length-le c.args.s.now c.if-s-at.true) refl

pub returns-then-len-gt-LONGEST_PREFIX : goal.returns-then-len-gt-LONGEST_PREFIX
returns-then-len-gt-LONGEST_PREFIX c = let a = c.args in
    rw (size_at address_bits a.s.now a.at) (simp (lt-ltb _ _ c.if-len-gt-LONGEST_PREFIX.true))

pub returns-then-s-at-2 : goal.returns-then-s-at-2
returns-then-s-at-2 c = let a = c.args in
    rw (size_at address_bits a.s.now a.at) (simp (le-ltb _ _ c.if-len-gt-LONGEST_PREFIX.false, lt-ltb _ _ c.if-s-at-2.true))

pub returns : goal.returns
returns c = let a = c.args in
    rw (size_at address_bits a.s.now a.at) (simp (le-ltb _ _ c.if-len-gt-LONGEST_PREFIX.false, le-ltb _ _ c.if-s-at-2.false) (sym (some_sized (λ z. omega arith))))
