-- `octets::put_decimal` meets its contract: the digits of n / 100, then the last two. Assumes nothing.
use Prim.Native.Nat.{◌+◌, ◌%◌, ◌/◌}
use native.Mathlib.Omega.{arith}
use mathlib.Core.List.{[], ◌∷◌}
use Rattle.octets.specs.Decimal.{decimal}
use Rattle.octets.proofs.Decimal.{digits_small, decimal_pair, decimal_two}
use Rattle.octets.proofs.Writes.{both}
use Rattle.octets.proofs.+put_decimal.Goals as goal

pub returns-then-n-lt10 : goal.returns-then-n-lt10
returns-then-n-lt10 t c = let n = c.args.n in
    rw (digits_small 9 n (omega arith)) c.put.ensures

pub returns-then-n-lt100 : goal.returns-then-n-lt100
returns-then-n-lt100 t c = let n = c.args.n in
    rw (decimal_pair n (omega arith) (omega arith)) c.put_pair.ensures

pub returns : goal.returns
returns t c = let s = c in
    let n = s.args.n in
    rw (decimal_two n s.ranges.n.fits (omega arith))
    (both (decimal (n / 100)) ((n / 10 % 10 + 48) ∷ (n % 10 + 48) ∷ []) c.put_decimal-next.ensures c.put_pair-2.ensures)
