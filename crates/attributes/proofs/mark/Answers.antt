-- `attributes::mark` meets its contract: a clear bit is set, so that the word keeps its size. Assumes nothing.
use Prim.Native.Nat.{ℕ, ◌*◌, ◌%◌, ◌^◌, ◌<◌}
use native.Mathlib.Nat.{one-mul, mod-eq_of_lt}
use mathlib.Core.Path.{◌≡◌, refl}
use lib.Pow.{pow-lt}
use Rattle.attributes.proofs.Marks.{mark_lt}
use Rattle.attributes.proofs.mark.Goals as goal

shifted : (bit : ℕ) → bit < 64 → 1 * 2 ^ bit % 18446744073709551616 ≡ 2 ^ bit
shifted bit h = rw one-mul (mod-eq_of_lt (pow-lt {i = bit} {j = 64} h))

pub overflow_add-result : goal.overflow_add-result
overflow_add-result c = rw (shifted c.args.bit c.requires.0) (record {
  fits =
      mark_lt 64 c.args.word c.args.bit c.ranges.word.fits c.requires.0 c.requires.1;
})

pub returns : goal.returns
returns c = rw (shifted c.args.bit c.requires.0) refl
