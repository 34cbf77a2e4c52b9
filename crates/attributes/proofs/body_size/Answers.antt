-- `attributes::body_size` meets its contract: two bytes hold the length at most. Assumes nothing.
use Prim.Native.Nat.{◌≤◌}
use native.Mathlib.Omega.{arith}
use mathlib.Core.Path.{◌≡◌, sym, ap, ◌∙◌}
use borrow.Author.Tests.{le-leb}
use lib.ListN.{get_or, drop}
use Rattle.octets.proofs.Bytes.{octets_drop}
use Rattle.octets.proofs.Numbers.{number_one}
use Rattle.attributes.specs.Wire.{length_width, body_size}
use Rattle.attributes.proofs.Sizes.{body_at, body_lt}
use Rattle.attributes.proofs.body_size.Goals as goal

pub returns : goal.returns
returns c = let a = c.args in
    let s = a.s.now in
    let w = c.length_width-width in
    let e : w.result ≡ length_width (get_or s a.at 0) = w.ensures.0 ∙ ap length_width (c.number.ensures ∙ number_one s a.at) in
    let k : w.result ≤ 4 = omega arith in
    let n : c.number-2.result ≡ body_size (drop a.at s) =
    c.number-2.ensures ∙ simp (le-leb _ _ k) (rw e (sym (body_at s a.at))) in
    (n, rw n (body_lt (drop a.at s) (octets_drop a.at (record { below = λ i. (c.type_inv.s i).fits })).below))
