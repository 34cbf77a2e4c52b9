-- `aspath::segment_size` meets its contract, by the bytes at the place. Assumes nothing.
use native.Mathlib.Omega.{arith}
use mathlib.Core.Path.{sym, ◌∙◌}
use borrow.Author.Tests.{lt-ltb, le-ltb, eq-eqb, ne_eqb}
use Rattle.octets.proofs.Rows.{some_sized}
use Rattle.aspath.specs.Wire.{segment_size}
use Rattle.aspath.proofs.segment_size.Goals.{then-not-known-via-then-not-known, then-not-known-via-else-not-known+then-count-eq0}
use Rattle.aspath.proofs.segment_size.Goals as goal

pub returns-in_default : goal.returns-in_default
unfolding segment_size
returns-in_default c = rw (← c.rest-here.ensures) (simp (lt-ltb _ _ c.in_default.len_below))

pub returns-then-not-known : goal.returns-then-not-known
unfolding segment_size
returns-then-not-known c = rw (← c.rest-here.ensures) (elim c.then-not-known.branch [
  | then-not-known-via-then-not-known w ↦ simp (le-ltb _ _ c.in-len2-up.len_at_least, sym c.known.ensures ∙ w.if-not-known.true)
  | then-not-known-via-else-not-known+then-count-eq0 w ↦
      simp (le-ltb _ _ c.in-len2-up.len_at_least, sym c.known.ensures ∙ w.if-not-known.false, eq-eqb _ _ w.if-count-eq0.true)
])

pub returns-then-here-size : goal.returns-then-here-size
unfolding segment_size
returns-then-here-size c = rw (← c.rest-here.ensures, ← c.width_bytes.ensures.0)
    (simp (le-ltb _ _ c.in-len2-up.len_at_least, sym c.known.ensures ∙ c.if-not-known.false, ne_eqb _ _ c.if-count-eq0.false, lt-ltb _ _ c.if-here-size.true))

pub returns : goal.returns
unfolding segment_size
returns c = rw (← c.rest-here.ensures, ← c.width_bytes.ensures.0)
    (simp (le-ltb _ _ c.in-len2-up.len_at_least, sym c.known.ensures ∙ c.if-not-known.false, ne_eqb _ _ c.if-count-eq0.false, le-ltb _ _ c.if-here-size.false)
    (sym (some_sized (λ z. omega arith))))
