-- `aspath::member_at` meets its contract: a segment that is sized stands, so its count and its first number are there. Assumes nothing.
use Prim.Native.Nat.{ℕ, ◌+◌, ◌≤◌, ◌<◌}
use native.Mathlib.Omega.{arith}
use mathlib.Core.Path.{◌≡◌, sym, ap, ◌∙◌}
use mathlib.Core.List.{List}
use lib.ListN.{length, drop, length-drop}
use borrow.Author.Tests.{le-leb, lt-leb, eq-eqb, ne_eqb}
use Rattle.std.specs.Prelude.{Option, Some}
use Rattle.octets.specs.Rows.{sized}
use Rattle.octets.proofs.Rows.{sized_some, sized_none}
use Rattle.aspath.specs.declared.Width.{Width}
use Rattle.aspath.specs.declared.Width.TheVariants.{Two, Four}
use Rattle.aspath.specs.Wire.{width_bytes, segment_size}
use Rattle.aspath.specs.Cursors.{next_at}
use Rattle.aspath.proofs.Segments.{Stands, size_stands}
use Rattle.aspath.proofs.member_at.Goals as goal

-- a number has bytes
some_bytes : (width : Width) → 1 ≤ width_bytes width
some_bytes Two = omega arith
some_bytes Four = omega arith

-- a segment with a size stands
stands : {w at k : ℕ} {s : List ℕ} {r : Option ℕ} → r ≡ Some k → r ≡ sized (segment_size w (drop at s)) → Stands w s at
stands {w} {at} {k} {s} e f = size_stands w s at (sized_some (sym e ∙ f)).some

pub returns-in_err-segment_size : goal.returns-in_err-segment_size
unfolding next_at
returns-in_err-segment_size c = let z = sized_none (sym c.in_err-segment_size.was ∙ c.segment_size.ensures) in
    simp (eq-eqb _ _ c.if-c-eq0.true, eq-eqb _ _ z) c.from_residual.ensures

pub overflow_add-first : goal.overflow_add-first
overflow_add-first c = let t : Stands (width_bytes c.args.width) c.args.s.now c.args.c.at = stands c.in_ok-segment_size.was c.segment_size.ensures in omega arith

pub overflow_add-left : goal.overflow_add-left
overflow_add-left c = let t : Stands (width_bytes c.args.width) c.args.s.now c.args.c.at = stands c.in_ok-segment_size.was c.segment_size.ensures in omega arith

pub bounds-s-c : goal.bounds-s-c
bounds-s-c c = let t : Stands (width_bytes c.args.width) c.args.s.now c.args.c.at = stands c.in_ok-segment_size.was c.segment_size.ensures in omega arith

pub overflow_sub-left : goal.overflow_sub-left
overflow_sub-left c = let t : Stands (width_bytes c.args.width) c.args.s.now c.args.c.at = stands c.in_ok-segment_size.was c.segment_size.ensures in omega arith

pub overflow_add-result : goal.overflow_add-result
overflow_add-result c = let t : Stands (width_bytes c.args.width) c.args.s.now c.args.c.at = stands c.in_ok-segment_size.was c.segment_size.ensures in omega arith

pub returns-then-c-eq0 : goal.returns-then-c-eq0
unfolding next_at
returns-then-c-eq0 c = let n = (sized_some (sym c.in_ok-segment_size.was ∙ c.segment_size.ensures)).some in
    let w = c.width_bytes-w.ensures in
    rw (← w.0) (simp (eq-eqb _ _ c.if-c-eq0.true, ne_eqb _ _ (rw (← w.0) at n), c.number.ensures, le-leb _ _ w.1))

pub returns-then-rest-w : goal.returns-then-rest-w
unfolding next_at
returns-then-rest-w c = let a = c.args in
    let w = c.width_bytes-w in
    let h : length a.s.now < a.c.at + w.result = omega (arith, ap length c.rest.ensures, length-drop a.c.at a.s.now) in
    rw (← w.ensures.0) (simp (ne_eqb _ _ c.if-c-eq0.false, lt-leb _ _ h))

pub returns : goal.returns
unfolding next_at
returns c = let a = c.args in
    let w = c.width_bytes-w in
    let h : a.c.at + w.result ≤ length a.s.now = omega (arith, ap length c.rest.ensures, length-drop a.c.at a.s.now, some_bytes a.width) in
    rw (← w.ensures.0) (simp (ne_eqb _ _ c.if-c-eq0.false, le-leb _ _ h, c.number-2.ensures, le-leb _ _ w.ensures.1))
