-- `attributes::body_right` meets its contract: an arm for each code that is looked at. Assumes nothing.
use mathlib.Core.Path.{refl}
use native.Mathlib.Omega.{arith}
use borrow.Author.Tests.{eq-eqb, ne_eqb}
use Rattle.attributes.specs.Attribute.{origin_code, as_path_code, next_hop_code, atomic_aggregate_code, aggregator_code, communities_code}
use Rattle.attributes.specs.Bodies.{body_right}
use Rattle.attributes.proofs.body_right.Goals as goal

pub returns-then-body-ne-ORIGIN_SIZE : goal.returns-then-body-ne-ORIGIN_SIZE
unfolding body_right
returns-then-body-ne-ORIGIN_SIZE c = rw c.in-1.is (simp (ne_eqb _ _ c.if-body-ne-ORIGIN_SIZE.true))

pub returns-else-body-ne-ORIGIN_SIZE : goal.returns-else-body-ne-ORIGIN_SIZE
unfolding body_right
returns-else-body-ne-ORIGIN_SIZE c = rw c.in-1.is (simp (eq-eqb _ _ c.if-body-ne-ORIGIN_SIZE.false))

pub returns-in-2 : goal.returns-in-2
unfolding body_right
returns-in-2 c = rw c.in-2.is c.well_formed-in-2.ensures

pub returns-in-3 : goal.returns-in-3
unfolding body_right
returns-in-3 c = rw c.in-3.is refl

pub returns-in-6 : goal.returns-in-6
unfolding body_right
returns-in-6 c = rw c.in-6.is refl

pub returns-in-7 : goal.returns-in-7
unfolding body_right
returns-in-7 c = rw (c.in-7.is, c.width_bytes.ensures.0) refl

pub returns-in-8 : goal.returns-in-8
unfolding body_right
returns-in-8 c = rw c.in-8.is c.well_formed-in-8.ensures

pub returns-in_default : goal.returns-in_default
unfolding body_right
returns-in_default c =
    simp (
      ne_eqb c.args.code origin_code (λ e. omega arith),
      ne_eqb c.args.code as_path_code (λ e. omega arith),
      ne_eqb c.args.code next_hop_code (λ e. omega arith),
      ne_eqb c.args.code atomic_aggregate_code (λ e. omega arith),
      ne_eqb c.args.code aggregator_code (λ e. omega arith),
      ne_eqb c.args.code communities_code (λ e. omega arith),
    )
