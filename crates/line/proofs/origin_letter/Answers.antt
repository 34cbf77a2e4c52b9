-- `line::origin_letter` meets its contract, number by number. Assumes nothing.
use native.Mathlib.Omega.{arith}
use mathlib.Core.Path.{◌≡◌}
use borrow.Author.Tests.{eq-eqb, ne_eqb}
use Rattle.line.specs.Line.{origin_text}
use Rattle.line.proofs.origin_letter.Goals as goal

pub returns-in-0 : goal.returns-in-0
unfolding origin_text
returns-in-0 c = simp (eq-eqb _ _ c.in-0.is)

pub returns-in-1 : goal.returns-in-1
unfolding origin_text
returns-in-1 c = let z : c.args.n ≡ 0 → ⊥ = λ e. omega (arith, c.in-1.is) in
    simp (ne_eqb _ _ z, eq-eqb _ _ c.in-1.is)

pub returns-in_default : goal.returns-in_default
unfolding origin_text
returns-in_default c = simp (ne_eqb c.args.n 0 (λ e. omega arith), ne_eqb c.args.n 1 (λ e. omega arith))
