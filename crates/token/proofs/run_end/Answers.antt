-- `token::run_end` meets its contract. Assumes nothing.
use Prim.Native.Nat.{◌≤◌}
use native.Mathlib.Omega.{arith}
use native.Mathlib.Decide.{dec_le}
use mathlib.Core.Path.{◌≡◌, sym, ◌∙◌}
use lib.ListN.{length}
use Rattle.token.specs.Next.{run_end}
use Rattle.token.proofs.Runs.{end_on, end_off, end_past}
use Rattle.token.proofs.run_end.Goals as goal

pub returns-then-not-passes : goal.returns-then-not-passes
returns-then-not-passes g c = λ test answers. let l = c.loop-n in
    sym (end_off test c.args.text.now l.n (omega arith) (sym (answers _ _ c.passes.ensures) ∙ c.if-not-passes.true)) ∙ l.invariant test answers

pub loop-n-preserved : goal.loop-n-preserved
loop-n-preserved g c = λ test answers. let l = c.loop-n in
    end_on test c.args.text.now l.n (omega arith) (sym (answers _ _ c.passes.ensures) ∙ c.if-not-passes.false) ∙ l.invariant test answers

pub returns : goal.returns
returns g c = λ test answers. let l = c.loop-n in
    let text = c.args.text.now in
    let at = c.args.at in
    let whole : at ≤ length text → c.max.result ≡ run_end test text at
    = λ h. omega (arith, c.max.ensures, l.auto.n-end h) ∙ sym (end_past test text l.n (omega arith)) ∙ l.invariant test answers in
    let behind : (at ≤ length text → ⊥) → c.max.result ≡ run_end test text at
    = λ h. omega (arith, c.max.ensures) ∙ sym (end_past test text at (omega arith)) in
    elim (dec_le at (length text)) [ yes h ↦ whole h | no h ↦ behind h ]
