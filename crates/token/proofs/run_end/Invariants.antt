-- `token::run_end` meets its contract. The loop's invariant: the run from here on ends where the run does. Assumes nothing.
use Prim.Native.Nat.{ℕ}
use mathlib.Core.Bool.{Bool}
use mathlib.Core.Path.{◌≡◌}
use Rattle.token.specs.Next.{Computes, run_end}
use Rattle.token.specs.contracts.run_end.F-Fn as passing
use Rattle.token.proofs.run_end.Given as goal

abbrev pub invariant-loop-n : goal.invariant-loop-n
invariant-loop-n g l = (test : ℕ → Bool) → Computes ((passing.words g.row.F g.F.Fn).post l.passes) test
    → run_end test l.text l.n ≡ run_end test l.text l.at
