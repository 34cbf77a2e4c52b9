-- `token::unclosed` meets its contract. The loop's invariant: the quote that isn't closed from here on is the text's. Assumes nothing.
use Prim.Native.Nat.{◌-◌, ◌≤◌}
use mathlib.Core.Path.{◌≡◌}
use lib.ListN.{length}
use Rattle.token.specs.Next.{lex_from, unclosed_in, unclosed_at}
use Rattle.token.proofs.unclosed.Given as goal

abbrev pub invariant-loop-at : goal.invariant-loop-at
invariant-loop-at l = (l.at ≤ length l.text) × (unclosed_in (lex_from l.text l.at) (length l.text) ≡ unclosed_at l.text)

abbrev pub decreases-loop-at : goal.decreases-loop-at
decreases-loop-at l = length l.text - l.at
