-- What a reading spends on a message is what is said in words. Assumes nothing.
use Prim.Native.Nat.{◌≤◌}
use native.Mathlib.Nat.{add-zero}
use native.Mathlib.Omega.{arith}
use mathlib.Core.Path.{◌≡◌, refl}
use mathlib.Core.Bool.{Bool, true, false}
use mathlib.Core.Logic.{◌↔◌}
use Rattle.octets.specs.Choice.{pick}
use Rattle.message.specs.Message.{Message}
use Rattle.program.specs.declared.Spent.{Spent}
use Rattle.program.specs.Spent.{nothing, one_step, together}
use Rattle.program.specs.Readings.{Operator, and, or, open', Reading, test, neg, joint, weight, verdict, spent}
use Rattle.truth.specs.Means.{test_holds}
use Rattle.truth.specs.Verdict.{HasVerdict, Decides, and_dropped, or_kept, Undecided, and_kept, or_dropped}
use Rattle.truth.specs.Verdict.{Spends, of_test, of_not, of_left, of_both}
use Rattle.truth.proofs.Addresses.{PrefixesAddressed, OperandsAddressed}
use Rattle.truth.proofs.Verdicts.{never_both, verdict_exactly}

-- no left side both decides and doesn't
never_decided : {m : Message} {o : Operator} {a : Reading} → Decides m o a → Undecided m o a → ⊥
never_decided (and_dropped d) (and_kept k) = never_both _ k d
never_decided (or_kept k) (or_dropped d) = never_both _ k d

-- a reading spends one thing at most
pub spends_once : {m : Message} (r : Reading) {s k : Spent} → Spends m r s → Spends m r k → s ≡ k
spends_once (test t) of_test of_test = refl
spends_once (neg r) (of_not s) (of_not t) = rw (spends_once r s t)
spends_once (joint o a b) (of_left s d) (of_left t e) = rw (spends_once a s t)
spends_once (joint o a b) (of_left s d) (of_both t u v) = absurd (never_decided d u)
spends_once (joint o a b) (of_both s u v) (of_left t d) = absurd (never_decided d u)
spends_once (joint o a b) (of_both s u v) (of_both t w x) = rw (spends_once a s t, spends_once b v x)

-- never more steps than it weighs
pub few_steps : {m : Message} {r : Reading} {s : Spent} → Spends m r s → s.steps ≤ weight r
unfolding weight
few_steps of_test = omega arith
few_steps (of_not s) = omega (arith, few_steps s)
few_steps (of_left s d) = omega (arith, few_steps s)
few_steps (of_both s u t) = omega (arith, few_steps s, few_steps t)

-- what `-and` and `-or` spend, by the left side's verdict
spends_joint : {m : Message} (o : Operator) {a b : Reading} {s k : Spent} (t : Bool)
    → HasVerdict m a t → Spends m a s → Spends m b k → Spends m (joint o a b) (together (together s one_step) (pick (open' o t) k nothing))
spends_joint and true v s t = of_both s (and_kept v) t
spends_joint and false v s t = rw add-zero (of_left s (and_dropped v))
spends_joint or true v s t = rw add-zero (of_left s (or_kept v))
spends_joint or false v s t = of_both s (or_dropped v) t

module _ {m : Message} (prefixes : PrefixesAddressed m) where
  -- a reading spends what is computed
  spends_it : (r : Reading) → OperandsAddressed r → Spends m r (spent (test_holds m) r)
  unfolding spent
  spends_it (test t) h = of_test
  spends_it (neg r) h = of_not (spends_it r h)
  spends_it (joint o a b) h =
      spends_joint o (verdict (test_holds m) a) ((verdict_exactly prefixes a h.0).0 refl) (spends_it a h.0) (spends_it b h.1)

  -- and nothing else
  pub spends_exactly : (r : Reading) → OperandsAddressed r → {s : Spent} → (spent (test_holds m) r ≡ s) ↔ Spends m r s
  spends_exactly r h = (λ e. rw e at (spends_it r h), spends_once r (spends_it r h))
