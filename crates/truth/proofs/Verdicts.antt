-- The verdict of a reading on a message is the one in words. Assumes nothing.
use mathlib.Core.Path.{◌≡◌, refl, sym, ◌∙◌}
use mathlib.Core.Bool.{Bool, true, false, not}
use mathlib.Core.Logic.{◌↔◌}
use Rattle.octets.proofs.Choices.{never}
use Rattle.message.specs.Message.{Message}
use Rattle.program.specs.Readings.{Test, Operator, and, or, joins, Reading, test, neg, joint, verdict}
use Rattle.truth.specs.Means.{test_holds}
use Rattle.truth.specs.Verdict.{Keeps, is_true, not_drops, both_keep, left_keeps, right_keeps, Drops, is_false, not_keeps, left_drops, right_drops, both_drop, HasVerdict}
use Rattle.truth.proofs.Addresses.{PrefixesAddressed, OperandAddressed, OperandsAddressed}
use Rattle.truth.proofs.Meanings.{means_sound, means_complete}

-- no reading both keeps and drops a message
pub never_both : {m : Message} (r : Reading) → Keeps m r → Drops m r → ⊥
never_both (test t) (is_true x) (is_false f) = f x
never_both (neg r) (not_drops d) (not_keeps k) = never_both r k d
never_both (joint and a b) (both_keep k l) (left_drops d) = never_both a k d
never_both (joint and a b) (both_keep k l) (right_drops d) = never_both b l d
never_both (joint or a b) (left_keeps k) (both_drop d e) = never_both a k d
never_both (joint or a b) (right_keeps k) (both_drop d e) = never_both b k e

-- so it has one verdict at most
one_verdict : (m : Message) (r : Reading) (b c : Bool) → HasVerdict m r b → HasVerdict m r c → b ≡ c
one_verdict m r true true k l = refl
one_verdict m r true false k d = absurd (never_both r k d)
one_verdict m r false true d k = absurd (never_both r k d)
one_verdict m r false false d e = refl

-- `!` turns a verdict
judged_not : (m : Message) (r : Reading) (t : Bool) → HasVerdict m r t → HasVerdict m (neg r) (not t)
judged_not m r true k = not_keeps k
judged_not m r false d = not_drops d

-- `-and` and `-or` join two
judged_joint : (m : Message) (o : Operator) (a b : Reading) (t u : Bool)
    → HasVerdict m a t → HasVerdict m b u → HasVerdict m (joint o a b) (joins o t u)
judged_joint m and a b true true x y = both_keep x y
judged_joint m and a b true false x y = right_drops y
judged_joint m and a b false u x y = left_drops x
judged_joint m or a b true u x y = left_keeps x
judged_joint m or a b false true x y = right_keeps y
judged_joint m or a b false false x y = both_drop x y

module _ {m : Message} (prefixes : PrefixesAddressed m) where
  -- a test is true or not
  judged_test : (t : Test) → OperandAddressed t → (b : Bool) → test_holds m t ≡ b → HasVerdict m (test t) b
  judged_test t h true e = is_true (means_sound m t e)
  judged_test t h false e = is_false (λ x. never (sym e ∙ means_complete prefixes h x))

  -- a reading keeps or drops a message, as its verdict says
  judged : (r : Reading) → OperandsAddressed r → HasVerdict m r (verdict (test_holds m) r)
  unfolding verdict
  judged (test t) h = judged_test t h (test_holds m t) refl
  judged (neg r) h = judged_not m r (verdict (test_holds m) r) (judged r h)
  judged (joint o a b) h = judged_joint m o a b (verdict (test_holds m) a) (verdict (test_holds m) b) (judged a h.0) (judged b h.1)

  module _ (r : Reading) (operands : OperandsAddressed r) where
    -- a verdict is true exactly where the reading keeps the message, and false exactly where it drops it
    pub verdict_exactly : {b : Bool} → (verdict (test_holds m) r ≡ b) ↔ HasVerdict m r b
    verdict_exactly {b} = (λ e. rw e at (judged r operands), one_verdict m r (verdict (test_holds m) r) b (judged r operands))
