-- The verdict and what it takes, in words. The paper: "Its verdict on a record follows from the truth of its tests, with `!` as not, `-and` as both,
-- `-or` as either; true is keep. A reading's steps: a test 1; `!x` one more than x; `-and` and `-or` the left side's plus 1, plus the right side's
-- if the left didn't decide."
use Rattle.std.specs.Prelude.{Bool, true, false}
use Rattle.message.specs.Message.{Message}
use Rattle.program.specs.declared.Spent.{Spent}
use Rattle.program.specs.Spent.{one_step, together}
use Rattle.program.specs.Readings.{Test, Operator, and, or, Reading, test, neg, joint}
use Rattle.truth.specs.Means.{Means}

mutual
  -- a reading keeps a message
  pub data Keeps (m : Message) : Reading → Type 0 where
    is_true : {t : Test} → Means m t → Keeps m (test t)
    not_drops : {r : Reading} → Drops m r → Keeps m (neg r)
    both_keep : {a b : Reading} → Keeps m a → Keeps m b → Keeps m (joint and a b)
    left_keeps : {a b : Reading} → Keeps m a → Keeps m (joint or a b)
    right_keeps : {a b : Reading} → Keeps m b → Keeps m (joint or a b)

  -- a reading drops a message
  pub data Drops (m : Message) : Reading → Type 0 where
    is_false : {t : Test} → (Means m t → ⊥) → Drops m (test t)
    not_keeps : {r : Reading} → Keeps m r → Drops m (neg r)
    left_drops : {a b : Reading} → Drops m a → Drops m (joint and a b)
    right_drops : {a b : Reading} → Drops m b → Drops m (joint and a b)
    both_drop : {a b : Reading} → Drops m a → Drops m b → Drops m (joint or a b)

-- true is keep, false is drop
abbrev pub HasVerdict : Message → Reading → Bool → Type 0
HasVerdict m r true = Keeps m r
HasVerdict m r false = Drops m r

-- ---- what is spent

-- the left side of a joint decides: `-and` where it drops, `-or` where it keeps
pub data Decides (m : Message) : Operator → Reading → Type 0 where
  and_dropped : {a : Reading} → Drops m a → Decides m and a
  or_kept : {a : Reading} → Keeps m a → Decides m or a

-- it doesn't
pub data Undecided (m : Message) : Operator → Reading → Type 0 where
  and_kept : {a : Reading} → Keeps m a → Undecided m and a
  or_dropped : {a : Reading} → Drops m a → Undecided m or a

-- a reading spends so much on a message
pub data Spends (m : Message) : Reading → Spent → Type 0 where
  of_test : {t : Test} → Spends m (test t) one_step
  of_not : {r : Reading} {s : Spent} → Spends m r s → Spends m (neg r) (together s one_step)
  of_left : {o : Operator} {a b : Reading} {s : Spent} → Spends m a s → Decides m o a → Spends m (joint o a b) (together s one_step)
  of_both : {o : Operator} {a b : Reading} {s k : Spent} → Spends m a s → Undecided m o a → Spends m b k
      → Spends m (joint o a b) (together (together s one_step) k)
