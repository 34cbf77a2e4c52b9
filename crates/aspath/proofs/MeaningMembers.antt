-- What the tests of a member decide: that a number is in it, and that some number in it is as P says. Tests of a path stand on these laws alone.
-- Assumes nothing.
use Prim.Native.Nat.{ℕ}
use mathlib.Core.Path.{◌≡◌, refl, sym, ◌∙◌}
use mathlib.Core.Bool.{Bool, true, false}
use borrow.Author.Tests.{eqb-true, eq-eqb, ne_eqb}
use Rattle.aspath.specs.Members.{Member, number, Holds, itself, HoldsSome, member_of, holds, some_held}
use Rattle.octets.proofs.Choices.{never}

-- a number that was found in a member is in it
pub holds_sound : {m : Member} {n : ℕ} → holds m n ≡ true → Holds m n
unfolding holds
holds_sound {m = number k} {n} e = rw (eqb-true k n e) itself

-- and none is missed
pub holds_complete : {m : Member} {n : ℕ} → Holds m n → holds m n ≡ true
unfolding holds
holds_complete (itself {n}) = eq-eqb n n refl

module _ {m : Member} {n : ℕ} where
  -- a number that was not found is not in it
  pub holds_not : holds m n ≡ false → Holds m n → ⊥
  holds_not e h = never (sym e ∙ holds_complete h)

  -- and the test is false where the number is not in it
  pub not_holds : (Holds m n → ⊥) → holds m n ≡ false
  not_holds f = go (holds m n) refl
    where
      go : (b : Bool) → holds m n ≡ b → b ≡ false
      go true e = absurd (f (holds_sound e))
      go false e = refl

-- a number in a member that passes is found
pub held_at : (test : ℕ → Bool) {m : Member} {n : ℕ} → Holds m n → test n ≡ true → some_held m test ≡ true
unfolding some_held
held_at test itself e = e

module _ {test : ℕ → Bool} {P : ℕ → Type 0} where
  -- where a number that passes is as P says, a member in which one was found holds such a number
  pub held_sound : ((n : ℕ) → test n ≡ true → P n) → {m : Member} → some_held m test ≡ true → HoldsSome P m
  unfolding some_held
  held_sound f {m = number k} e = record { n = k; holds = itself; is = f k e }

  -- where a number that is as P says passes, none is missed
  pub held_complete : ((n : ℕ) → P n → test n ≡ true) → {m : Member} → HoldsSome P m → some_held m test ≡ true
  held_complete f h = held_at test h.holds (f h.n h.is)

-- ---- the member of the code's number

module _ (k : ℕ) where
  -- it holds that number
  pub same_held : {n : ℕ} → k ≡ n → holds (member_of k) n ≡ true
  unfolding holds
  same_held e = eq-eqb _ _ e

  -- and no other
  pub other_held : {n : ℕ} → (k ≡ n → ⊥) → holds (member_of k) n ≡ false
  unfolding holds
  other_held h = ne_eqb _ _ h

  -- so it is the one to test
  pub alone_held : (test : ℕ → Bool) → some_held (member_of k) test ≡ test k
  unfolding some_held
  alone_held test = refl
