-- Answers that may be missing, and what holds of them. Assumes nothing.
use Prim.Native.Nat.{ℕ}
use native.Mathlib.Omega.{arith}
use mathlib.Core.Path.{◌≡◌, refl}
use mathlib.Core.Bool.{Bool, true, false}
use Rattle.std.specs.Prelude.{Option, None, Some}
use Rattle.octets.specs.Choice.{pick, or_else, onward}

-- an answer, if there is one, is so
pub data AnswerHolds {A : Type 0} (P : A → Type 0) : Option A → Type 0 where
  nothing : AnswerHolds P None
  held : {a : A} → P a → AnswerHolds P (Some a)

-- what is so of an answer wherever it is given
pub holds_of : {A : Type 0} {P : A → Type 0} (o : Option A) → ((a : A) → o ≡ Some a → P a) → AnswerHolds P o
holds_of None f = nothing
holds_of (Some a) f = held (f a refl)

-- what goes on from what holds holds
pub holds_onward : {A B : Type 0} {P : A → Type 0} {Q : B → Type 0} {o : Option A} {f : A → Option B} → AnswerHolds P o → ((a : A) → P a → AnswerHolds Q (f a)) → AnswerHolds Q (onward o f)
holds_onward nothing g = nothing
holds_onward (held {a} h) g = g a h

-- the first of two answers that hold holds
pub holds_else : {A : Type 0} {P : A → Type 0} {o p : Option A} → AnswerHolds P o → AnswerHolds P p → AnswerHolds P (or_else o p)
holds_else nothing g = g
holds_else (held h) g = held h

-- a choice of what holds holds
pub holds_pick : {A : Type 0} {P : A → Type 0} (b : Bool) {o p : Option A} → (b ≡ true → AnswerHolds P o) → (b ≡ false → AnswerHolds P p) → AnswerHolds P (pick b o p)
holds_pick true f g = f refl
holds_pick false f g = g refl

-- an answer that was given is so
pub holds_some : {A : Type 0} {P : A → Type 0} {a : A} {o : Option A} → AnswerHolds P o → o ≡ Some a → P a
holds_some nothing e = let z : ◌≡◌ {A = ℕ} 0 1 = cc in absurd (omega arith)
holds_some {P = P} {a = a} (held {a = b} h) e = let z : b ≡ a = cc in rw z at h

-- what holds of an answer may be put otherwise
pub holds_map : {A : Type 0} {P Q : A → Type 0} {o : Option A} → ((a : A) → P a → Q a) → AnswerHolds P o → AnswerHolds Q o
holds_map f nothing = nothing
holds_map f (held {a} h) = held (f a h)

-- an answer has one value
pub some_once : {A : Type 0} {a b : A} {o : Option A} → o ≡ Some a → o ≡ Some b → a ≡ b
some_once p q = cc
