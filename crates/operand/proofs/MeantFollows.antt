-- The records that follow a head, from the answer that it is meant. Assumes nothing.
use Prim.Native.Nat.{ℕ}
use native.Mathlib.Omega.{arith}
use mathlib.Core.Path.{◌≡◌, refl}
use mathlib.Core.List.{List, []}
use Rattle.std.specs.Prelude.{Option, None, Some}
use Rattle.octets.specs.Choice.{onward}
use Rattle.program.specs.Readings.{Test}
use Rattle.program.specs.Records.{Record}
use Rattle.program.specs.Compiling.{following_of}
use Rattle.operand.specs.declared.Head.{Head}
use Rattle.operand.specs.Tests.{following_meant, meant_of}

-- none where nothing is meant
pub none_follow : (o : Option Test) → None ≡ meant_of o → following_meant o ≡ []
none_follow None e = refl
none_follow (Some t) e = let z : ◌≡◌ {A = ℕ} 0 1 = cc in absurd (omega arith)

-- where a head is meant, those of the test that is made of what was read
pub some_follow : {A : Type 0} (o : Option A) (t : A → Test) {h : Head} {rs : List Record} → ((a : A) → o ≡ Some a → following_of (t a) ≡ rs)
    → Some h ≡ meant_of (onward o (λ a. Some (t a))) → following_meant (onward o (λ a. Some (t a))) ≡ rs
some_follow None t g e = let z : ◌≡◌ {A = ℕ} 0 1 = cc in absurd (omega arith)
some_follow (Some a) t g e = g a refl
