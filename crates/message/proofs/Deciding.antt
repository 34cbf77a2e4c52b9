-- Tests that decide conditions. Assumes nothing.
use mathlib.Core.Path.{◌≡◌, refl, sym, ◌∙◌}
use mathlib.Core.Bool.{Bool, true, false}
use Rattle.octets.specs.Choice.{pick}
use Rattle.octets.proofs.Choices.{never}

-- a test is true just where a condition holds
pub record Decides (b : Bool) (P : Type 0) : Type 0 where
  pub sound : b ≡ true → P
  pub complete : P → b ≡ true

-- where the test is false, the condition doesn't hold
pub decides_false : {b : Bool} {P : Type 0} → Decides b P → b ≡ false → P → ⊥
decides_false d e p = never (sym e ∙ d.complete p)

-- where the condition doesn't hold, the test is false
pub decides_not : {b : Bool} {P : Type 0} → Decides b P → (P → ⊥) → b ≡ false
decides_not {b = true} d n = absurd (n (d.sound refl))
decides_not {b = false} d n = refl

-- where a choice falls back on true, the test fails or what is chosen holds
pub unless : {P : Type 0} (a b : Bool) → pick a b true ≡ true → (a ≡ false → P) → (b ≡ true → P) → P
unless true b e f g = g e
unless false b e f g = f refl

-- a choice between what is the same is that
pub settled : {A : Type 0} (b : Bool) (x : A) → pick b x x ≡ x
settled true x = refl
settled false x = refl

-- where a choice rules a test out, the test fails and the other holds
pub without : (a b : Bool) → pick a false b ≡ true → (a ≡ false) × (b ≡ true)
without true b e = never e
without false b e = (refl, e)

-- where not both of two tests hold, the first fails, or it holds and the second fails
pub not_both : {P : Type 0} (a b : Bool) → pick a b false ≡ false → (a ≡ false → P) → (a ≡ true → b ≡ false → P) → P
not_both true b e f g = g refl e
not_both false b e f g = f refl
