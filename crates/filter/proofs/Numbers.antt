-- The numbers of refusals of a text: 1 to 8, and each is that of one refusal. Assumes nothing.
use Prim.Native.Nat.{ℕ, ◌-◌, ◌≤◌}
use native.Mathlib.Omega.{arith}
use mathlib.Core.Path.{◌≡◌, refl, sym, ap, ◌∙◌}
use mathlib.Core.List.{List, [], ◌∷◌}
use lib.ListN.{get_or}
use Rattle.filter.specs.declared.Refusal.{Refusal}
use Rattle.filter.specs.declared.Refusal.TheVariants.{Length, Byte, Quote, Token, Operand, Level, Weight, Room}
use Rattle.filter.specs.Answers.{number_of}

pub number_between : (why : Refusal) → (1 ≤ number_of why) × (number_of why ≤ 8)
unfolding number_of
number_between Length = omega arith
number_between Byte = omega arith
number_between Quote = omega arith
number_between Token = omega arith
number_between Operand = omega arith
number_between Level = omega arith
number_between Weight = omega arith
number_between Room = omega arith

-- the refusals in the order of their numbers
abbrev refusals : List Refusal
refusals = Length ∷ Byte ∷ Quote ∷ Token ∷ Operand ∷ Level ∷ Weight ∷ Room ∷ []

number_place : (why : Refusal) → get_or refusals (number_of why - 1) Length ≡ why
unfolding number_of
number_place Length = refl
number_place Byte = refl
number_place Quote = refl
number_place Token = refl
number_place Operand = refl
number_place Level = refl
number_place Weight = refl
number_place Room = refl

-- so the numbers tell the refusals apart
pub number_one : (why other : Refusal) → number_of why ≡ number_of other → why ≡ other
number_one why other e = sym (number_place why) ∙ ap (λ (n : ℕ). get_or refusals (n - 1) Length) e ∙ number_place other
