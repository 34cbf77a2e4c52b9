-- Laws of the codes in a record's fields: of the things they stand for, and back. Assumes nothing.
use Prim.Native.Nat.{ℕ, ◌≤◌}
use native.Mathlib.Omega.{arith}
use mathlib.Core.Path.{◌≡◌, refl, sym}
use mathlib.Core.Bool.{Bool, true, false}
use Rattle.std.specs.Prelude.{Option, Some}
use Rattle.octets.proofs.Choices.{never}
use Rattle.network.specs.declared.Relation.{Relation}
use Rattle.network.specs.declared.Relation.TheVariants.{Exact, Supernet, Subnet, Related}
use Rattle.program.specs.Readings.{Side, either_side, announced, withdrawn, Comparison, equal, below, at_most, above, at_least}
use Rattle.program.specs.Layout.{ends_code, relation_code, side_code, comparison_code, relation_is, side_is, comparison_is, is_start, is_end}
use Rattle.octets.proofs.Ranges.{within}

-- ---- each is the one that its code says

pub relation_same : (r : Relation) → relation_is (relation_code r) ≡ Some r
relation_same Exact = refl
relation_same Supernet = refl
relation_same Subnet = refl
relation_same Related = refl

pub side_same : (s : Side) → side_is (side_code s) ≡ Some s
side_same either_side = refl
side_same announced = refl
side_same withdrawn = refl

pub comparison_same : (c : Comparison) → comparison_is (comparison_code c) ≡ Some c
comparison_same equal = refl
comparison_same below = refl
comparison_same at_most = refl
comparison_same above = refl
comparison_same at_least = refl

-- ---- the codes are few

pub relation_few : (r : Relation) → relation_code r ≤ 3
relation_few Exact = omega arith
relation_few Supernet = omega arith
relation_few Subnet = omega arith
relation_few Related = omega arith

pub side_few : (s : Side) → side_code s ≤ 2
side_few either_side = omega arith
side_few announced = omega arith
side_few withdrawn = omega arith

pub comparison_few : (c : Comparison) → comparison_code c ≤ 4
comparison_few equal = omega arith
comparison_few below = omega arith
comparison_few at_most = omega arith
comparison_few above = omega arith
comparison_few at_least = omega arith

pub ends_few : (start end : Bool) → ends_code start end ≤ 3
ends_few true true = omega arith
ends_few true false = omega arith
ends_few false true = omega arith
ends_few false false = omega arith

-- ---- each of these numbers is the code of what it says

-- a number says a thing, whose code it is
pub record Coded {A : Type 0} (says : Option A) (code : A → ℕ) (n : ℕ) : Type 0 where
  pub thing : A
  pub said : says ≡ Some thing
  pub coded : code thing ≡ n

coded : {A : Type 0} {code : A → ℕ} (a : A) → Coded (Some a) code (code a)
coded a = record { thing = a; said = refl; coded = refl }

pub relation_code_lem : (v : ℕ) → v ≤ 3 → Coded (relation_is v) relation_code v
relation_code_lem v h = within 3 (λ n. Coded (relation_is n) relation_code n) v h (coded Exact) (coded Supernet) (coded Subnet) (coded Related)

pub side_code_lem : (b : ℕ) → b ≤ 2 → Coded (side_is b) side_code b
side_code_lem b h = within 2 (λ n. Coded (side_is n) side_code n) b h (coded either_side) (coded announced) (coded withdrawn)

pub comparison_code_lem : (v : ℕ) → v ≤ 4 → Coded (comparison_is v) comparison_code v
comparison_code_lem v h =
    within 4 (λ n. Coded (comparison_is n) comparison_code n) v h (coded equal) (coded below) (coded at_most) (coded above) (coded at_least)

pub ends_code_lem : (v : ℕ) → v ≤ 3 → ends_code (is_start v) (is_end v) ≡ v
ends_code_lem v h = within 3 (λ n. ends_code (is_start n) (is_end n) ≡ n) v h refl refl refl refl

-- a path with neither end pinned has variant 0
pub no_ends : (v : ℕ) → v ≤ 3 → is_start v ≡ false → is_end v ≡ false → v ≡ 0
no_ends v h = within 3 (λ n. is_start n ≡ false → is_end n ≡ false → n ≡ 0) v h (λ e f. refl) (λ e f. never (sym e)) (λ e f. never (sym f)) (λ e f. never (sym e))

-- a path of variant 0 has neither end pinned
pub ends_none : (start end : Bool) → ends_code start end ≡ 0 → (start ≡ false) × (end ≡ false)
ends_none true true e = absurd (omega arith)
ends_none true false e = absurd (omega arith)
ends_none false true e = absurd (omega arith)
ends_none false false e = (refl, refl)
