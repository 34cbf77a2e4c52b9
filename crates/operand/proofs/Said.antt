-- What the code's answers say of what is read, by their variants; and the byte at the front. Assumes nothing.
use Prim.Native.Nat.{ℕ, ◌-◌, ◌≤◌}
use native.Mathlib.Omega.{arith}
use mathlib.Core.Path.{◌≡◌, refl, sym, ◌∙◌}
use mathlib.Core.Bool.{Bool, true, false}
use mathlib.Core.List.{List, [], ◌∷◌}
use Rattle.std.specs.Prelude.{Option, None, Some}
use Rattle.std.specs.Borrow.{Bor}
use Rattle.std.proofs.lemmas.List.{take_all}
use lib.Dec.{eqb}
use borrow.Author.Tests.{eqb-true, eq-eqb}
use Rattle.octets.proofs.Choices.{never}
use lib.ListN.{length, get_or, take, drop}
use Rattle.octets.specs.Choice.{pick}
use Rattle.operand.specs.Fronts.{Read, read, said, left, ended, after}
use Rattle.operand.proofs.Holding.{some_once}

-- a value and the bytes behind it
module _ {A : Type 0} {r : Option (A × Bor (List ℕ))} {o : Option (Read A)} (e : said r ≡ o) where
  pub said_none : r ≡ None → o ≡ None
  said_none q = sym e ∙ rw q

  pub said_some : {p : A × Bor (List ℕ)} → r ≡ Some p → o ≡ Some (read p.0 p.1.now)
  said_some q = sym e ∙ rw q

-- bytes alone
module _ {r : Option (Bor (List ℕ))} {o : Option (List ℕ)} (e : left r ≡ o) where
  pub left_none : r ≡ None → o ≡ None
  left_none q = sym e ∙ rw q

  pub left_some : {b : Bor (List ℕ)} → r ≡ Some b → o ≡ Some b.now
  left_some q = sym e ∙ rw q

-- ---- the byte at the front

-- it and those behind it are the whole
pub front_cons : (s : List ℕ) → 1 ≤ length s → s ≡ get_or s 0 0 ∷ take (length s - 1) (drop 1 s)
front_cons [] h = absurd (omega arith)
front_cons (x ∷ xs) h = rw (take_all (length (x ∷ xs) - 1) xs (omega arith))

-- there is none
pub no_front : (s : List ℕ) → length s ≤ 0 → s ≡ []
no_front [] h = refl
no_front (x ∷ xs) h = absurd (omega arith)

-- what stands behind a byte, by the byte at the front
pub after_of : (b : ℕ) {x : ℕ} {s r : List ℕ} → s ≡ x ∷ r → after b s ≡ pick (eqb x b) (Some r) None
unfolding after
after_of b e = rw e

-- where 0 stands past the end, a byte that is taken stands at the front
pub front_taken : (b : ℕ) (l : List ℕ) {r : List ℕ} → after b l ≡ Some r → (eqb (get_or l 0 0) b ≡ true) × (drop 1 l ≡ r)
unfolding after
front_taken b [] e = let z : ◌≡◌ {A = ℕ} 0 1 = cc in absurd (omega arith)
front_taken b (x ∷ xs) {r} e = go (eqb x b) e
  where
    go : (t : Bool) → pick t (Some xs) None ≡ Some r → (t ≡ true) × (xs ≡ r)
    go true f = (refl, some_once refl f)
    go false f = let z : ◌≡◌ {A = ℕ} 0 1 = cc in absurd (omega arith)

-- and one that is not stands there not
pub front_other : (b : ℕ) (l : List ℕ) → eqb 0 b ≡ false → after b l ≡ None → eqb (get_or l 0 0) b ≡ false
unfolding after
front_other b [] z e = z
front_other b (x ∷ xs) z e = go (eqb x b) e
  where
    go : (t : Bool) → pick t (Some xs) None ≡ None → t ≡ false
    go true f = let z : ◌≡◌ {A = ℕ} 0 1 = cc in absurd (omega arith)
    go false f = refl

-- ---- the end

-- nothing is left
pub ended_end : {A : Type 0} (l : List ℕ) (a : A) → length l ≡ 0 → ended l a ≡ Some a
ended_end [] a h = refl
ended_end (x ∷ xs) a h = absurd (omega arith)

-- something is
pub ended_left : {A : Type 0} (l : List ℕ) (a : A) → (length l ≡ 0 → ⊥) → ended l a ≡ None
ended_left [] a h = absurd (h refl)
ended_left (x ∷ xs) a h = refl

-- what `is_empty` says of a length
module _ (n : ℕ) {r : Bool} (e : r ≡ eqb n 0) where
  pub empty_true : r ≡ true → n ≡ 0
  empty_true t = eqb-true n 0 (sym e ∙ t)

  pub empty_false : r ≡ false → n ≡ 0 → ⊥
  empty_false f z = never (sym (sym e ∙ f) ∙ eq-eqb n 0 z)
