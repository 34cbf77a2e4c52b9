-- Laws of lists some member of which is as P says, and of the test for one. Assumes nothing.
use Prim.Native.Nat.{ℕ, suc, ◌+◌, ◌<◌, suc-le-suc}
use native.Mathlib.Numerals.{add-one}
use native.Mathlib.Omega.{arith}
use mathlib.Core.Path.{◌≡◌, refl}
use mathlib.Core.Bool.{Bool, true, false}
use mathlib.Core.List.{List, [], ◌∷◌, ◌++◌}
use Rattle.std.specs.Prelude.{◌||◌}
use Rattle.std.specs.List.{list_any}
use lib.ListN.{length, get_or, drop}
use lib.Seq.{drop-cons}
use Rattle.octets.specs.Choice.{pick}
use Rattle.octets.specs.Lists.{Every, every_none, every_more, SomeMember, some_here, some_there, At, at_here, at_there, some_passes}
use Rattle.octets.proofs.Choices.{never, either, second}

module _ {A : Type 0} {P : A → Type 0} where
  -- it stands at some place
  pub some_at : {xs : List A} → SomeMember P xs → (i : ℕ) × At P xs i
  some_at (some_here p) = (0, at_here p)
  some_at (some_there s) = let o = some_at s in (suc o.0, at_there o.1)

  -- what stands at a place is some member
  pub at_some : {xs : List A} {i : ℕ} → At P xs i → SomeMember P xs
  at_some (at_here p) = some_here p
  at_some (at_there s) = some_there (at_some s)

  -- a place of a list is one of it
  pub at_within : {xs : List A} {i : ℕ} → At P xs i → i < length xs
  at_within (at_here p) = omega arith
  at_within (at_there s) = suc-le-suc (at_within s)

  -- where each member is as Q says, some member is as both say
  pub some_of_every : {Q : A → Type 0} {xs : List A} → Every Q xs → SomeMember P xs → SomeMember (λ (a : A). P a × Q a) xs
  some_of_every every_none s = elim s [ ]
  some_of_every (every_more q qs) (some_here p) = some_here (p, q)
  some_of_every (every_more q qs) (some_there s) = some_there (some_of_every qs s)

-- ---- the test

module _ {A : Type 0} {test : A → Bool} {P : A → Type 0} where
  -- where a member that passes is as P says, a list in which one was found has such a member
  pub passes_sound : ((a : A) → test a ≡ true → P a) → {xs : List A} → some_passes test xs ≡ true → SomeMember P xs
  unfolding some_passes
  passes_sound f {xs = []} e = never e
  passes_sound f {xs = a ∷ xs} e = go (passes_sound f {xs = xs})
    where
      go : (some_passes test xs ≡ true → SomeMember P xs) → SomeMember P (a ∷ xs)
      go ih = either (test a) (some_passes test xs) e (λ h. some_here (f a h)) (λ h. some_there (ih h))

  -- where a member that is as P says passes, none is missed
  pub passes_complete : ((a : A) → P a → test a ≡ true) → {xs : List A} → SomeMember P xs → some_passes test xs ≡ true
  unfolding some_passes
  passes_complete f (some_here {a = a} p) = rw (f a p)
  passes_complete f (some_there {a = a} s) = second (test a) (passes_complete f s)

module _ {A : Type 0} (test : A → Bool) where
  -- no members, none passes
  pub passes_none : some_passes test [] ≡ false
  unfolding some_passes
  passes_none = refl

  -- the first passes
  pub passes_here : (a : A) (xs : List A) → test a ≡ true → some_passes test (a ∷ xs) ≡ true
  unfolding some_passes
  passes_here a xs e = rw e refl

  -- it doesn't
  pub passes_later : (a : A) (xs : List A) → test a ≡ false → some_passes test (a ∷ xs) ≡ some_passes test xs
  unfolding some_passes
  passes_later a xs e = rw e refl

  -- it is the library's test
  pub any_passes : (xs : List A) → list_any test xs ≡ some_passes test xs
  unfolding some_passes
  any_passes [] = refl
  any_passes (a ∷ xs) = rw (any_passes xs) (go (test a))
    where
      go : (b : Bool) → (b || some_passes test xs) ≡ pick b true (some_passes test xs)
      go true = refl
      go false = refl

  -- of two lists, one after the other
  pub passes_append : (xs ys : List A) → some_passes test (xs ++ ys) ≡ pick (some_passes test xs) true (some_passes test ys)
  unfolding some_passes
  passes_append [] ys = refl
  passes_append (a ∷ xs) ys = rw (passes_append xs ys) (go (test a))
    where
      go : (b : Bool) → pick b true (pick (some_passes test xs) true (some_passes test ys)) ≡ pick (pick b true (some_passes test xs)) true (some_passes test ys)
      go true = refl
      go false = refl

  -- from a place on
  pub passes_from : (xs : List A) (i : ℕ) (d : A) → i < length xs
      → some_passes test (drop i xs) ≡ pick (test (get_or xs i d)) true (some_passes test (drop (i + 1) xs))
  unfolding some_passes
  passes_from xs i d h = rw (add-one, drop-cons xs i d) refl
