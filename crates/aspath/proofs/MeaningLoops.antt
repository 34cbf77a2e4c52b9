-- What `has_loop` decides: some number returns after a member without it. Assumes nothing.
use Prim.Native.Nat.{ℕ, suc, ◌<◌, suc-le-suc}
use native.Mathlib.Nat.{le_of_suc-le-suc, not-suc-le-zero}
use native.Mathlib.Omega.{arith}
use mathlib.Core.Path.{◌≡◌, refl, ◌∙◌}
use mathlib.Core.Bool.{Bool, true, false}
use mathlib.Core.List.{List, [], ◌∷◌}
use Rattle.octets.specs.Lists.{At, at_here, at_there, some_passes}
use Rattle.octets.proofs.Choices.{never, either, second}
use Rattle.octets.proofs.Some.{some_at, at_some, passes_sound, passes_complete}
use Rattle.aspath.specs.Members.{Member, Holds, HoldsSome, holds, some_held}
use Rattle.aspath.specs.Loops.{Loop, returns_in, has_loop}
use Rattle.aspath.proofs.MeaningMembers.{holds_sound, holds_complete, holds_not, not_holds, held_at, held_sound}

-- the number is in a member, and isn't
abbrev In : ℕ → Member → Type 0
In n m = Holds m n

abbrev Out : ℕ → Member → Type 0
Out n m = Holds m n → ⊥

-- the number is in the member at j, after one without it at k
record Returns (n : ℕ) (path : List Member) : Type 0 where
  k : ℕ
  j : ℕ
  after : k < j
  away : At (Out n) path k
  returns : At (In n) path j

-- once a member without the number has been passed, it returns where some member holds it
passed : (n : ℕ) (path : List Member) → returns_in true n path ≡ some_passes (λ m. holds m n) path
unfolding returns_in some_passes
passed n [] = refl
passed n (m ∷ ms) = rw (passed n ms)

-- a number that was found to return does
returns_sound : (n : ℕ) (path : List Member) → returns_in false n path ≡ true → Returns n path
unfolding returns_in
returns_sound n [] e = never e
returns_sound n (m ∷ ms) e = go (holds m n) refl (returns_sound n ms)
  where
    go : (b : Bool) → holds m n ≡ b → (returns_in false n ms ≡ true → Returns n ms) → Returns n (m ∷ ms)
    go true h ih =
        let o = ih (rw h at e) in
        record { k = suc o.k; j = suc o.j; after = suc-le-suc o.after; away = at_there o.away; returns = at_there o.returns }
    go false h ih =
        let o = some_at (passes_sound (λ m. holds_sound) (rw (h, passed n ms) at e)) in
        record { k = 0; j = suc o.0; after = omega arith; away = at_here (holds_not h); returns = at_there o.1 }

-- a loop that was found is one
pub loop_sound : {path : List Member} → has_loop path ≡ true → Loop path
unfolding has_loop
loop_sound {path = []} e = never e
loop_sound {path = m ∷ ms} e = go loop_sound
  where
    here : HoldsSome (λ n. Returns n ms) m → Loop (m ∷ ms)
    here h =
        let o = h.is in
        record {
          n = h.n;
          i = 0;
          k = suc o.k;
          j = suc o.j;
          before = omega arith;
          after = suc-le-suc o.after;
          leaves = at_here h.holds;
          away = at_there o.away;
          returns = at_there o.returns;
        }

    later : Loop ms → Loop (m ∷ ms)
    later o = record {
      n = o.n;
      i = suc o.i;
      k = suc o.k;
      j = suc o.j;
      before = suc-le-suc o.before;
      after = suc-le-suc o.after;
      leaves = at_there o.leaves;
      away = at_there o.away;
      returns = at_there o.returns;
    }

    go : (has_loop ms ≡ true → Loop ms) → Loop (m ∷ ms)
    go ih =
        either
        (some_held m (λ n. returns_in false n ms))
        (has_loop ms)
        e
        (λ h. here (held_sound (λ n. returns_sound n ms) h))
        (λ h. later (ih h))

-- no member that holds the number is missed
occurs_complete : (n : ℕ) {path : List Member} {j : ℕ} → At (In n) path j → returns_in true n path ≡ true
occurs_complete n {path} x = passed n path ∙ passes_complete (λ m. holds_complete) (at_some x)

-- no return is missed
returns_complete : (n : ℕ) {path : List Member} {k j : ℕ} → k < j → At (Out n) path k → At (In n) path j → returns_in false n path ≡ true
unfolding returns_in
returns_complete n a f (at_here x) = absurd (not-suc-le-zero a)
returns_complete n a (at_here f) (at_there x) = rw (not_holds f) (occurs_complete n x)
returns_complete n a (at_there {a = m} f) (at_there x) =
    rw (returns_complete n (le_of_suc-le-suc a) f x) (second (holds m n) (occurs_complete n x))

-- a loop by its places is found
loop_at : (n : ℕ) {path : List Member} {i k j : ℕ} → i < k → k < j → At (In n) path i → At (Out n) path k → At (In n) path j → has_loop path ≡ true
unfolding has_loop
loop_at n a b x f (at_here y) = absurd (not-suc-le-zero b)
loop_at n a b x (at_here f) (at_there y) = absurd (not-suc-le-zero a)
loop_at n a b (at_here {xs = ms} x) (at_there f) (at_there y) =
    rw (held_at (λ n. returns_in false n ms) x (returns_complete n (le_of_suc-le-suc b) f y))
loop_at n a b (at_there {a = m} {xs = ms} x) (at_there f) (at_there y) =
    second (some_held m (λ n. returns_in false n ms)) (loop_at n (le_of_suc-le-suc a) (le_of_suc-le-suc b) x f y)

-- and no loop is missed
pub loop_complete : {path : List Member} → Loop path → has_loop path ≡ true
loop_complete o = loop_at o.n o.before o.after o.leaves o.away o.returns
