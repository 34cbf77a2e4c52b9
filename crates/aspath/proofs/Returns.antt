-- Laws of the search for a number that returns after another. Assumes nothing.
use Prim.Native.Nat.{ℕ}
use mathlib.Core.Path.{◌≡◌, refl}
use mathlib.Core.Bool.{Bool, true, false}
use mathlib.Core.List.{List, [], ◌∷◌}
use Rattle.aspath.specs.Members.{Member, holds, some_held}
use Rattle.aspath.specs.Loops.{returns_in, has_loop}

module _ (n : ℕ) where
  -- nothing returns where no members follow
  pub returns_end : (other : Bool) → returns_in other n [] ≡ false
  unfolding returns_in
  returns_end other = refl

  module _ (m : Member) (ms : List Member) where
    -- a member without the number has been passed
    pub returns_other : (other : Bool) → holds m n ≡ false → returns_in other n (m ∷ ms) ≡ returns_in true n ms
    unfolding returns_in
    returns_other other h = rw h refl

    -- the number is back after another
    pub returns_found : holds m n ≡ true → returns_in true n (m ∷ ms) ≡ true
    unfolding returns_in
    returns_found h = rw h refl

    -- the number is prepended once more
    pub returns_same : holds m n ≡ true → returns_in false n (m ∷ ms) ≡ returns_in false n ms
    unfolding returns_in
    returns_same h = rw h refl

-- no members have no loop
pub loop_none : has_loop [] ≡ false
unfolding has_loop
loop_none = refl

module _ (m : Member) (ms : List Member) where
  -- some number in the first member returns
  pub loop_here : some_held m (λ n. returns_in false n ms) ≡ true → has_loop (m ∷ ms) ≡ true
  unfolding has_loop
  loop_here e = rw e refl

  -- none does
  pub loop_later : some_held m (λ n. returns_in false n ms) ≡ false → has_loop (m ∷ ms) ≡ has_loop ms
  unfolding has_loop
  loop_later e = rw e refl
