-- Laws of codes with a test of which are marked: whether none of them is marked, and none comes twice. Assumes nothing.
use Prim.Native.Nat.{ℕ}
use native.Mathlib.Decide.{ℕ_discrete}
use mathlib.Core.Path.{◌≡◌, refl}
use mathlib.Core.Bool.{Bool, true, false}
use mathlib.Core.List.{List, [], ◌∷◌}
use lib.Dec.{eqb}
use borrow.Author.Tests.{eq-eqb, ne_eqb}
use Rattle.octets.specs.Choice.{pick}
use Rattle.attributes.specs.Codes.{elem, distinct}

-- no code is marked
unfoldable pub unmarked : (ℕ → Bool) → List ℕ → Bool
unmarked marked [] = true
unmarked marked (c ∷ cs) = pick (marked c) false (unmarked marked cs)

-- and none comes twice
unfoldable pub fresh : (ℕ → Bool) → List ℕ → Bool
fresh marked cs = pick (unmarked marked cs) (distinct cs) false

-- after marks c as well
pub record Adds (c : ℕ) (before after : ℕ → Bool) : Type 0 where
  pub this : after c ≡ true
  pub others : (d : ℕ) → (d ≡ c → ⊥) → after d ≡ before d

-- where nothing is marked, no code is
unmarked_none : (marked : ℕ → Bool) → ((c : ℕ) → marked c ≡ false) → (cs : List ℕ) → unmarked marked cs ≡ true
unfolding unmarked
unmarked_none marked h [] = refl
unmarked_none marked h (c ∷ cs) = rw (h c) (unmarked_none marked h cs)

-- with one mark more, that code may not come
unmarked_adds : {c : ℕ} {before after : ℕ → Bool} → Adds c before after → (cs : List ℕ) → unmarked after cs ≡ pick (elem c cs) false (unmarked before cs)
unfolding unmarked elem
unmarked_adds a [] = refl
unmarked_adds {c} {before} {after} a (d ∷ ds) = go (ℕ_discrete d c) (unmarked_adds a ds)
  where
    swap : (x y r : Bool) → pick x false (pick y false r) ≡ pick y false (pick x false r)
    swap true true r = refl
    swap true false r = refl
    swap false y r = refl

    go : Dec (d ≡ c) → unmarked after ds ≡ pick (elem c ds) false (unmarked before ds)
        → pick (after d) false (unmarked after ds) ≡ pick (pick (eqb d c) true (elem c ds)) false (pick (before d) false (unmarked before ds))
    go (yes e) ih = rw (e, eq-eqb c c refl, a.this) refl
    go (no n) ih = rw (ne_eqb d c n, a.others d n, ih) (swap (before d) (elem c ds) (unmarked before ds))

-- where nothing is marked, no code may come twice
pub fresh_start : (marked : ℕ → Bool) → ((c : ℕ) → marked c ≡ false) → (cs : List ℕ) → fresh marked cs ≡ distinct cs
unfolding fresh
fresh_start marked h cs = rw (unmarked_none marked h cs) refl

-- no code is left
pub fresh_end : (marked : ℕ → Bool) → fresh marked [] ≡ true
unfolding fresh unmarked distinct
fresh_end marked = refl

-- a code that is marked comes
pub fresh_marked : (marked : ℕ → Bool) (c : ℕ) (cs : List ℕ) → marked c ≡ true → fresh marked (c ∷ cs) ≡ false
unfolding fresh unmarked
fresh_marked marked c cs e = rw e refl

-- a code that isn't comes, and is marked
pub fresh_next : {c : ℕ} {before after : ℕ → Bool} → Adds c before after → before c ≡ false → (cs : List ℕ) → fresh before (c ∷ cs) ≡ fresh after cs
unfolding fresh unmarked distinct
fresh_next {c} {before} {after} a e cs = rw (e, unmarked_adds a cs) (go (elem c cs) (unmarked before cs) (distinct cs))
  where
    go : (x y d : Bool) → pick y (pick x false d) false ≡ pick (pick x false y) d false
    go true true d = refl
    go true false d = refl
    go false y d = refl
