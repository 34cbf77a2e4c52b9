-- What `distinct` decides: no code stands at two places. Assumes nothing.
use Prim.Native.Nat.{ℕ, zero, suc, ◌<◌, suc-le-suc}
use native.Mathlib.Nat.{le_of_suc-le-suc, not-suc-le-zero}
use native.Mathlib.Decide.{ℕ_discrete}
use native.Mathlib.Omega.{arith}
use mathlib.Core.Path.{◌≡◌, refl, sym}
use mathlib.Core.Bool.{Bool, true, false}
use mathlib.Core.List.{List, [], ◌∷◌}
use lib.ListN.{length, get_or}
use lib.Dec.{eqb}
use borrow.Author.Tests.{eq-eqb, ne_eqb}
use Rattle.attributes.specs.Codes.{Twice, elem, distinct}
use Rattle.octets.proofs.Choices.{never, alike}

-- a code stands at a place
pub record Occurs (k : ℕ) (cs : List ℕ) : Type 0 where
  pub j : ℕ
  pub within : j < length cs
  pub same : get_or cs j 0 ≡ k

-- a code that was found stands somewhere
elem_sound : (k : ℕ) (cs : List ℕ) → elem k cs ≡ true → Occurs k cs
unfolding elem
elem_sound k [] e = never e
elem_sound k (c ∷ cs) e = go (ℕ_discrete c k) (elem_sound k cs)
  where
    go : Dec (c ≡ k) → (elem k cs ≡ true → Occurs k cs) → Occurs k (c ∷ cs)
    go (yes h) ih = record { j = 0; within = omega arith; same = h }
    go (no h) ih =
        let o = ih (simp (ne_eqb _ _ h) at e) in
        record { j = suc o.j; within = suc-le-suc o.within; same = o.same }

-- a code that stands somewhere is found
elem_at : (k : ℕ) (cs : List ℕ) (j : ℕ) → j < length cs → get_or cs j 0 ≡ k → elem k cs ≡ true
unfolding elem
elem_at k [] j h e = absurd (not-suc-le-zero h)
elem_at k (c ∷ cs) zero h e = simp (eq-eqb _ _ e)
elem_at k (c ∷ cs) (suc j) h e = alike (eqb c k) refl (elem_at k cs j (le_of_suc-le-suc h) e)

-- where the codes aren't distinct, some code stands at two places
pub twice_sound : (cs : List ℕ) → distinct cs ≡ false → Twice cs
unfolding distinct
twice_sound [] e = never (sym e)
twice_sound (c ∷ cs) e = go (elem c cs) refl (twice_sound cs)
  where
    go : (b : Bool) → elem c cs ≡ b → (distinct cs ≡ false → Twice cs) → Twice (c ∷ cs)
    go true r ih =
        let o = elem_sound c cs r in
        record { i = 0; j = suc o.j; order = omega arith; within = suc-le-suc o.within; same = sym o.same }
    go false r ih =
        let t = ih (rw r at e) in
        record { i = suc t.i; j = suc t.j; order = suc-le-suc t.order; within = suc-le-suc t.within; same = t.same }

twice_at : (cs : List ℕ) (i j : ℕ) → i < j → j < length cs → get_or cs i 0 ≡ get_or cs j 0 → distinct cs ≡ false
unfolding distinct
twice_at [] i j o h e = absurd (not-suc-le-zero h)
twice_at (c ∷ cs) i zero o h e = absurd (not-suc-le-zero o)
twice_at (c ∷ cs) zero (suc j) o h e = rw (elem_at c cs j (le_of_suc-le-suc h) (sym e))
twice_at (c ∷ cs) (suc i) (suc j) o h e = alike (elem c cs) refl (twice_at cs i j (le_of_suc-le-suc o) (le_of_suc-le-suc h) e)

-- where some code stands at two places, the codes aren't distinct
pub twice_complete : {cs : List ℕ} → Twice cs → distinct cs ≡ false
twice_complete {cs} t = twice_at cs t.i t.j t.order t.within t.same
