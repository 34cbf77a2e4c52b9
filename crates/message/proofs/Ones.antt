-- Laws of a run of bytes 0xFF: what `ones` decides, and a byte at a time. Assumes nothing.
use Prim.Native.Nat.{ℕ, suc, zero}
use Rattle.message.specs.Decode.{ones}
use Rattle.octets.specs.Choice.{pick}
use Rattle.octets.proofs.Choices.{never, each}
use borrow.Author.Tests.{eq-eqb, eqb-true, ne_eqb}
use lib.Dec.{eqb}
use lib.ListN.{take, replicate}
use lib.Pointwise.{pointwise}
use mathlib.Core.Bool.{false, true}
use mathlib.Core.List.{List, [], ◌∷◌}
use mathlib.Core.Path.{◌≡◌, refl, sym}
use native.Mathlib.Decide.{ℕ_discrete}

-- where the test holds, they are
pub ones_sound : (n : ℕ) (l : List ℕ) → ones n l ≡ true → take n l ≡ replicate n 255
unfolding ones
ones_sound zero l e = refl
ones_sound (suc n) [] e = never e
ones_sound (suc n) (b ∷ l) e =
    let x = each (eqb b 255) (ones n l) e in
    cc (eqb-true b 255 x.0, ones_sound n l x.1)

-- where they are, the test holds
pub ones_complete : (n : ℕ) (l : List ℕ) → take n l ≡ replicate n 255 → ones n l ≡ true
unfolding ones
ones_complete zero l e = refl
ones_complete (suc n) [] e = let z : true ≡ false = cc in never (sym z)
ones_complete (suc n) (b ∷ l) e =
    let h : b ≡ 255 = cc in
    let t : take n l ≡ replicate n 255 = cc in
    simp (eq-eqb _ _ h) (ones_complete n l t)

-- it is what the comparison with as many bytes 0xFF finds
pub ones_equal : (n : ℕ) (l : List ℕ) → pointwise eqb (replicate n 255) (take n l) ≡ ones n l
unfolding ones
ones_equal zero l = refl
ones_equal (suc n) [] = refl
ones_equal (suc n) (b ∷ l) = go (ℕ_discrete b 255) (ones_equal n l)
  where
    go : Dec (b ≡ 255) → pointwise eqb (replicate n 255) (take n l) ≡ ones n l
        → pointwise eqb (replicate (suc n) 255) (b ∷ take n l) ≡ pick (eqb b 255) (ones n l) false
    go (yes e) h = rw e h
    go (no k) h = simp (ne_eqb _ _ k, ne_eqb _ _ (λ (e : 255 ≡ b). k (sym e)))
