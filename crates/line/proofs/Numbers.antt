-- Laws of numbers in their bytes, as text. Assumes nothing.
use Prim.Native.Nat.{ℕ, zero, suc, ◌+◌, ◌-◌, ◌*◌, ◌≤◌, ◌<◌}
use native.Mathlib.Nat.{add-zero, suc-mul}
use native.Mathlib.Numerals.{add-one}
use native.Mathlib.Omega.{arith}
use mathlib.Core.Path.{◌≡◌, refl, sym, ◌∙◌}
use mathlib.Core.List.{List, [], ◌∷◌, ◌++◌, map}
use lib.ListN.{get_or, drop}
use lib.Seq.{get_or-drop, drop-drop}
use lib.Dec.{leb}
use borrow.Author.Tests.{le-leb, eq-eqb, ne_eqb}
use Rattle.octets.specs.Choice.{pick}
use Rattle.octets.specs.Numbers.{number_at}
use Rattle.octets.specs.Decimal.{decimal}
use Rattle.octets.proofs.Numbers.{number_here, number_one}
use Rattle.aspath.specs.Wire.{numbers_in, segment_of}
use Rattle.line.specs.Text.{space, separated, numbers_text, segment_text}

-- the number read at a place is that at the front of what is left there
pub number_read : {n w : ℕ} (s : List ℕ) (p : ℕ) → w ≤ 4 → n ≡ pick (leb w 4) (number_at s p w) 0 → n ≡ number_at (drop p s) 0 w
number_read {n} {w} s p h e = e ∙ simp (le-leb _ _ h) (sym (number_here s p w))

-- the number of one byte read at a place is the byte there
pub octet_here : {n : ℕ} (s : List ℕ) (p : ℕ) → n ≡ number_at s p 1 → n ≡ get_or s p 0
octet_here s p e = e ∙ number_one s p

-- where a number is left, its text and those of the numbers after it
pub numbers_next : (w n : ℕ) (l : List ℕ) → 0 < n → map decimal (numbers_in w n l) ≡ decimal (number_at l 0 w) ∷ map decimal (numbers_in w (n - 1) (drop w l))
unfolding numbers_in
numbers_next w zero l h = absurd (omega arith)
numbers_next w (suc n) l h = let e : suc n - 1 ≡ n = omega arith in rw e refl

-- where none is left, none
pub numbers_end : (w n : ℕ) (l : List ℕ) → n ≡ 0 → map decimal (numbers_in w n l) ≡ []
unfolding numbers_in
numbers_end w n l z = rw z refl

-- the place after that of the i-th number
pub next_place : (start i w : ℕ) → start + (i + 1) * w ≡ start + i * w + w
next_place start i w = rw (add-one, suc-mul) (omega arith)

-- the texts of a segment's numbers, by the places of the whole
abbrev pub number_texts : ℕ → List ℕ → ℕ → List (List ℕ)
number_texts w s p = map decimal (numbers_in w (get_or s (p + 1) 0) (drop (p + 2) s))

module _ (w : ℕ) (s : List ℕ) (p : ℕ) where
  -- a set at a place
  pub set_text : get_or s p 0 ≡ 1 → segment_text (segment_of w (drop p s)) ≡ (123 ∷ []) ++ (separated 44 (number_texts w s p) ++ (125 ∷ []))
  unfolding segment_of numbers_text
  set_text e = rw (get_or-drop p s 0 0, add-zero p, eq-eqb _ _ e, get_or-drop p s 1 0, drop-drop 2 p s) refl

  -- a sequence at a place
  pub sequence_text : (get_or s p 0 ≡ 1 → ⊥) → segment_text (segment_of w (drop p s)) ≡ separated space (number_texts w s p)
  unfolding segment_of numbers_text
  sequence_text n = rw (get_or-drop p s 0 0, add-zero p, ne_eqb _ _ n, get_or-drop p s 1 0, drop-drop 2 p s) refl
