-- What the writers that others are given do, and the iterators.
use Rattle.std.specs.Prelude.{ℕ, List, Option}
use Rattle.std.specs.Borrow.{MutBor}
use Rattle.std.specs.Iterator.{YieldsFirstBy}
use Rattle.octets.specs.Writes.{Written}

-- each call of a writer lays the text of what it is given over the buffer
abbrev pub Writes : {A : Type 0} → (MutBor (List ℕ) → ℕ → A → ℕ → MutBor (List ℕ) → Type 0) → (A → List ℕ) → Type 0
Writes {A} call text =
    (out : MutBor (List ℕ)) (at : ℕ) (item : A) (next : ℕ) (after : MutBor (List ℕ))
    → call out at item next after → Written out.now at (text item) after.now next

-- each call of an iterator gives the item of the first text that is left
abbrev pub Gives : {S A : Type 0} → (S → Option A → S → Type 0) → (A → List ℕ) → (S → List (List ℕ)) → Type 0
Gives {S} {A} step text left = (s : S) (item : Option A) (after : S) → step s item after → YieldsFirstBy text left s item after
