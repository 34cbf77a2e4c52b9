-- What is parted by blanks, whatever one of it is: R says how one is written.
use Rattle.std.specs.Prelude.{ℕ, zero, suc, ◌≤◌, ◌≡◌, List, [], ◌∷◌, ◌++◌, length, Option, None, Some}
use Rattle.octets.specs.Lists.{Every}
use Rattle.token.specs.Texts.{Blank}
use Rattle.token.specs.Next.{is_blank}
use Rattle.operand.specs.Fronts.{Read, read, cut}

-- one or more with blanks between; or none
pub data PartedText {A : Type 0} (R : List ℕ → A → Type 0) : List ℕ → List A → Type 0 where
  empty : PartedText R [] []
  last : {bs : List ℕ} {x : A} → R bs x → PartedText R bs (x ∷ [])
  more : {bs gap rest l : List ℕ} {x y : A} {ys : List A} → R bs x → Every Blank gap → 1 ≤ length gap → PartedText R rest (y ∷ ys)
      → l ≡ bs ++ (gap ++ rest) → PartedText R l (x ∷ y ∷ ys)

-- ---- what the code computes

-- one, and those behind it if a gap stands between
abbrev pub followed : {A : Type 0} → (List ℕ → Read (List A)) → A → List ℕ → List ℕ → Read (List A)
followed rec x [] rest = read (x ∷ []) rest
followed rec x (g ∷ gs) rest = read (x ∷ (rec rest).value) (rec rest).rest

-- those from the first on, if one stands at the front
abbrev pub from_first : {A : Type 0} → (List ℕ → Read (List A)) → List ℕ → Option (Read A) → Read (List A)
from_first rec l None = read [] l
from_first rec l (Some r) = followed rec r.value (cut is_blank r.rest).value (cut is_blank r.rest).rest

-- by the reader of one
module _ {A : Type 0} (one : List ℕ → Option (Read A)) where
  -- those at the front, with blanks behind; f bounds their number
  unfoldable pub parted_read : ℕ → List ℕ → Read (List A)
  parted_read zero l = read [] l
  parted_read (suc f) l = from_first (parted_read f) l (one l)

  -- all of them
  abbrev pub all_parted : List ℕ → Read (List A)
  all_parted l = parted_read (length l) l
