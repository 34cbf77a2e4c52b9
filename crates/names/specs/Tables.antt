-- Tables of words: each row a word and what it stands for.
use Rattle.std.specs.Prelude.{ℕ, List, [], ◌∷◌, eqb, Option, None, Some}
use Rattle.octets.specs.Choice.{pick}
use Rattle.octets.specs.Equal.{same}

-- a word and its value
pub record Row (A : Type 0) : Type 0 where
  pub word : List ℕ
  pub value : A

-- both together
abbrev pub row : {A : Type 0} → List ℕ → A → Row A
row w a = record { word = w; value = a }

-- some row of the table has this word and this value
pub data In {A : Type 0} : List (Row A) → List ℕ → A → Type 0 where
  here : {r : Row A} {rows : List (Row A)} → In (r ∷ rows) r.word r.value
  there : {r : Row A} {rows : List (Row A)} {w : List ℕ} {a : A} → In rows w a → In (r ∷ rows) w a

-- the word of the first row with a value
unfoldable pub name_of : List (Row ℕ) → ℕ → Option (List ℕ)
name_of [] v = None
name_of (r ∷ rs) v = pick (eqb r.value v) (Some r.word) (name_of rs v)

-- ---- what the code computes

-- the value of the first row with a word
unfoldable pub found : {A : Type 0} → List (Row A) → List ℕ → Option A
found [] w = None
found (r ∷ rs) w = pick (same w r.word) (Some r.value) (found rs w)
