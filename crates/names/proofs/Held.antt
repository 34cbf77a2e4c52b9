-- A word compared with those of a table, as the code holds it, one after another. Assumes nothing.
use Prim.Native.Nat.{ℕ, ◌+◌, ◌<◌}
use native.Mathlib.Numerals.{add-one}
use mathlib.Core.Path.{◌≡◌, sym, ◌∙◌}
use mathlib.Core.Bool.{Bool, true, false}
use mathlib.Core.List.{List}
use Rattle.std.specs.Prelude.{Some}
use lib.ListN.{length, get_or, drop}
use lib.Seq.{drop-cons}
use Rattle.octets.specs.Equal.{same}
use Rattle.names.specs.Tables.{found}
use Rattle.names.specs.Held.{table_of}
use Rattle.std.specs.Borrow.{Bor}

-- at the row r of a place, by the answer b of a comparison
module _ {A : Type 0} (rows : List (Bor (List ℕ) × A)) (r : Bor (List ℕ) × A) (i : ℕ) (w : List ℕ) {b : Bool}
    (h : i < length rows) (at : r ≡ get_or rows i r) (e : b ≡ same w r.0.now) where
  -- it has this word
  pub here : b ≡ true → found (table_of (drop i rows)) w ≡ Some r.1
  unfolding found
  here t = rw (drop-cons rows i r, ← at, sym e ∙ t)

  -- it has another
  pub further : b ≡ false → found (table_of (drop i rows)) w ≡ found (table_of (drop (i + 1) rows)) w
  unfolding found
  further f = rw (drop-cons rows i r, ← at, sym e ∙ f, add-one)
