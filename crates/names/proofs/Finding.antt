-- Finding a word in a table. Assumes nothing.
use Prim.Native.Nat.{ℕ, zero, suc, ◌<◌}
use native.Mathlib.Omega.{arith}
use mathlib.Core.Path.{◌≡◌, refl}
use mathlib.Core.Bool.{Bool, true, false}
use Rattle.std.specs.Prelude.{Option, None, Some}
use mathlib.Core.List.{List, [], ◌∷◌}
use lib.ListN.{length, get_or}
use lib.Dec.{eqb}
use borrow.Author.Tests.{eqb-true}
use Rattle.octets.specs.Choice.{pick, otherwise}
use Rattle.octets.specs.Equal.{same}
use Rattle.octets.proofs.Choices.{never, each}
use Rattle.octets.specs.Lists.{Every, every_none, every_more}
use Rattle.octets.proofs.Equals.{same_true, same_itself}
use Rattle.names.specs.Tables.{Row, In, here, there, name_of, found}

-- there is no answer
abbrev pub missing : {A : Type 0} → Option A → Bool
missing None = true
missing (Some a) = false

module _ {A : Type 0} where
  -- no two rows have the same word
  unfoldable pub distinct : List (Row A) → Bool
  distinct [] = true
  distinct (r ∷ rs) = pick (missing (found rs r.word)) (distinct rs) false

  -- what is found stands in the table
  pub found_sound : (rows : List (Row A)) (w : List ℕ) {a : A} → found rows w ≡ Some a → In rows w a
  unfolding found
  found_sound [] w e = let z : ◌≡◌ {A = ℕ} 0 1 = cc in absurd (omega arith)
  found_sound (r ∷ rs) w {a} e = go (same w r.word) (same_true w r.word) (found_sound rs w) e
    where
      go : (b : Bool) → (b ≡ true → w ≡ r.word) → (found rs w ≡ Some a → In rs w a) → pick b (Some r.value) (found rs w) ≡ Some a → In (r ∷ rs) w a
      go true f ih e = let z : r.value ≡ a = cc in rw (f refl, ← z) here
      go false f ih e = there (ih e)

  -- and where the words differ, what stands there is found
  pub found_row : {rows : List (Row A)} {w : List ℕ} {a : A} → distinct rows ≡ true → In rows w a → found rows w ≡ Some a
  unfolding found distinct
  found_row t (here {r}) = rw (same_itself r.word)
  found_row t (there {r} {rows} {w} {a} x) =
      go (each (missing (found rows r.word)) (distinct rows) t) (λ u. found_row u x) (same w r.word) (same_true w r.word)
    where
      go : (missing (found rows r.word) ≡ true) × (distinct rows ≡ true) → (distinct rows ≡ true → found rows w ≡ Some a)
          → (b : Bool) → (b ≡ true → w ≡ r.word) → pick b (Some r.value) (found rows w) ≡ Some a
      go m ih false f = ih m.1
      go m ih true f =
          let e : found rows r.word ≡ Some a = rw (← f refl) (ih m.1) in
          never (rw e at m.0)

  -- what holds of each row holds of each word and its value
  pub in_each : (P : List ℕ → A → Type 0) {rows : List (Row A)} → Every (λ (r : Row A). P r.word r.value) rows → {w : List ℕ} {a : A} → In rows w a → P w a
  in_each P every_none x = elim x [ ]
  in_each P (every_more p ps) here = p
  in_each P (every_more p ps) (there x) = in_each P ps x

  -- the row at a place stands in the table; d stands past the end
  pub in_place : (rows : List (Row A)) (d : Row A) (i : ℕ) → i < length rows → In rows (get_or rows i d).word (get_or rows i d).value
  in_place [] d i h = absurd (omega arith)
  in_place (r ∷ rs) d zero h = here
  in_place (r ∷ rs) d (suc i) h = there (in_place rs d i (omega arith))

-- ---- the word of a value

-- what holds of each word of a value and of another text holds of the first such word, or else of that text
pub named_each : (P : List ℕ → Type 0) (v : ℕ) {rows : List (Row ℕ)} {text : List ℕ} → Every (λ (r : Row ℕ). r.value ≡ v → P r.word) rows → P text
    → P (otherwise (name_of rows v) text)
unfolding name_of
named_each P v every_none q = q
named_each P v {text = text} (every_more {a = r} {xs = rs} p ps) q = go (eqb r.value v) (eqb-true r.value v) (named_each P v ps q)
  where
    go : (b : Bool) → (b ≡ true → r.value ≡ v) → P (otherwise (name_of rs v) text) → P (otherwise (pick b (Some r.word) (name_of rs v)) text)
    go true f ih = p (f refl)
    go false f ih = ih
