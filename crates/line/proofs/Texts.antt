-- Laws of writing texts one after another with a separator between. Assumes nothing.
use Prim.Native.Nat.{ℕ, ◌+◌, ◌≤◌}
use native.Mathlib.Nat.{lt_of_not-le}
use native.Mathlib.Decide.{dec_le}
use native.Mathlib.Omega.{arith}
use mathlib.Core.Path.{◌≡◌, ap}
use mathlib.Core.List.{List, [], ◌∷◌, ◌++◌, map, append-nil}
use lib.ListN.{length, drop, length-drop}
use Rattle.octets.specs.Writes.{last_place, Written}
use Rattle.octets.specs.Rows.{items}
use Rattle.octets.proofs.Rows.{Sizes, items_next, items_end}
use Rattle.octets.proofs.Writes.{up_to_in, up_to_out, both, nothing, kept, Midst, starts, moves, ends}
use Rattle.std.specs.Prelude.{Some, None}
use Rattle.std.specs.Iterator.{YieldsFirstBy}
use Rattle.line.specs.Field.{Gives}
use Rattle.line.specs.Text.{following, separated}

-- ---- the texts of items

-- an item that stands at a place ends at the end of the bytes or before
pub item_fits : {size : List ℕ → ℕ} → Sizes size → (l : List ℕ) {p n : ℕ} → p ≤ length l → n ≡ size (drop p l) → p + n ≤ length l
item_fits s l {p} h e = omega (arith, e, s.fits (drop p l), length-drop p l)

module _ {A : Type 0} (size : List ℕ → ℕ) (item : List ℕ → A) (text : A → List ℕ) where
  -- where an item stands, its text and those of the items after it
  pub texts_next : Sizes size → (l : List ℕ) → (size l ≡ 0 → ⊥) → map text (items size item l) ≡ text (item l) ∷ map text (items size item (drop (size l) l))
  texts_next s l n = ap (map text) (items_next size item s l n)

  -- where none stands, none
  pub texts_end : (l : List ℕ) → size l ≡ 0 → map text (items size item l) ≡ []
  texts_end l z = ap (map text) (items_end size item l z)

-- ---- writing texts

-- the place that a writer answers is one
placed_in : {l m : List ℕ} {at p : ℕ} {xs : List ℕ} → Written l at xs m p → p ≤ last_place
placed_in {l} {m} {at} {p} {xs} w = go (dec_le (at + length xs) last_place)
  where
    go : Dec (at + length xs ≤ last_place) → p ≤ last_place
    go (yes h) = omega (arith, w.place, up_to_in (at + length xs) h)
    go (no h) = omega (arith, w.place, up_to_out (at + length xs) (lt_of_not-le h))

-- after a writer anything may be left to write
pub begins : {old now rest : List ℕ} {at place : ℕ} {first : List ℕ} → Written old at first now place → Midst now place rest now place rest
begins {old} {now} {rest} {at} {place} w = starts now place rest (placed_in w) (omega (arith, kept w, w.sized))

-- the last of texts, each after a separator, is written
pub last_written : {old new : List ℕ} {at r : ℕ} (separator : ℕ) (text : List ℕ)
    → Written old at ((separator ∷ []) ++ text) new r → Written old at (following separator (text ∷ [])) new r
unfolding following
last_written separator text w = rw (append-nil text) w

module _ (separator : ℕ) {texts : List (List ℕ)} where
  -- there are none
  pub none_written : {l : List ℕ} {at : ℕ} → texts ≡ [] → at ≤ last_place → length l ≤ last_place → Written l at (separated separator texts) l at
  unfolding separated
  none_written {l} {at} e h k = rw e (nothing l at h k)

  -- one more is written
  pub next_written : {old now mid new text : List ℕ} {at place q r : ℕ} (next : List ℕ) (more : List (List ℕ)) → texts ≡ next ∷ more
      → Midst old at text now place (following separator texts) → Written now place (separator ∷ []) mid q → Written mid q next new r
      → Midst old at text new r (following separator more)
  unfolding following
  next_written next more e m v w =
      moves ((separator ∷ []) ++ next) (following separator more) (rw e at m) (both (separator ∷ []) next v w) (placed_in w)

  -- none is left: all are written
  pub all_written : {old mid now : List ℕ} {at p r : ℕ} (first : List ℕ) (more : List (List ℕ)) {left : List (List ℕ)}
      → texts ≡ first ∷ more → left ≡ [] → Written old at first mid p → Midst mid p (following separator more) now r (following separator left)
      → Written old at (separated separator texts) now r
  unfolding following separated
  all_written first more e f w m = rw e (both first (following separator more) w (ends (rw f at m)))

-- an iterator over what stands for others gives the texts of those
pub texts_given : {S A B : Type 0} (view : A → B) (rest : S → List B) (text : B → List ℕ)
    → Gives (YieldsFirstBy view rest) (λ a. text (view a)) (λ s. map text (rest s))
texts_given view rest text s None after h = (ap (map text) h.0, ap (map text) h.1)
texts_given view rest text s (Some a) after h = ap (map text) h
