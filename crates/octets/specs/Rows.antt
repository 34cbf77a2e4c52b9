-- Items that stand one after another: prefixes, segments, attributes, numbers.
use Rattle.std.specs.Prelude.{ℕ, zero, suc, ◌≡◌, Bool, true, false, List, [], ◌∷◌, ◌++◌, length, drop, eqb, Option, Some, None}
use Rattle.octets.specs.Choice.{pick}

-- the bytes are those of the items, joined in their order; R says which bytes are an item's
pub data Joined {A : Type 0} (R : A → List ℕ → Type 0) : List A → List ℕ → Type 0 where
  none : Joined R [] []
  more : {a : A} {more_items : List A} {bytes rest joined : List ℕ}
      → R a bytes → Joined R more_items rest → joined ≡ bytes ++ rest → Joined R (a ∷ more_items) joined

-- ---- what the code computes

-- a number of bytes where an item stands, and none where 0 says that none does
abbrev pub sized : ℕ → Option ℕ
sized zero = None
sized (suc n) = Some (suc n)

-- Reading such bytes: size is the number of bytes of the item at the front, 0 where none stands there whole; f bounds the items.

unfoldable pub whole_in : (List ℕ → ℕ) → ℕ → List ℕ → Bool
whole_in size zero l = eqb (length l) 0
whole_in size (suc f) l = pick (eqb (length l) 0) true (pick (eqb (size l) 0) false (whole_in size f (drop (size l) l)))

-- the bytes are items to their end
abbrev pub whole : (List ℕ → ℕ) → List ℕ → Bool
whole size l = whole_in size (length l) l

unfoldable pub items_in : {A : Type 0} → (List ℕ → ℕ) → (List ℕ → A) → ℕ → List ℕ → List A
items_in size item zero l = []
items_in size item (suc f) l = pick (eqb (size l) 0) [] (item l ∷ items_in size item f (drop (size l) l))

-- the items up to the end, or up to the first that isn't whole
abbrev pub items : {A : Type 0} → (List ℕ → ℕ) → (List ℕ → A) → List ℕ → List A
items size item l = items_in size item (length l) l
