-- Laws of items one after another: those read of bytes, and those that have bytes. Assumes nothing.
use Prim.Native.Nat.{ℕ, zero, suc, ◌≤◌}
use native.Mathlib.Omega.{arith}
use native.Mathlib.Decide.{ℕ_discrete}
use mathlib.Core.Path.{◌≡◌, refl, ap, ◌∙◌}
use mathlib.Core.List.{List, [], ◌∷◌, ◌++◌}
use lib.ListN.{length, drop, length-append}
use borrow.Author.Tests.{eq-eqb, ne_eqb}
use Rattle.octets.specs.Numbers.{Octets}
use Rattle.octets.specs.Lists.{Every, every_none, every_more, total}
use Rattle.octets.specs.Rows.{Joined, none, more, items_in, items}
use Rattle.octets.proofs.Bytes.{octets_none, octets_drop, octets_append}

module _ {A : Type 0} (size : List ℕ → ℕ) (item : List ℕ → A) {P : A → Type 0} (each : (l : List ℕ) → Octets l → P (item l)) where
  every_in : (f : ℕ) (l : List ℕ) → Octets l → Every P (items_in size item f l)
  unfolding items_in
  every_in zero l o = every_none
  every_in (suc f) l o = go (ℕ_discrete (size l) 0) (every_in f (drop (size l) l) (octets_drop (size l) o))
    where
      go : Dec (size l ≡ 0) → Every P (items_in size item f (drop (size l) l)) → Every P (items_in size item (suc f) l)
      go (yes e) ih = simp (eq-eqb _ _ e) every_none
      go (no n) ih = simp (ne_eqb _ _ n) (every_more (each l o) ih)

  -- where each item is as P says, so are all that are read
  pub items_every : {l : List ℕ} → Octets l → Every P (items size item l)
  items_every {l} o = every_in (length l) l o

module _ {A : Type 0} {R : A → List ℕ → Type 0} where
  -- items whose bytes are bytes are bytes when joined
  pub joined_octets : ((a : A) (bytes : List ℕ) → R a bytes → Octets bytes) → {xs : List A} {l : List ℕ} → Joined R xs l → Octets l
  joined_octets f none = octets_none
  joined_octets f (more {a = a} {bytes = bytes} x j e) = rw e (octets_append (f a bytes x) (joined_octets f j))

  -- items that have bytes each have bytes one after another
  pub joined_exist : {P : A → Type 0} {xs : List A} → ((a : A) → P a → (bytes : List ℕ) × R a bytes) → Every P xs → (bytes : List ℕ) × Joined R xs bytes
  joined_exist f every_none = ([], none)
  joined_exist f (every_more {a = a} x xs) = go (f a x) (joined_exist f xs)
    where
      go : {ys : List A} → (bytes : List ℕ) × R a bytes → (bytes : List ℕ) × Joined R ys bytes → (bytes : List ℕ) × Joined R (a ∷ ys) bytes
      go x j = (x.0 ++ j.0, more x.1 j.1 refl)

  -- joined items have the bytes of all together
  pub joined_length : (cost : A → ℕ) → ((a : A) (bytes : List ℕ) → R a bytes → length bytes ≡ cost a)
      → {xs : List A} {l : List ℕ} → Joined R xs l → length l ≡ total cost xs
  unfolding total
  joined_length cost f none = refl
  joined_length cost f (more {a = a} {bytes = bytes} {rest = rest} x j e) =
      ap length e ∙ length-append bytes rest ∙ cc (f a bytes x, joined_length cost f j)

  -- and where each costs no more than its bytes, all cost no more
  pub joined_most : (cost : A → ℕ) → ((a : A) (bytes : List ℕ) → R a bytes → cost a ≤ length bytes)
      → {xs : List A} {l : List ℕ} → Joined R xs l → total cost xs ≤ length l
  unfolding total
  joined_most cost f none = omega arith
  joined_most cost f (more {a = a} {bytes = bytes} {rest = rest} x j e) =
      omega (arith, ap length e, length-append bytes rest, f a bytes x, joined_most cost f j)

  -- what the bytes of an item say of it holds of each of joined items
  pub joined_every : {P : A → Type 0} → ((a : A) (bytes : List ℕ) → R a bytes → P a) → {xs : List A} {l : List ℕ} → Joined R xs l → Every P xs
  joined_every f none = every_none
  joined_every f (more {a = a} {bytes = bytes} x j e) = every_more (f a bytes x) (joined_every f j)

  -- items that have bytes of known lengths each have bytes one after another
  pub sized_exist : {P : A → Type 0} {cost : A → ℕ} {xs : List A}
      → ((a : A) → P a → (bytes : List ℕ) × R a bytes × (length bytes ≡ cost a))
      → Every P xs → (bytes : List ℕ) × Joined R xs bytes × (length bytes ≡ total cost xs)
  unfolding total
  sized_exist f every_none = ([], none, refl)
  sized_exist {cost = cost} f (every_more {a = a} {xs = xs} h hs) = go (f a h) (sized_exist f hs)
    where
      go : (bytes : List ℕ) × R a bytes × (length bytes ≡ cost a) → (bytes : List ℕ) × Joined R xs bytes × (length bytes ≡ total cost xs)
          → (bytes : List ℕ) × Joined R (a ∷ xs) bytes × (length bytes ≡ total cost (a ∷ xs))
      go x j = (x.0 ++ j.0, more x.1 j.1 refl, length-append x.0 j.0 ∙ cc (x.2, j.2))
