-- Laws of items that stand one after another: reading them back, and that their bytes have one reading. Assumes nothing.
use Prim.Native.Nat.{ℕ, zero, suc, ◌+◌, ◌-◌, ◌*◌, ◌≤◌, ◌<◌}
use native.Mathlib.Nat.{mul-add}
use native.Mathlib.Decide.{ℕ_discrete}
use native.Mathlib.Omega.{arith}
use mathlib.Core.Path.{◌≡◌, refl, sym, ap, ◌∙◌}
use mathlib.Core.Bool.{true, false}
use mathlib.Core.List.{List, [], ◌∷◌, ◌++◌}
use lib.ListN.{length, take, drop, length-drop, take-append-drop}
use Rattle.std.specs.Prelude.{Option, Some, None}
use Rattle.std.proofs.lemmas.List.{take_rest}
use lib.Seq.{drop_at, drop-drop}
use lib.Dec.{eqb}
use borrow.Author.Tests.{eq-eqb, ne_eqb}
use Rattle.octets.specs.Numbers.{Octets}
use Rattle.octets.specs.Lists.{total}
use Rattle.octets.specs.Rows.{Joined, none, more, sized, whole_in, whole, items_in, items}
use Rattle.octets.proofs.Bytes.{octets_drop}

-- an item has no more bytes than there are
pub record Sizes (size : List ℕ → ℕ) : Type 0 where
  pub fits : (l : List ℕ) → size l ≤ length l

-- the size that is there, and is not 0
pub record Sized (n k : ℕ) : Type 0 where
  pub same : n ≡ k
  pub some : n ≡ 0 → ⊥

-- an answer that is there
pub sized_some : {n k : ℕ} → Some k ≡ sized n → Sized n k
sized_some {n = zero} e = let z : ◌≡◌ {A = ℕ} 0 1 = cc in absurd (omega arith)
sized_some {n = suc n} e = record { same = cc; some = λ z. omega arith }

-- one that is not
pub sized_none : {n : ℕ} → None ≡ sized n → n ≡ 0
sized_none {n = zero} e = refl
sized_none {n = suc n} e = cc

-- and back
pub some_sized : {n : ℕ} → (n ≡ 0 → ⊥) → sized n ≡ Some n
some_sized {n = zero} h = absurd (h refl)
some_sized {n = suc n} h = refl

module _ (size : List ℕ → ℕ) where
  -- where an item stands, fewer bytes are left after it
  shorter : (f : ℕ) (l : List ℕ) → length l ≤ suc f → (size l ≡ 0 → ⊥) → length (drop (size l) l) ≤ f
  shorter f l h n = simp length-drop (omega arith)

  end_whole : (f : ℕ) (l : List ℕ) → length l ≡ 0 → whole_in size f l ≡ true
  unfolding whole_in
  end_whole zero l z = eq-eqb _ _ z
  end_whole (suc f) l z = simp (eq-eqb _ _ z)

  -- the bound on the items doesn't matter to the test where it is at least the number of bytes
  whole_fuel : (f g : ℕ) (l : List ℕ) → length l ≤ f → length l ≤ g → whole_in size f l ≡ whole_in size g l
  unfolding whole_in
  whole_fuel zero g l h k = end_whole zero l (omega arith) ∙ sym (end_whole g l (omega arith))
  whole_fuel (suc f) zero l h k = end_whole (suc f) l (omega arith) ∙ sym (end_whole zero l (omega arith))
  whole_fuel (suc f) (suc g) l h k = go (ℕ_discrete (size l) 0) (whole_fuel f g (drop (size l) l))
    where
      go : Dec (size l ≡ 0)
          → (length (drop (size l) l) ≤ f → length (drop (size l) l) ≤ g → whole_in size f (drop (size l) l) ≡ whole_in size g (drop (size l) l))
          → whole_in size (suc f) l ≡ whole_in size (suc g) l
      go (yes e) ih = simp (eq-eqb _ _ e)
      go (no n) ih = rw (ih (shorter f l h n) (shorter g l k n))

  -- no bytes are items to their end
  pub whole_end : (l : List ℕ) → length l ≡ 0 → whole size l ≡ true
  whole_end l z = end_whole (length l) l z

  more_whole : (l : List ℕ) → whole size l ≡ whole_in size (suc (length l)) l
  more_whole l = whole_fuel (length l) (suc (length l)) l (omega arith) (omega arith)

  -- bytes with no item at their front are not items to their end
  pub whole_bad : (l : List ℕ) → 0 < length l → size l ≡ 0 → whole size l ≡ false
  unfolding whole_in
  whole_bad l h z =
      let n : length l ≡ 0 → ⊥ = λ e. omega arith in
      more_whole l ∙ simp (ne_eqb _ _ n, eq-eqb _ _ z)

  -- bytes with an item at their front are items to their end just where those after it are
  pub whole_next : Sizes size → (l : List ℕ) → (size l ≡ 0 → ⊥) → whole size l ≡ whole size (drop (size l) l)
  unfolding whole_in
  whole_next s l n =
      let m : length l ≡ 0 → ⊥ = λ e. n (omega (arith, s.fits l)) in
      let left = drop (size l) l in
      more_whole l ∙ simp (ne_eqb _ _ m, ne_eqb _ _ n) (whole_fuel (length l) (length left) left (shorter (length l) l (omega arith) n) (omega arith))

  -- the item of k bytes that stands at a place
  pub record Step (s : List ℕ) (at k : ℕ) : Type 0 where
    pub same : size (drop at s) ≡ k
    pub some : size (drop at s) ≡ 0 → ⊥
    pub onward : 0 < k
    pub fits : at + k ≤ length s
    pub next : drop (size (drop at s)) (drop at s) ≡ drop (at + k) s

  module _ (x : Sizes size) (s : List ℕ) (at : ℕ) where
    -- it does where that is the size there
    pub step : {k : ℕ} → Some k ≡ sized (size (drop at s)) → Step s at k
    step {k} e =
        let f = sized_some e in
        record {
          same = f.same;
          some = f.some;
          onward = omega (arith, f.same, f.some);
          fits = omega (arith, f.same, f.some, x.fits (drop at s), length-drop at s);
          next = rw f.same (drop-drop k at s);
        }

    -- bytes are items to their end from a place on just where they are from the place after the item there
    pub whole_step : {k : ℕ} → Some k ≡ sized (size (drop at s)) → whole size (drop (at + k) s) ≡ whole size (drop at s)
    whole_step e = let y = step e in sym (whole_next x (drop at s) y.some ∙ ap (whole size) y.next)

    -- where no item stands they are just where nothing is left
    pub whole_stop : at ≤ length s → None ≡ sized (size (drop at s)) → eqb at (length s) ≡ whole size (drop at s)
    whole_stop h e = go (ℕ_discrete at (length s))
      where
        go : Dec (at ≡ length s) → eqb at (length s) ≡ whole size (drop at s)
        go (yes z) = eq-eqb _ _ z ∙ sym (whole_end (drop at s) (simp length-drop (omega arith)))
        go (no n) = ne_eqb _ _ n ∙ sym (whole_bad (drop at s) (simp length-drop (omega arith)) (sized_none e))

  module _ {A : Type 0} (item : List ℕ → A) where
    end_items : (f : ℕ) (l : List ℕ) → size l ≡ 0 → items_in size item f l ≡ []
    unfolding items_in
    end_items zero l z = refl
    end_items (suc f) l z = simp (eq-eqb _ _ z)

    -- where no item stands, there are no items
    pub items_end : (l : List ℕ) → size l ≡ 0 → items size item l ≡ []
    items_end l z = end_items (length l) l z

    -- the bound on the items doesn't matter to them where it is at least the number of bytes
    pub items_fuel : Sizes size → (f g : ℕ) (l : List ℕ) → length l ≤ f → length l ≤ g → items_in size item f l ≡ items_in size item g l
    unfolding items_in
    items_fuel s zero g l h k = sym (end_items g l (omega (arith, s.fits l)))
    items_fuel s (suc f) zero l h k = end_items (suc f) l (omega (arith, s.fits l))
    items_fuel s (suc f) (suc g) l h k = go (ℕ_discrete (size l) 0) (items_fuel s f g (drop (size l) l))
      where
        go : Dec (size l ≡ 0)
            → (length (drop (size l) l) ≤ f → length (drop (size l) l) ≤ g → items_in size item f (drop (size l) l) ≡ items_in size item g (drop (size l) l))
            → items_in size item (suc f) l ≡ items_in size item (suc g) l
        go (yes e) ih = simp (eq-eqb _ _ e)
        go (no n) ih = rw (ih (shorter f l h n) (shorter g l k n))

    -- where an item stands, the items are it and those after it
    pub items_next : Sizes size → (l : List ℕ) → (size l ≡ 0 → ⊥) → items size item l ≡ item l ∷ items size item (drop (size l) l)
    unfolding items_in
    items_next s l n =
        let left = drop (size l) l in
        items_fuel s (length l) (suc (length l)) l (omega arith) (omega arith)
        ∙ simp (ne_eqb _ _ n, items_fuel s (length l) (length left) left (shorter (length l) l (omega arith) n) (omega arith))

    -- the same, by the size that is there and the part from it to the end
    pub items_taken : Sizes size → (l : List ℕ) {k : ℕ} → Some k ≡ sized (size l) → items size item l ≡ item l ∷ items size item (take (length l - k) (drop k l))
    items_taken s l {k} e =
        let f = sized_some e in
        rw (take_rest l k) (items_next s l f.some ∙ rw f.same refl)

module _ {A : Type 0} (size : List ℕ → ℕ) (item : List ℕ → A) (s : Sizes size) (cost : A → ℕ) (k : ℕ)
    (each : (l : List ℕ) → (size l ≡ 0 → ⊥) → cost (item l) ≤ k * size l) where
  cost_in : (f : ℕ) (l : List ℕ) → total cost (items_in size item f l) ≤ k * length l
  unfolding total items_in
  cost_in zero l = omega arith
  cost_in (suc f) l = go (ℕ_discrete (size l) 0) (cost_in f (drop (size l) l))
    where
      go : Dec (size l ≡ 0) → total cost (items_in size item f (drop (size l) l)) ≤ k * length (drop (size l) l)
          → total cost (items_in size item (suc f) l) ≤ k * length l
      go (yes e) ih = simp (eq-eqb _ _ e) (omega arith)
      go (no n) ih =
          let e : k * (size l + length (drop (size l) l)) ≡ k * length l = ap (λ (m : ℕ). k * m) (simp length-drop (omega (arith, s.fits l))) in
          simp (ne_eqb _ _ n) (omega (arith, each l n, mul-add k (size l) (length (drop (size l) l))))

  -- where each item costs at most k for each of its bytes, all of them cost at most k for each byte
  pub items_cost : (l : List ℕ) → total cost (items size item l) ≤ k * length l
  items_cost l = cost_in (length l) l

-- how items are read: size and item find at the front just those bytes that R says are an item's
pub record Reads {A : Type 0} (R : A → List ℕ → Type 0) (size : List ℕ → ℕ) (item : List ℕ → A) : Type 0 where
  pub fits : (l : List ℕ) → size l ≤ length l
  pub some : {a : A} {bytes : List ℕ} → R a bytes → 0 < length bytes
  pub exact : {a : A} {bytes : List ℕ} → R a bytes → (rest : List ℕ) → size (bytes ++ rest) ≡ length bytes
  pub same : {a : A} {bytes : List ℕ} → R a bytes → (rest : List ℕ) → item (bytes ++ rest) ≡ a
  pub sound : (l : List ℕ) → Octets l → (size l ≡ 0 → ⊥) → R (item l) (take (size l) l)

module _ {A : Type 0} {R : A → List ℕ → Type 0} {size : List ℕ → ℕ} {item : List ℕ → A} (r : Reads R size item) where
  -- such sizes fit
  reads_sizes : Sizes size
  reads_sizes = record { fits = r.fits }

  stands : {a : A} {bytes : List ℕ} → R a bytes → (rest : List ℕ) → size (bytes ++ rest) ≡ 0 → ⊥
  stands x rest z = omega (arith, r.some x, r.exact x rest)

  after : {a : A} {bytes : List ℕ} → R a bytes → (rest : List ℕ) → drop (size (bytes ++ rest)) (bytes ++ rest) ≡ rest
  after {a} {bytes} x rest = drop_at bytes rest (size (bytes ++ rest)) (sym (r.exact x rest))

  -- joined items are items to their end
  pub joined_whole : {xs : List A} {l : List ℕ} → Joined R xs l → whole size l ≡ true
  joined_whole none = whole_end size [] refl
  joined_whole (more {bytes = bytes} {rest = rest} x j e) =
      ap (whole size) e ∙ whole_next size reads_sizes (bytes ++ rest) (stands x rest) ∙ ap (whole size) (after x rest) ∙ joined_whole j

  -- joined items are read back
  pub joined_items : {xs : List A} {l : List ℕ} → Joined R xs l → items size item l ≡ xs
  joined_items none = items_end size item [] (omega (arith, r.fits []))
  joined_items (more {bytes = bytes} {rest = rest} x j e) =
      ap (items size item) e ∙ items_next size item reads_sizes (bytes ++ rest) (stands x rest)
      ∙ cc (r.same x rest, ap (items size item) (after x rest), joined_items j)

  none_joined : (l : List ℕ) → size l ≡ 0 → whole size l ≡ true → Joined R (items size item l) l
  none_joined [] z w = rw (items_end size item [] z) none
  none_joined (b ∷ l) z w =
      let e : ◌≡◌ {A = ℕ} 0 1 = cc (whole_bad size (b ∷ l) (omega arith) z) in
      absurd (omega arith)

  joined_in : (f : ℕ) (l : List ℕ) → length l ≤ f → Octets l → whole size l ≡ true → Joined R (items size item l) l
  joined_in zero l h o w = none_joined l (omega (arith, r.fits l)) w
  joined_in (suc f) l h o w = go (ℕ_discrete (size l) 0) (joined_in f (drop (size l) l))
    where
      go : Dec (size l ≡ 0)
          → (length (drop (size l) l) ≤ f → Octets (drop (size l) l) → whole size (drop (size l) l) ≡ true → Joined R (items size item (drop (size l) l)) (drop (size l) l))
          → Joined R (items size item l) l
      go (yes e) ih = none_joined l e w
      go (no n) ih =
          rw (items_next size item reads_sizes l n)
          (more (r.sound l o n) (ih (shorter size f l h n) (octets_drop (size l) o) (sym (whole_next size reads_sizes l n) ∙ w)) (sym (take-append-drop (size l) l)))

  -- bytes that are items to their end are the items read, joined
  pub whole_joined : {l : List ℕ} → Octets l → whole size l ≡ true → Joined R (items size item l) l
  whole_joined {l} o w = joined_in (length l) l (omega arith) o w

  -- bytes are joined items in one way only
  pub joined_one : {xs ys : List A} {l : List ℕ} → Joined R xs l → Joined R ys l → xs ≡ ys
  joined_one j k = sym (joined_items j) ∙ joined_items k
