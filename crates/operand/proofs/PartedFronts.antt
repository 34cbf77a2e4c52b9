-- What is parted by blanks, from the front on as the code goes. Assumes nothing.
use Prim.Native.Nat.{ℕ, suc, ◌+◌, ◌≤◌, ◌<◌}
use native.Mathlib.Omega.{arith}
use mathlib.Core.Path.{◌≡◌, refl, ap, ◌∙◌}
use Rattle.std.specs.Prelude.{Option, None, Some}
use mathlib.Core.List.{List, [], ◌∷◌, ◌++◌}
use lib.Dec.{ltb}
use lib.ListN.{length, length-append}
use borrow.Author.Tests.{lt-ltb, le-ltb}
use Rattle.octets.specs.Choice.{pick}
use Rattle.token.specs.Next.{is_blank}
use Rattle.operand.specs.Fronts.{Read, read, cut}
use Rattle.operand.specs.Parted.{followed, parted_read, all_parted}
use Rattle.operand.proofs.Holding.{holds_some}
use Rattle.operand.proofs.PartedLaws.{ReadsOne, cut_shorter, one_shorter, parted_fuel, parted_sound, parted_short}

module _ {A : Type 0} {R : List ℕ → A → Type 0} {one : List ℕ → Option (Read A)} {Behind : List ℕ → Type 0} (k : ReadsOne R one Behind) where
  -- none where not one stands
  pub parted_none : (l : List ℕ) → one l ≡ None → all_parted one l ≡ read [] l
  unfolding parted_read
  parted_none l e = parted_fuel k (length l) (suc (length l)) l (omega arith) (omega arith) ∙ rw e

  -- one, and those behind it
  parted_some : (l : List ℕ) {r : Read A} → one l ≡ Some r → all_parted one l ≡ followed (all_parted one) r.value (cut is_blank r.rest).value (cut is_blank r.rest).rest
  unfolding parted_read
  parted_some l {r} e =
      parted_fuel k (length l) (suc (length l)) l (omega arith) (omega arith)
      ∙ rw e (go (cut is_blank r.rest).value (cut is_blank r.rest).rest (omega (arith, cut_shorter is_blank r.rest, holds_some (one_shorter k l) e)))
    where
      go : (gap tail : List ℕ) → length tail < length l → followed (parted_read one (length l)) r.value gap tail ≡ followed (all_parted one) r.value gap tail
      go [] tail h = refl
      go (g ∷ gs) tail h = rw (parted_fuel k (length l) (length tail) tail (omega arith) (omega arith))

  -- there are no more than bytes
  pub parted_few : (l : List ℕ) → length (all_parted one l).value ≤ length l
  parted_few l = let x = parted_sound k (length l) l in omega (arith, parted_short k x.says, ap length x.joined, length-append x.text (x.behind ++ (all_parted one l).rest))

  -- one stands at the front, and behind the blanks behind it stands q
  module _ (l : List ℕ) {x : A} {behind : List ℕ} (e : one l ≡ Some (read x behind)) {q : List ℕ} (b : q ≡ (cut is_blank behind).rest) where
    found : all_parted one l ≡ followed (all_parted one) x (cut is_blank behind).value q
    found = rw b (parted_some l e)

    -- one, and those behind it if blanks stand between
    pub parted_one : let others = pick (ltb (length q) (length behind)) (all_parted one q) (read [] q) in
        all_parted one l ≡ read (x ∷ others.value) others.rest
    parted_one = found ∙ go (cut is_blank behind).value (omega (arith, cut_shorter is_blank behind, ap length b))
      where
        go : (gap : List ℕ) → length gap + length q ≡ length behind
            → let others = pick (ltb (length q) (length behind)) (all_parted one q) (read [] q) in
            followed (all_parted one) x gap q ≡ read (x ∷ others.value) others.rest
        go [] h = rw (le-ltb (length q) (length behind) (omega arith)) refl
        go (g ∷ gs) h = rw (lt-ltb (length q) (length behind) (omega arith)) refl
