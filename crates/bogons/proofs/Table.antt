-- Tables whose ranges stand in order: a test of it that is computed, and what it shows. The table of bogons is one. Assumes nothing.
use Prim.Native.Nat.{ℕ, zero, suc, ◌+◌, ◌≤◌, ◌<◌}
use native.Mathlib.Omega.{arith}
use mathlib.Core.Path.{◌≡◌, refl}
use mathlib.Core.Bool.{Bool, true, false}
use mathlib.Core.List.{List, [], ◌∷◌}
use lib.Dec.{leb}
use lib.ListN.{length}
use borrow.Author.Tests.{leb-true}
use Rattle.octets.specs.Choice.{pick}
use Rattle.octets.proofs.Choices.{each}
use Rattle.bogons.specs.declared.Range.{Range}
use Rattle.bogons.specs.Bogons.{bogons}
use Rattle.bogons.specs.Search.{range_at}

-- the first range starts at n or later, ends no earlier than it starts, and the others follow from past its end on
unfoldable pub ordered : ℕ → List Range → Bool
ordered n [] = true
ordered n (r ∷ rs) = pick (leb n r.low) (pick (leb r.low r.high) (ordered (r.high + 1) rs) false) false

-- no range ends before it starts, and each starts past the end of those before it
pub record InOrder (rs : List Range) : Type 0 where
  pub proper : (i : ℕ) → i < length rs → (range_at rs i).low ≤ (range_at rs i).high
  pub apart : (i j : ℕ) → i < j → j < length rs → (range_at rs i).high < (range_at rs j).low

-- what the test asks of the first range, and of the others
first : (n : ℕ) (r : Range) (rs : List Range) → ordered n (r ∷ rs) ≡ true → (n ≤ r.low) × (r.low ≤ r.high) × (ordered (r.high + 1) rs ≡ true)
unfolding ordered
first n r rs e =
    let a = each (leb n r.low) (pick (leb r.low r.high) (ordered (r.high + 1) rs) false) e in
    let b = each (leb r.low r.high) (ordered (r.high + 1) rs) a.1 in
    (leb-true _ _ a.0, leb-true _ _ b.0, b.1)

-- every range starts at n or later
all_start : (n : ℕ) (rs : List Range) → ordered n rs ≡ true → (i : ℕ) → i < length rs → n ≤ (range_at rs i).low
all_start n [] e i h = absurd (omega arith)
all_start n (r ∷ rs) e zero h = (first n r rs e).0
all_start n (r ∷ rs) e (suc i) h = omega (arith, first n r rs e, all_start (r.high + 1) rs (first n r rs e).2 i (omega arith))

-- the test shows the order
pub in_order : (n : ℕ) (rs : List Range) → ordered n rs ≡ true → InOrder rs
in_order n rs e = record { proper = proper n rs e; apart = apart n rs e }
  where
    proper : (n : ℕ) (rs : List Range) → ordered n rs ≡ true → (i : ℕ) → i < length rs → (range_at rs i).low ≤ (range_at rs i).high
    proper n [] e i h = absurd (omega arith)
    proper n (r ∷ rs) e zero h = (first n r rs e).1
    proper n (r ∷ rs) e (suc i) h = proper (r.high + 1) rs (first n r rs e).2 i (omega arith)

    apart : (n : ℕ) (rs : List Range) → ordered n rs ≡ true → (i j : ℕ) → i < j → j < length rs → (range_at rs i).high < (range_at rs j).low
    apart n [] e i j k h = absurd (omega arith)
    apart n (r ∷ rs) e i zero k h = absurd (omega arith)
    apart n (r ∷ rs) e zero (suc j) k h = omega (arith, all_start (r.high + 1) rs (first n r rs e).2 j (omega arith))
    apart n (r ∷ rs) e (suc i) (suc j) k h = apart (r.high + 1) rs (first n r rs e).2 i j (omega arith) (omega arith)

-- the ranges of the table stand in order and apart
table_ordered : ordered 0 bogons ≡ true
unfolding ordered bogons
table_ordered = refl

pub bogons_in_order : InOrder bogons
bogons_in_order = in_order 0 bogons table_ordered
