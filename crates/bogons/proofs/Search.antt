-- Laws of the search of a table whose ranges stand in order: how many comparisons it makes, and that it finds a number exactly when some range holds
-- it. Assumes nothing.
use Prim.Native.Nat.{ℕ, zero, suc, ◌+◌, ◌≤◌, ◌<◌, max}
use native.Mathlib.Omega.{arith}
use native.Mathlib.Decide.{dec_lt}
use mathlib.Core.Path.{◌≡◌, refl, sym}
use mathlib.Core.Bool.{Bool, true, false}
use mathlib.Core.List.{List, [], ◌∷◌}
use lib.Dec.{leb, ltb}
use lib.ListN.{length}
use borrow.Author.Tests.{leb-true, le-leb, ltb-true, ltb-false, lt-ltb, le-ltb}
use Rattle.octets.specs.Choice.{pick}
use Rattle.octets.specs.Lists.{SomeMember, some_here, some_there}
use Rattle.octets.proofs.Choices.{never}
use Rattle.bogons.specs.declared.Range.{Range}
use Rattle.bogons.specs.declared.Lookup.{Lookup}
use Rattle.bogons.specs.Bogons.{Within, Bogon, bogons, is_bogon}
use Rattle.bogons.specs.Search.{range_at, after, counted, compare, Tree, leaf, node, size, search, pair, nine, bogon_search}
use Rattle.bogons.specs.Search.{most_comparisons, pair_holds}
use Rattle.bogons.proofs.Meaning.{bogon_sound, bogon_complete}
use Rattle.bogons.proofs.Table.{InOrder, bogons_in_order}

-- what follows whichever way a comparison turned out
compared : (P : Lookup → Type 0) (told : Bool) {a b : Lookup} → (told ≡ true → P a) → (told ≡ false → P b) → P (pick told a b)
compared P true f g = f refl
compared P false f g = g refl

module _ {P : Range → Type 0} where
  -- a range at a place is some range
  at_some : (rs : List Range) (i : ℕ) → i < length rs → P (range_at rs i) → SomeMember P rs
  at_some [] i h p = absurd (omega arith)
  at_some (r ∷ rs) zero h p = some_here p
  at_some (r ∷ rs) (suc i) h p = some_there (at_some rs i (omega arith) p)

  -- some range stands at a place
  some_at : {rs : List Range} → SomeMember P rs → (i : ℕ) × (i < length rs) × P (range_at rs i)
  some_at (some_here p) = (0, omega arith, p)
  some_at (some_there s) = let o = some_at s in (suc o.0, omega (arith, o.1), o.2)

-- a tree has a leaf
some_leaf : (t : Tree) → 1 ≤ size t
unfolding size
some_leaf leaf = omega arith
some_leaf (node a b) = omega (arith, some_leaf a)

-- the nodes above its deepest leaf
unfoldable depth : Tree → ℕ
depth leaf = 0
depth (node a b) = max (depth a) (depth b) + 1

module _ (n : ℕ) (rs : List Range) where
  -- ---- how many comparisons

  -- one for each node on the way, and one more
  search_count : (t : Tree) (at : ℕ) → (search t n rs at).comparisons ≤ depth t + 1
  unfolding search depth
  search_count leaf at = compared (λ l. l.comparisons + 1 ≤ 1) (leb n (range_at rs at).high) (λ e. omega arith) (λ e. omega arith)
  search_count (node a b) at =
      compared (λ l. l.comparisons + 1 ≤ max (depth a) (depth b) + 1 + 1) (ltb n (range_at rs (at + size a)).low)
      (λ e. omega (arith, search_count a at)) (λ e. omega (arith, search_count b (at + size a)))

  -- ---- one comparison

  -- with the high bound of the only range that is left
  pub last_bound : (at : ℕ) → after 1 (leb n (range_at rs at).high) ≡ search leaf n rs at
  unfolding search
  last_bound at = go (leb n (range_at rs at).high)
    where
      go : (told : Bool) → after 1 told ≡ compare told (after 0 true) (after 0 false)
      go true = refl
      go false = refl

  module _ (a b : Tree) (at : ℕ) {l : Lookup} where
    -- with the low bound between the parts, and the number is below it
    pub first_part : n < (range_at rs (at + size a)).low → l ≡ search a n rs at → counted l ≡ search (node a b) n rs at
    unfolding search
    first_part h e = rw (e, lt-ltb n (range_at rs (at + size a)).low h)

    -- it isn't
    pub second_part : (range_at rs (at + size a)).low ≤ n → l ≡ search b n rs (at + size a) → counted l ≡ search (node a b) n rs at
    unfolding search
    second_part h e = rw (e, le-ltb n (range_at rs (at + size a)).low h)

  -- two ranges
  pub pair_search : (at : ℕ) → after 2 (pair_holds n (range_at rs at) (range_at rs (at + 1))) ≡ search pair n rs at
  unfolding search size
  pair_search at = rw (← last_bound at, ← last_bound (at + 1)) (go (ltb n (range_at rs (at + 1)).low) _ _)
    where
      go : (told x y : Bool) → after 2 (pick told x y) ≡ compare told (after 1 x) (after 1 y)
      go true x y = refl
      go false x y = refl

  -- ---- a number that is found lies in some range

  search_sound : (t : Tree) (at : ℕ) → at + size t ≤ length rs → (range_at rs at).low ≤ n → (search t n rs at).found ≡ true → SomeMember (Within n) rs
  unfolding search size
  search_sound leaf at h l =
      compared (λ a. a.found ≡ true → SomeMember (Within n) rs) (leb n (range_at rs at).high)
      (λ t e. at_some rs at (omega arith) (record { above = l; below = leb-true _ _ t })) (λ t e. never e)
  search_sound (node a b) at h l =
      compared (λ a. a.found ≡ true → SomeMember (Within n) rs) (ltb n (range_at rs (at + size a)).low)
      (λ t. search_sound a at (omega arith) l) (λ t. search_sound b (at + size a) (omega arith) (ltb-false _ _ t))

-- ---- one that lies in a range is found, by the order of the table

module _ (n : ℕ) (rs : List Range) (o : InOrder rs) (i : ℕ) (h : i < length rs) (w : Within n (range_at rs i)) where
  -- a low bound above the number is that of a later range
  later : (j : ℕ) → j < length rs → n < (range_at rs j).low → i < j
  later j k b = go (dec_lt i j) (dec_lt j i)
    where
      go : Dec (i < j) → Dec (j < i) → i < j
      go (yes x) y = x
      go (no x) (yes y) = absurd (omega (arith, w.above, o.proper j k, o.apart j i y h))
      go (no x) (no y) = let e : i ≡ j = omega arith in absurd (omega (arith, w.above, rw (← e) at b))

  -- one that isn't above it is that of no later range
  not_later : (j : ℕ) → j < length rs → (range_at rs j).low ≤ n → j ≤ i
  not_later j k b = go (dec_lt i j)
    where
      go : Dec (i < j) → j ≤ i
      go (yes x) = absurd (omega (arith, w.below, o.apart i j x k))
      go (no x) = omega arith

  search_complete : (t : Tree) (at : ℕ) → at + size t ≤ length rs → at ≤ i → i < at + size t → (search t n rs at).found ≡ true
  unfolding search size
  search_complete leaf at k from to =
      let e : at ≡ i = omega arith in
      rw (e, le-leb n (range_at rs i).high w.below)
  search_complete (node a b) at k from to =
      let more = some_leaf b in
      compared (λ l. l.found ≡ true) (ltb n (range_at rs (at + size a)).low)
      (λ t. search_complete a at (omega arith) from (later (at + size a) (omega arith) (ltb-true _ _ t)))
      (λ t. search_complete b (at + size a) (omega arith) (not_later (at + size a) (omega arith) (ltb-false _ _ t)) (omega arith))

-- ---- the table of bogons

module _ {n : ℕ} where
  -- a number that is found is a bogon
  pub found_bogon : (bogon_search n).found ≡ true → Bogon n
  unfolding bogon_search bogons size
  found_bogon e = record { listed = search_sound n bogons nine 0 (omega arith) (omega arith) e }

  -- and none is missed
  pub bogon_found : Bogon n → (bogon_search n).found ≡ true
  unfolding bogon_search bogons size
  bogon_found b =
      let x = some_at b.listed in
      search_complete n bogons bogons_in_order x.0 x.1 x.2 nine 0 (omega arith) (omega arith) x.1

-- so it answers what a look at every range does
pub found_is : (n : ℕ) → (bogon_search n).found ≡ is_bogon n
found_is n = same _ _ (λ e. bogon_complete (found_bogon e)) (λ e. bogon_found (bogon_sound e))
  where
    same : (a b : Bool) → (a ≡ true → b ≡ true) → (b ≡ true → a ≡ true) → a ≡ b
    same true b f g = sym (f refl)
    same false true f g = g refl
    same false false f g = refl

-- in five comparisons at most
pub at_most_five : (n : ℕ) → (bogon_search n).comparisons ≤ most_comparisons
unfolding bogon_search depth
at_most_five n = search_count n bogons nine 0

-- which AS 131072 takes
pub five_met : (bogon_search 131072).comparisons ≡ most_comparisons
unfolding bogon_search search size bogons
five_met = refl

-- ---- what the code computes

module _ (n : ℕ) (a b : Range) (before : ℕ) where
  -- the first of two ranges is left
  pub pair_first : n < b.low → after (before + 1 + 1) (leb n a.high) ≡ after (before + 2) (pair_holds n a b)
  pair_first h = let e : before + 1 + 1 ≡ before + 2 = omega arith in rw (e, lt-ltb n b.low h)

  -- the second is
  pub pair_second : b.low ≤ n → after (before + 1 + 1) (leb n b.high) ≡ after (before + 2) (pair_holds n a b)
  pair_second h = let e : before + 1 + 1 ≡ before + 2 = omega arith in rw (e, le-ltb n b.low h)

-- what `bogons::look_up` promises of an answer that is the search's
pub promised : (n : ℕ) {l : Lookup} → l ≡ bogon_search n → (l ≡ bogon_search n) × (l.found ≡ is_bogon n) × (l.comparisons ≤ most_comparisons)
promised n e = (e, rw e (found_is n), rw e (at_most_five n))
