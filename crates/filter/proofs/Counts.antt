-- The levels that a derivation counts: none past its end, and the most of them, `levels`. Assumes nothing.
use Prim.Native.Nat.{ℕ, zero, suc, ◌+◌, ◌-◌, ◌≤◌, ◌<◌, max}
use native.Mathlib.Omega.{arith}
use native.Mathlib.Decide.{dec_le}
use mathlib.Core.Path.{◌≡◌, refl, ap}
use mathlib.Core.Bool.{Bool, true, false}
use mathlib.Core.List.{List, [], ◌∷◌, ◌++◌}
use mathlib.Core.Logic.{◌↔◌}
use lib.Dec.{leb, ltb}
use lib.ListN.{length, length-append}
use borrow.Author.Tests.{lt-ltb, le-ltb, le-leb, lt-leb}
use Rattle.octets.specs.Choice.{pick}
use Rattle.program.specs.Readings.{Reading}
use Rattle.token.specs.Tokens.{Token, close, word}
use Rattle.filter.specs.Grammar.{Part, Reads, flagged, tested, negated, grouped, single, anded, lone, ored}
use Rattle.filter.specs.Levels.{open_at}

-- how many levels are open at once, at most, in what is read so
unfoldable pub levels : {p : Part} {ts : List Token} {r : Reading} → Reads p ts r → ℕ
levels (flagged q) = 0
levels (tested q o m) = 0
levels (negated f) = suc (levels f)
levels (grouped e) = suc (levels e)
levels (single f) = levels f
levels (anded w c q f) = max (levels c) (levels f)
levels (lone c) = levels c
levels (ored w e q c) = max (levels e) (levels c)

-- past the end of a joint no level is open where none is past its right side
joint_past : (ts us : List Token) (t : Token) (n count : ℕ) (b : ℕ → ℕ) → length (ts ++ (t ∷ us)) ≤ n
    → ((m : ℕ) → length us ≤ m → b m ≡ 0) → pick (leb n (length ts)) count (b (n - (length ts + 1))) ≡ 0
joint_past ts us t n count b l f =
    let e : length (ts ++ (t ∷ us)) ≡ length ts + suc (length us) = length-append ts (t ∷ us) in
    rw (lt-leb n (length ts) (omega arith)) (f (n - (length ts + 1)) (omega arith))

-- no level is open at the end, nor past it
pub open_past : {p : Part} {ts : List Token} {r : Reading} (d : Reads p ts r) (n : ℕ) → length ts ≤ n → open_at d n ≡ 0
unfolding open_at
open_past (flagged q) n l = refl
open_past (tested q o m) n l = refl
open_past (negated f) zero l = refl
open_past (negated {ts = ts} f) (suc n) l = rw (le-ltb n (length ts) (omega arith))
open_past (grouped e) zero l = refl
open_past (grouped {ts = ts} e) (suc n) l = rw (lt-leb n (length ts) (omega (arith, length-append ts (close ∷ []))))
open_past (single f) n l = open_past f n l
open_past (anded {ts = ts} {us} w c q f) n l = joint_past ts us (word w) n (open_at c n) (open_at f) l (λ m j. open_past f m j)
open_past (lone c) n l = open_past c n l
open_past (ored {ts = ts} {us} w e q c) n l = joint_past ts us (word w) n (open_at e n) (open_at c) l (λ m j. open_past c m j)

-- a level more keeps a bound that is one more
level_within : (b : Bool) {m k : ℕ} → m ≤ k → pick b (suc m) 0 ≤ suc k
level_within true p = omega arith
level_within false p = omega arith

-- a joint keeps the larger bound of its sides
joint_within : (b : Bool) {m n j k : ℕ} → m ≤ j → n ≤ k → pick b m n ≤ max j k
joint_within true p q = omega arith
joint_within false p q = omega arith

-- never more levels are open than these
pub open_within : {p : Part} {ts : List Token} {r : Reading} (d : Reads p ts r) (n : ℕ) → open_at d n ≤ levels d
unfolding open_at levels
open_within (flagged q) n = omega arith
open_within (tested q o m) n = omega arith
open_within (negated f) zero = omega arith
open_within (negated {ts = ts} f) (suc n) = level_within (ltb n (length ts)) (open_within f n)
open_within (grouped e) zero = omega arith
open_within (grouped {ts = ts} e) (suc n) = level_within (leb n (length ts)) (open_within e n)
open_within (single f) n = open_within f n
open_within (anded {ts = ts} w c q f) n = joint_within (leb n (length ts)) (open_within c n) (open_within f (n - (length ts + 1)))
open_within (lone c) n = open_within c n
open_within (ored {ts = ts} w e q c) n = joint_within (leb n (length ts)) (open_within e n) (open_within c (n - (length ts + 1)))

-- a place inside where a count comes to `most`
pub record Peak (count : ℕ → ℕ) (size most : ℕ) : Type 0 where
  pub place : ℕ
  pub inside : place < size
  pub there : count place ≡ most

-- a joint's place with the most levels is that of one of its sides
peak_joint : (ts us : List Token) (t : Token) {a b : ℕ → ℕ} {m n : ℕ} → Peak a (length ts) m → Peak b (length us) n
    → Peak (λ k. pick (leb k (length ts)) (a k) (b (k - (length ts + 1)))) (length (ts ++ (t ∷ us))) (max m n)
peak_joint ts us t {a} {b} {m} {n} p q = by_size (dec_le n m)
  where
    sized : length (ts ++ (t ∷ us)) ≡ length ts + suc (length us)
    sized = length-append ts (t ∷ us)

    by_size : Dec (n ≤ m) → Peak (λ k. pick (leb k (length ts)) (a k) (b (k - (length ts + 1)))) (length (ts ++ (t ∷ us))) (max m n)
    by_size (yes l) =
        let e : max m n ≡ m = omega arith in
        record {
          place = p.place;
          inside = omega (arith, sized, p.inside);
          there = rw (le-leb p.place (length ts) (omega (arith, p.inside)), e) p.there;
        }
    by_size (no l) =
        let e : max m n ≡ n = omega arith in
        let f : length ts + 1 + q.place - (length ts + 1) ≡ q.place = omega arith in
        record {
          place = length ts + 1 + q.place;
          inside = omega (arith, sized, q.inside);
          there = rw (lt-leb (length ts + 1 + q.place) (length ts) (omega arith), f, e) q.there;
        }

-- somewhere inside so many levels are open
pub peak : {p : Part} {ts : List Token} {r : Reading} (d : Reads p ts r) → Peak (open_at d) (length ts) (levels d)
unfolding open_at levels
peak (flagged q) = record { place = 0; inside = omega arith; there = refl }
peak (tested q o m) = record { place = 0; inside = omega arith; there = refl }
peak (negated {ts = ts} f) = by_inner (peak f)
  where
    by_inner : Peak (open_at f) (length ts) (levels f) → Peak (open_at (negated f)) (suc (length ts)) (suc (levels f))
    by_inner q = record { place = suc q.place; inside = omega (arith, q.inside); there = rw (lt-ltb q.place (length ts) q.inside) (ap suc q.there) }
peak (grouped {ts = ts} e) = by_inner (peak e)
  where
    by_inner : Peak (open_at e) (length ts) (levels e) → Peak (open_at (grouped e)) (suc (length (ts ++ (close ∷ [])))) (suc (levels e))
    by_inner q = record {
      place = suc q.place;
      inside = omega (arith, q.inside, length-append ts (close ∷ []));
      there = rw (le-leb q.place (length ts) (omega (arith, q.inside))) (ap suc q.there);
    }
peak (single f) = peak f
peak (anded {ts = ts} {us} w c q f) = peak_joint ts us (word w) (peak c) (peak f)
peak (lone c) = peak c
peak (ored {ts = ts} {us} w e q c) = peak_joint ts us (word w) (peak e) (peak c)

-- so a bound for them is one for the levels open anywhere
pub levels_open : {p : Part} {ts : List Token} {r : Reading} (d : Reads p ts r) (L : ℕ) → (levels d ≤ L) ↔ ((n : ℕ) → open_at d n ≤ L)
levels_open d L = (λ l n. omega (arith, open_within d n), λ f. omega (arith, f (peak d).place, (peak d).there))
