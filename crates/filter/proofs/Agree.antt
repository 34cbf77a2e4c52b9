-- All derivations of the same tokens agree on their levels. Assumes nothing.
use Prim.Native.Nat.{ℕ, ◌+◌, ◌≤◌, max}
use native.Mathlib.Nat.{le_refl}
use native.Mathlib.Omega.{arith}
use mathlib.Core.Path.{◌≡◌, ap, ◌∙◌, sym}
use Rattle.std.specs.Prelude.{Some}
use mathlib.Core.List.{List, ◌++◌}
use lib.ListN.{length, take, drop, length-append, take-append-drop}
use lib.Seq.{take-append_seam}
use Rattle.program.specs.Readings.{Reading}
use Rattle.token.specs.Tokens.{Token}
use Rattle.filter.specs.Grammar.{expression, Reads}
use Rattle.filter.specs.Levels.{open_at, Open}
use Rattle.filter.specs.Reader.{whole, depth, ReaderState, level, came, finish, start, walk}
use Rattle.filter.proofs.Walks.{walk_split, wider}
use Rattle.filter.proofs.Complete.{derived_walks}
use Rattle.filter.proofs.Counts.{levels, Peak, peak, levels_open}
use Rattle.filter.proofs.Located.{Located, located}
use Rattle.filter.proofs.Leveled.{walk_within}

-- the levels that a derivation counts after n tokens are those open in the reader
count_level : (L : ℕ) (ts : List Token) (n : ℕ) (s : ReaderState) {r : Reading} → walk L start (take n ts) ≡ came s → (d : Reads expression ts r)
    → n ≤ length ts → open_at d n ≡ level s
unfolding depth
count_level L ts n s e d i = by_place (located M d whole n (omega arith) i)
  where
    M : ℕ
    M = max L (levels d)

    by_place : Located M start (take n ts) (0 + open_at d n) → open_at d n ≡ level s
    by_place f =
        let g : walk M start (take n ts) ≡ came s = wider L M (omega arith) start (take n ts) s e in
        let h : f.state ≡ s = cc f.walked in
        omega (arith, f.counted, ap level h)

-- the same, where the tokens are those before a continuation
pub open_level : (L : ℕ) (ts more : List Token) (s : ReaderState) {r : Reading} → walk L start ts ≡ came s → (d : Reads expression (ts ++ more) r)
    → open_at d (length ts) ≡ level s
open_level L ts more s e d = count_level L (ts ++ more) (length ts) s (rw (take-append_seam ts more) e) d (omega (arith, length-append ts more))

-- the state after the first tokens of what is derived
pub reached : (L : ℕ) (ts more : List Token) {r : Reading} (d : Reads expression (ts ++ more) r) → levels d ≤ L → (s : ReaderState) × (walk L start ts ≡ came s)
reached L ts more {r} d l = by_walk (derived_walks L d l)
  where
    by_walk : (s : ReaderState) × (walk L start (ts ++ more) ≡ came s) × (finish s ≡ Some r) → (s : ReaderState) × (walk L start ts ≡ came s)
    by_walk (s, e, f) = let (x, p, q) = walk_split L start ts more s e in (x, p)

-- what is read within a limit has no derivation with more levels
pub levels_within : (L : ℕ) (ts : List Token) (s : ReaderState) {r : Reading} → walk L start ts ≡ came s → (d : Reads expression ts r) → levels d ≤ L
unfolding level depth
levels_within L ts s e d = by_peak (peak d)
  where
    by_split : (q : Peak (open_at d) (length ts) (levels d)) → (x : ReaderState) × (walk L start (take q.place ts) ≡ came x) × (walk L x (drop q.place ts) ≡ came s)
        → levels d ≤ L
    by_split q (x, f, g) =
        let i : level x ≤ L = walk_within L start (take q.place ts) x (omega arith) f in
        let j : open_at d q.place ≡ level x = count_level L ts q.place x f d (omega (arith, q.inside)) in
        omega (arith, q.there)

    by_peak : Peak (open_at d) (length ts) (levels d) → levels d ≤ L
    by_peak q = by_split q (walk_split L start (take q.place ts) (drop q.place ts) s (rw (take-append-drop q.place ts) e))

-- where one derivation keeps within a limit, every derivation of the same tokens does
pub within_all : {ts : List Token} {r r' : Reading} (d : Reads expression ts r) (d' : Reads expression ts r') (L : ℕ) → ((n : ℕ) → open_at d n ≤ L)
    → (n : ℕ) → open_at d' n ≤ L
within_all {ts} {r} d d' L w n = by_walk (derived_walks L d ((levels_open d L).1 w))
  where
    by_walk : (s : ReaderState) × (walk L start ts ≡ came s) × (finish s ≡ Some r) → open_at d' n ≤ L
    by_walk (s, e, f) = (levels_open d' L).0 (levels_within L ts s e d') n

-- all continuations agree on the number of open levels
pub open_one : {ts : List Token} {m n : ℕ} → Open ts m → Open ts n → m ≡ n
open_one {ts} {m} {n} a b = by_walk (reached (levels a.reads) ts a.more a.reads (le_refl _))
  where
    by_walk : (s : ReaderState) × (walk (levels a.reads) start ts ≡ came s) → m ≡ n
    by_walk (s, e) = sym a.counted ∙ (open_level _ ts a.more s e a.reads ∙ (sym (open_level _ ts b.more s e b.reads) ∙ b.counted))
