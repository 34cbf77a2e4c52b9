-- The levels open in the reader, inside a part that is derived, are those around the part and those that its derivation counts. Assumes nothing.
use Prim.Native.Nat.{ℕ, zero, suc, ◌+◌, ◌-◌, ◌≤◌, ◌<◌, max}
use native.Mathlib.Nat.{add-suc, suc-add}
use native.Mathlib.Omega.{arith}
use native.Mathlib.Decide.{dec_lt}
use mathlib.Core.Path.{◌≡◌, refl, ap, ◌∙◌}
use mathlib.Core.Bool.{Bool, true, false}
use mathlib.Core.List.{List, [], ◌∷◌, ◌++◌}
use lib.Dec.{leb}
use lib.ListN.{length, take, length-append}
use lib.Seq.{take_all, take-append-le, take-append-add}
use borrow.Author.Tests.{leb-true, leb-false, lt-ltb, le-leb}
use Rattle.octets.specs.Choice.{pick}
use Rattle.program.specs.Readings.{Test, and, or, Reading}
use Rattle.token.specs.Tokens.{Word, Token, open', close, bang, word}
use Rattle.filter.specs.Words.{joins, flag, name, Says}
use Rattle.filter.specs.Grammar.{Operand, Part, expression, conjunction, factor, Reads, flagged, tested, negated, grouped, single, anded, lone, ored}
use Rattle.filter.specs.Levels.{open_at}
use Rattle.filter.specs.Reader.{Hole, grouping, first, oring, head, anding, negating, depth, ReaderState, want, operand, have, level, takes, opens, go, came, settle, move, step, walk}
use Rattle.filter.proofs.Walks.{step_opens, walk_go, walk_takes, walk_join}
use Rattle.filter.proofs.Complete.{enter, Walked, reads_walk, name_moves, and_moves, or_moves}
use Rattle.filter.proofs.Counts.{levels, open_past}
use Rattle.operand.specs.declared.Name.{Name}
use Rattle.operand.specs.Tests.{StandsFor}

-- a walk that comes to a state with so many levels
pub record Located (L : ℕ) (s : ReaderState) (ts : List Token) (count : ℕ) : Type 0 where
  pub state : ReaderState
  pub walked : walk L s ts ≡ came state
  pub counted : level state ≡ count

-- the places that count as inside: of a factor, whose end may end levels around it, those before the end
abbrev pub Upto : Part → ℕ → ℕ → Type 0
Upto factor n size = n < size
Upto conjunction n size = n ≤ size
Upto expression n size = n ≤ size

module _ (L : ℕ) where
  -- at the beginning
  stays : (s : ReaderState) (count : ℕ) → level s ≡ count → Located L s [] count
  unfolding walk
  stays s count e = record { state = s; walked = refl; counted = e }

  -- past a token that is let in
  onto : (s s' : ReaderState) (t : Token) {ts : List Token} {count : ℕ} → step L s t ≡ go s' → Located L s' ts count → Located L s (t ∷ ts) count
  onto s s' t {ts} e f = record { state = f.state; walked = walk_go L s s' t ts e ∙ f.walked; counted = f.counted }

  -- past the left side of a joint
  beyond : (ts us : List Token) (w : Word) (s x y : ReaderState) (n : ℕ) {count : ℕ} → length ts < n → walk L s ts ≡ came x → move x (word w) ≡ takes y
      → Located L y (take (n - (length ts + 1)) us) count → Located L s (take n (ts ++ (word w ∷ us))) count
  beyond ts us w s x y n l e m f =
      let i : n ≡ length ts + suc (n - (length ts + 1)) = omega arith in
      let j : take n (ts ++ (word w ∷ us)) ≡ ts ++ (word w ∷ take (n - (length ts + 1)) us) =
      ap (λ k. take k (ts ++ (word w ∷ us))) i ∙ take-append-add ts (word w ∷ us) (suc (n - (length ts + 1))) in
      rw j record {
        state = f.state;
        walked = walk_join L s ts _ x e ∙ (walk_takes L x y (word w) _ m ∙ f.walked);
        counted = f.counted;
      }

  -- a factor whose end closes no level, read up to any place
  to_end : {ts : List Token} {r : Reading} (f : Reads factor ts r) (h : Hole factor) (n : ℕ) → level (settle r h) ≡ depth h → depth h + levels f ≤ L
      → n ≤ length ts → (n < length ts → Located L (want h) (take n ts) (depth h + open_at f n)) → Located L (want h) (take n ts) (depth h + open_at f n)
  to_end {ts} {r} f h n e l i inner = by_place (dec_lt n (length ts))
    where
      by_place : Dec (n < length ts) → Located L (want h) (take n ts) (depth h + open_at f n)
      by_place (yes j) = inner j
      by_place (no j) =
          rw (take_all n ts (omega arith), open_past f n (omega arith)) record {
            state = settle r h;
            walked = reads_walk L f h l;
            counted = omega (arith, e);
          }

  -- a joint, by its sides
  at_joint : (ts us : List Token) (w : Word) (s x y : ReaderState) (n base : ℕ) (a b : ℕ → ℕ) → walk L s ts ≡ came x → move x (word w) ≡ takes y
      → (n ≤ length ts → Located L s (take n ts) (base + a n))
      → (length ts < n → Located L y (take (n - (length ts + 1)) us) (base + b (n - (length ts + 1))))
      → Located L s (take n (ts ++ (word w ∷ us))) (base + pick (leb n (length ts)) (a n) (b (n - (length ts + 1))))
  at_joint ts us w s x y n base a b e m f g = by_side (leb n (length ts)) refl
    where
      by_side : (c : Bool) → leb n (length ts) ≡ c → Located L s (take n (ts ++ (word w ∷ us))) (base + pick c (a n) (b (n - (length ts + 1))))
      by_side true q = rw (take-append-le n ts (word w ∷ us) (leb-true _ _ q)) (f (leb-true _ _ q))
      by_side false q = beyond ts us w s x y n (leb-false _ _ q) e m (g (leb-false _ _ q))

  -- the claim of a part, in its hole, at a place; `in-..` proves it of each rule from its parts
  abbrev Inside : {p : Part} {ts : List Token} {r : Reading} → Reads p ts r → Hole p → ℕ → Type 0
  Inside {p} {ts} d h n = Located L (enter p h) (take n ts) (depth h + open_at d n)

  in_flagged : {w : Word} {x : Test} (q : Says w (flag x)) (h : Hole factor) (n : ℕ) → n < 1 → Inside (flagged q) h n
  unfolding open_at level
  in_flagged q h zero i = stays (want h) _ (omega arith)
  in_flagged q h (suc n) i = absurd (omega arith)

  in_tested : {w v : Word} {k : Name} {x : Test} {o : Token} (q : Says w (name k)) (a : Operand o v) (m : StandsFor k v x) (h : Hole factor) (n : ℕ) → n < 2
      → Inside (tested q a m) h n
  unfolding open_at level walk
  in_tested q a m h zero i = stays (want h) _ (omega arith)
  in_tested {w} {k = k} q a m h (suc zero) i =
      record { state = operand k h; walked = walk_takes L (want h) (operand k h) (word w) [] (name_moves h q); counted = omega arith }
  in_tested q a m h (suc (suc n)) i = absurd (omega arith)

  -- a token that opens a level
  one_more : (s s' : ReaderState) (t : Token) (ts : List Token) (base count : ℕ) → move s t ≡ opens s' → level s < L → Located L s' ts (suc base + count)
      → Located L s (t ∷ ts) (base + suc count)
  one_more s s' t ts base count m l f = rw (add-suc base count, ← suc-add base count) (onto s s' t (step_opens L s s' t m l) f)

  in_negated : {ts : List Token} {r : Reading} (f : Reads factor ts r) (h : Hole factor) (n : ℕ) → depth h < L → n < suc (length ts)
      → ((m : ℕ) → m < length ts → Inside f (negating h) m) → Inside (negated f) h n
  unfolding open_at level depth move
  in_negated f h zero l i g = stays (want h) _ (omega arith)
  in_negated {ts} f h (suc n) l i g =
      let j : n < length ts = omega arith in
      rw (lt-ltb n (length ts) j) (one_more (want h) (want (negating h)) bang (take n ts) (depth h) (open_at f n) refl l (g n j))

  in_grouped : {ts : List Token} {r : Reading} (e : Reads expression ts r) (h : Hole factor) (n : ℕ) → depth h < L → n < suc (length (ts ++ (close ∷ [])))
      → ((m : ℕ) → m ≤ length ts → Inside e (grouping h) m) → Inside (grouped e) h n
  unfolding open_at level depth move
  in_grouped e h zero l i g = stays (want h) _ (omega arith)
  in_grouped {ts} e h (suc n) l i g =
      let j : n ≤ length ts = omega (arith, length-append ts (close ∷ [])) in
      rw (le-leb n (length ts) j, take-append-le n ts (close ∷ []) j)
      (one_more (want h) (want (head (first (grouping h)))) open' (take n ts) (depth h) (open_at e n) refl l (g n j))

  in_single : {ts : List Token} {r : Reading} (f : Reads factor ts r) (h : Hole conjunction) (n : ℕ) → depth h + levels f ≤ L → n ≤ length ts
      → (n < length ts → Inside f (head h) n) → Inside (single f) h n
  unfolding open_at level depth settle
  in_single f h n l i g = to_end f (head h) n refl l i g

  in_anded : {ts us : List Token} {a b : Reading} (w : Word) (c : Reads conjunction ts a) (q : Says w (joins and)) (f : Reads factor us b) (h : Hole conjunction) (n : ℕ)
      → depth h + max (levels c) (levels f) ≤ L → n ≤ length (ts ++ (word w ∷ us)) → (n ≤ length ts → Inside c h n)
      → ((m : ℕ) → m < length us → Inside f (anding a h) m) → Inside (anded w c q f) h n
  unfolding open_at level depth settle
  in_anded {ts} {us} {a} w c q f h n l i g k =
      at_joint ts us w (want (head h)) (have a h) (want (anding a h)) n (depth h) (open_at c) (open_at f) (reads_walk L c h (omega arith)) (and_moves a h q) g
      (λ j. to_end f (anding a h) (n - (length ts + 1)) refl (omega arith) (omega (arith, length-append ts (word w ∷ us))) (k (n - (length ts + 1))))

  in_ored : {ts us : List Token} {a b : Reading} (w : Word) (e : Reads expression ts a) (q : Says w (joins or)) (c : Reads conjunction us b) (h : Hole expression) (n : ℕ)
      → depth h + max (levels e) (levels c) ≤ L → n ≤ length (ts ++ (word w ∷ us)) → (n ≤ length ts → Inside e h n)
      → ((m : ℕ) → m ≤ length us → Inside c (oring a h) m) → Inside (ored w e q c) h n
  unfolding open_at depth
  in_ored {ts} {us} {a} w e q c h n l i g k = by_left (reads_walk L e h (omega arith))
    where
      by_left : Walked L expression h ts a → Inside (ored w e q c) h n
      by_left (b, o, p, x) =
          at_joint ts us w (want (head (first h))) (have b o) (want (head (oring a h))) n (depth h) (open_at e) (open_at c) x (or_moves a h b o p q) g
          (λ j. k (n - (length ts + 1)) (omega (arith, length-append ts (word w ∷ us))))

  -- inside a part, the levels open in the reader are those around it and those that the derivation counts
  pub located : {p : Part} {ts : List Token} {r : Reading} (d : Reads p ts r) (h : Hole p) (n : ℕ) → depth h + levels d ≤ L → Upto p n (length ts) → Inside d h n
  unfolding open_at levels depth
  located (flagged q) h n l i = in_flagged q h n i
  located (tested q a m) h n l i = in_tested q a m h n i
  located (negated f) h n l i = in_negated f h n (omega arith) i (λ m j. located f (negating h) m (omega arith) j)
  located (grouped e) h n l i = in_grouped e h n (omega arith) i (λ m j. located e (grouping h) m (omega arith) j)
  located (single f) h n l i = in_single f h n l i (λ j. located f (head h) n l j)
  located (anded {a = a} w c q f) h n l i = in_anded w c q f h n l i (λ j. located c h n (omega arith) j) (λ m j. located f (anding a h) m (omega arith) j)
  located (lone c) h n l i = located c (first h) n l i
  located (ored {a = a} w e q c) h n l i = in_ored w e q c h n l i (λ j. located e h n (omega arith) j) (λ m j. located c (oring a h) m (omega arith) j)
