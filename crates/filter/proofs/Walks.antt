-- Laws of the reader's walk: it goes on where it came to, and a larger limit does no harm. Assumes nothing.
use Prim.Native.Nat.{ℕ, ◌≤◌, ◌<◌}
use native.Mathlib.Omega.{arith}
use mathlib.Core.Path.{◌≡◌, refl, ap, ◌∙◌, sym}
use mathlib.Core.Bool.{Bool, true, false}
use mathlib.Core.List.{List, [], ◌∷◌, ◌++◌}
use lib.Dec.{ltb}
use borrow.Author.Tests.{lt-ltb, ltb-true}
use Rattle.program.specs.Readings.{Reading}
use Rattle.token.specs.Tokens.{Token}
use Rattle.filter.specs.Reader.{ReaderState, level, Why, Move, takes, opens, stuck, breaks, Step, go, stop, Way, came, stopped, ReaderAnswer, ok, refused, admit, follow, move, step, walk}

-- a walk that stops doesn't come to a state
pub no_came : {P : Type 0} (w : Way) {s : ReaderState} {y : Why} {ts : List Token} → w ≡ came s → w ≡ stopped y ts → P
no_came w p q = let z : ◌≡◌ {A = ℕ} 0 1 = cc in absurd (omega arith)

-- what is refused isn't read
pub no_ok : {P : Type 0} (a : ReaderAnswer) {r : Reading} {y : Why} {ts : List Token} → a ≡ ok r → a ≡ refused y ts → P
no_ok a p q = let z : ◌≡◌ {A = ℕ} 0 1 = cc in absurd (omega arith)

module _ (L : ℕ) where
  -- a token that is taken, with no level more
  pub step_takes : (s s' : ReaderState) (t : Token) → move s t ≡ takes s' → step L s t ≡ go s'
  unfolding step admit
  step_takes s s' t e = ap (λ m. admit (ltb (level s) L) m) e

  -- a token that opens a level, where there is room
  pub step_opens : (s s' : ReaderState) (t : Token) → move s t ≡ opens s' → level s < L → step L s t ≡ go s'
  unfolding step admit
  step_opens s s' t e l = ap (λ m. admit (ltb (level s) L) m) e ∙ ap (λ b. admit b (opens s')) (lt-ltb (level s) L l)

  -- the walk of a token that is let in
  pub walk_go : (s s' : ReaderState) (t : Token) (ts : List Token) → step L s t ≡ go s' → walk L s (t ∷ ts) ≡ walk L s' ts
  unfolding walk follow
  walk_go s s' t ts e = ap (λ x. follow x (λ y. walk L y ts) (t ∷ ts)) e

  -- the walk of a token that is refused
  pub walk_stop : (s : ReaderState) (w : Why) (t : Token) (ts : List Token) → step L s t ≡ stop w → walk L s (t ∷ ts) ≡ stopped w (t ∷ ts)
  unfolding walk follow
  walk_stop s w t ts e = ap (λ x. follow x (λ y. walk L y ts) (t ∷ ts)) e

  -- the walk of a token that is taken
  pub walk_takes : (s s' : ReaderState) (t : Token) (ts : List Token) → move s t ≡ takes s' → walk L s (t ∷ ts) ≡ walk L s' ts
  walk_takes s s' t ts e = walk_go s s' t ts (step_takes s s' t e)

  -- a walk taken on over more tokens
  onward : Way → List Token → Way
  onward (came s) us = walk L s us
  onward (stopped w ts) us = stopped w (ts ++ us)

  -- the walk of joined lists
  walk_append : (s : ReaderState) (ts us : List Token) → walk L s (ts ++ us) ≡ onward (walk L s ts) us
  unfolding walk follow onward
  walk_append s [] us = refl
  walk_append s (t ∷ ts) us = by_step (step L s t) (λ x. walk_append x ts us)
    where
      by_step : (x : Step) → ((s' : ReaderState) → walk L s' (ts ++ us) ≡ onward (walk L s' ts) us)
          → follow x (λ y. walk L y (ts ++ us)) (t ∷ (ts ++ us)) ≡ onward (follow x (λ y. walk L y ts) (t ∷ ts)) us
      by_step (go s') f = f s'
      by_step (stop w) f = refl

  -- a walk goes on from the state that it came to
  pub walk_join : (s : ReaderState) (ts us : List Token) (s' : ReaderState) → walk L s ts ≡ came s' → walk L s (ts ++ us) ≡ walk L s' us
  unfolding onward
  walk_join s ts us s' e = walk_append s ts us ∙ ap (λ o. onward o us) e

  -- a walk that comes to a state came to one at each of its places
  pub walk_split : (s : ReaderState) (ts us : List Token) (s' : ReaderState) → walk L s (ts ++ us) ≡ came s'
      → (x : ReaderState) × (walk L s ts ≡ came x) × (walk L x us ≡ came s')
  unfolding onward
  walk_split s ts us s' e = by_first (walk L s ts) refl (sym (walk_append s ts us) ∙ e)
    where
      by_first : (o : Way) → walk L s ts ≡ o → onward o us ≡ came s' → (x : ReaderState) × (walk L s ts ≡ came x) × (walk L x us ≡ came s')
      by_first (came x) p q = (x, p, q)
      by_first (stopped w vs) p q = no_came (onward (stopped w vs) us) q refl

-- a larger limit does no harm
pub wider : (L M : ℕ) → L ≤ M → (s : ReaderState) (ts : List Token) (s' : ReaderState) → walk L s ts ≡ came s' → walk M s ts ≡ came s'
unfolding walk follow step admit
wider L M l s [] s' e = e
wider L M l s (t ∷ ts) s' e = by_move (move s t) (ltb (level s) L) (ltb-true _ _) e (λ x. wider L M l x ts s')
  where
    by_move : (m : Move) (b : Bool) → (b ≡ true → level s < L) → follow (admit b m) (λ y. walk L y ts) (t ∷ ts) ≡ came s'
        → ((x : ReaderState) → walk L x ts ≡ came s' → walk M x ts ≡ came s')
        → follow (admit (ltb (level s) M) m) (λ y. walk M y ts) (t ∷ ts) ≡ came s'
    by_move (takes x) b g e f = f x e
    by_move (opens x) true g e f =
        let i : level s < L = g refl in
        rw (lt-ltb (level s) M (omega arith)) (f x e)
    by_move (opens x) false g e f = no_came _ e refl
    by_move stuck b g e f = no_came _ e refl
    by_move breaks b g e f = no_came _ e refl
