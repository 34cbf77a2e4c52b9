-- The reader's answer is one that the words give, and the words give no other. Assumes nothing.
use Prim.Native.Nat.{ℕ, suc, ◌≤◌, max}
use native.Mathlib.Nat.{le_refl}
use native.Mathlib.Omega.{arith}
use mathlib.Core.Path.{◌≡◌, refl, ap, ◌∙◌}
use mathlib.Core.Bool.{Bool, true, false}
use Rattle.std.specs.Prelude.{Option, None, Some}
use mathlib.Core.List.{List, [], ◌∷◌, ◌++◌, append_assoc, append-nil}
use mathlib.Core.Logic.{◌↔◌}
use lib.Dec.{ltb}
use borrow.Author.Tests.{ltb-true, ltb-false}
use Rattle.program.specs.Readings.{Reading}
use Rattle.token.specs.Tokens.{Token}
use Rattle.filter.specs.Grammar.{expression, Reads}
use Rattle.filter.specs.Levels.{open_at, Open}
use Rattle.filter.specs.Answers.{Alive, Leads, Opener, Has, bad_token, bad_operand, too_deep}
use Rattle.filter.specs.declared.Refusal.{Refusal}
use Rattle.filter.specs.Answering.{refusal_of}
use Rattle.filter.specs.Reader.{depth, ReaderState, level, Why, bad, broken, deep, Move, takes, opens, stuck, breaks, Step, go, stop, came, ReaderAnswer, ok, refused, admit, follow, finish, conclude, answered, start, move, step, walk, read}
use Rattle.filter.proofs.Walks.{no_came, step_takes, step_opens, walk_go, walk_stop, walk_join, wider}
use Rattle.filter.proofs.Complete.{derived_walks, complete}
use Rattle.filter.proofs.Leveled.{Leveled, move_level, walk_within}
use Rattle.filter.proofs.Counts.{levels, levels_open}
use Rattle.filter.proofs.Agree.{levels_within, open_one}
use Rattle.filter.proofs.Sound.{Moved, Ended, move_at, finish_at, walk_at}
use Rattle.filter.proofs.Endings.{leads, opened, breaks_rule}
use Rattle.filter.proofs.Operands.{leads_alive, open_alive, alive_reached, leads_reached, operand_unstuck, broken_dead, operand_there}

-- what leads on, leads on from each of its beginnings
pub earlier : {L : ℕ} (ts us : List Token) → Leads L (ts ++ us) → Leads L ts
earlier {L} ts us l = by_parts (rw (← (append_assoc ts us l.more)) (l.reads, l.within))
  where
    by_parts : (d : Reads expression (ts ++ (us ++ l.more)) l.reading) × ((n : ℕ) → open_at d n ≤ L) → Leads L ts
    by_parts (d, w) = record { more = us ++ l.more; reading = l.reading; reads = d; within = w }

-- ---- 4, 5 and 6 of a token

-- tokens after which a level too many is open don't lead on
deep_ends : {L : ℕ} {ts : List Token} → Open ts (suc L) → Leads L ts → ⊥
unfolding level depth
deep_ends {L} {ts} o l = by_walk (leads_reached L ts l)
  where
    by_walk : (s : ReaderState) × (walk L start ts ≡ came s) → ⊥
    by_walk (s, e) =
        let i : level s ≤ L = walk_within L start ts s (omega arith) e in
        let j : suc L ≡ level s = open_one o (opened L ts s e) in
        omega arith

-- tokens don't lead on with one that is refused
has_ends : {L : ℕ} {ts : List Token} {t : Token} {k : Refusal} → Has L ts t k → Leads L (ts ++ (t ∷ [])) → ⊥
has_ends (bad_token a s) l = a (leads_alive l)
has_ends (bad_operand s f) l = broken_dead s f (leads_alive l)
has_ends (too_deep x o) l = deep_ends o l

-- it is refused in one way: so it doesn't matter in which order they are looked for
has_once : {L : ℕ} {ts : List Token} {t : Token} {k m : Refusal} → Has L ts t k → Has L ts t m → k ≡ m
has_once (bad_token a s) (bad_token b r) = refl
has_once (bad_token a s) (bad_operand r f) = absurd (s r)
has_once (bad_token a s) (too_deep x o) = absurd (a (open_alive o))
has_once (bad_operand s f) (bad_token b r) = absurd (r s)
has_once (bad_operand s f) (bad_operand r g) = refl
has_once (bad_operand s f) (too_deep x o) = absurd (broken_dead s f (open_alive o))
has_once (too_deep x o) (bad_token b r) = absurd (b (open_alive o))
has_once (too_deep x o) (bad_operand r g) = absurd (broken_dead r g (open_alive o))
has_once (too_deep x o) (too_deep y p) = refl

-- the reader's reason for it
pub has_why : {L : ℕ} {ts : List Token} {t : Token} {k : Refusal} → Has L ts t k → (w : Why) × (refusal_of w ≡ k)
has_why (bad_token a s) = (bad, refl)
has_why (bad_operand s f) = (broken, refl)
has_why (too_deep x o) = (deep, refl)

-- and its only one
why_once : (v w : Why) → refusal_of v ≡ refusal_of w → v ≡ w
why_once bad bad e = refl
why_once bad broken e = cc
why_once bad deep e = cc
why_once broken bad e = cc
why_once broken broken e = refl
why_once broken deep e = cc
why_once deep bad e = cc
why_once deep broken e = cc
why_once deep deep e = refl

module _ (L : ℕ) (ts : List Token) (s : ReaderState) (came_to : walk L start ts ≡ came s) where
  -- a token that the state refuses, whatever the limit, is allowed by no continuation
  dead : (t : Token) (w : Why) → ((M : ℕ) → step M s t ≡ stop w) → Alive (ts ++ (t ∷ [])) → ⊥
  dead t w f a = by_walk (alive_reached L (ts ++ (t ∷ [])) a)
    where
      by_walk : (M : ℕ) × (x : ReaderState) × (L ≤ M) × (walk M start (ts ++ (t ∷ [])) ≡ came x) → ⊥
      by_walk (M, x, l, e) =
          no_came (walk M start (ts ++ (t ∷ []))) e (walk_join M start ts (t ∷ []) s (wider L M l start ts s came_to) ∙ walk_stop M s w t [] (f M))

-- what a step says of the tokens up to there
abbrev Stepped : ℕ → List Token → Token → Step → Type 0
Stepped L ts t (go s) = walk L start (ts ++ (t ∷ [])) ≡ came s
Stepped L ts t (stop w) = Has L ts t (refusal_of w)

-- every step says so
stepped : (L : ℕ) (ts : List Token) (s : ReaderState) (t : Token) → walk L start ts ≡ came s → Stepped L ts t (step L s t)
unfolding step admit walk level depth
stepped L ts s t e = by_move (move s t) refl (move_at ts s t (walk_at L ts s e)) (move_level s t) (ltb (level s) L) refl
  where
    came_on : (M : ℕ) (x : ReaderState) → L ≤ M → step M s t ≡ go x → walk M start (ts ++ (t ∷ [])) ≡ came x
    came_on M x l q = walk_join M start ts (t ∷ []) s (wider L M l start ts s e) ∙ walk_go M s x t [] q

    by_move : (m : Move) → move s t ≡ m → Moved ts t m → Leveled t (level s) m → (b : Bool) → ltb (level s) L ≡ b → Stepped L ts t (admit b m)
    by_move (takes x) p w v b q = came_on L x (le_refl L) (step_takes L s x t p)
    by_move (opens x) p w v true q = came_on L x (le_refl L) (step_opens L s x t p (ltb-true _ _ q))
    by_move (opens x) p w (o, v) false q =
        let i : level s ≤ L = walk_within L start ts s (omega arith) e in
        let j : L ≤ level s = ltb-false _ _ q in
        let k : level x ≡ suc L = omega arith in
        too_deep o (rw (← k) (opened (suc L) (ts ++ (t ∷ [])) x (came_on (suc L) x (omega arith) (step_opens (suc L) s x t p (omega arith)))))
    by_move stuck p w v b q =
        bad_token (dead L ts s e t bad (λ M. ap (admit (ltb (level s) M)) p))
        (λ st. let (h, z) = operand_there L ts s e st in
        operand_unstuck st.test h st.operand (rw z at p))
    by_move breaks p (k, h, v, i, o, n) u b q = let (st, f) = breaks_rule ts t k h v i o n in bad_operand st f

-- what opens a level too many is `(` or `!`: that 6 says so asks nothing more
pub deep_opener : {L : ℕ} {ts : List Token} {t : Token} → Leads L ts → Open (ts ++ (t ∷ [])) (suc L) → Opener t
deep_opener {L} {ts} {t} l o = by_walk (leads_reached L ts l)
  where
    by_refusal : {k : Refusal} → Has L ts t k → Opener t
    by_refusal (bad_token a s) = absurd (a (open_alive o))
    by_refusal (bad_operand s f) = absurd (broken_dead s f (open_alive o))
    by_refusal (too_deep x p) = x

    by_step : (x : Step) → Stepped L ts t x → Opener t
    by_step (go s) w = absurd (deep_ends o (leads L _ s w))
    by_step (stop w) h = by_refusal h

    by_walk : (s : ReaderState) × (walk L start ts ≡ came s) → Opener t
    by_walk (s, e) = by_step (step L s t) (stepped L ts s t e)

-- ---- the answer is one that the words give

-- what the words say of an answer: for the tokens ts, with at most L levels open at once
pub data Judged (L : ℕ) : List Token → ReaderAnswer → Type 0 where
  reads : {ts : List Token} {r : Reading} (d : Reads expression ts r) → ((n : ℕ) → open_at d n ≤ L) → Judged L ts (ok r)
  at_token : (ts : List Token) (t : Token) (us : List Token) {w : Why} → Leads L ts → Has L ts t (refusal_of w) → Judged L (ts ++ (t ∷ us)) (refused w (t ∷ us))
  bad_end : {ts : List Token} → Leads L ts → ((r : Reading) → Reads expression ts r → ⊥) → Judged L ts (refused bad [])

-- the end, and the rest of the tokens, by the state
judged_end : (L : ℕ) (ts : List Token) (s : ReaderState) → walk L start ts ≡ came s → Judged L ts (conclude (finish s))
unfolding conclude
judged_end L ts s e = by_end (finish s) refl (finish_at ts s (walk_at L ts s e))
  where
    none_derived : finish s ≡ None → (r : Reading) → Reads expression ts r → ⊥
    none_derived p r d =
        let M : ℕ = max L (levels d) in
        let (x, f, q) = derived_walks M d (omega arith) in
        let g : walk M start ts ≡ came s = wider L M (omega arith) start ts s e in
        let z : ◌≡◌ {A = ℕ} 0 1 = cc in omega arith

    by_end : (o : Option Reading) → finish s ≡ o → Ended ts o → Judged L ts (conclude o)
    by_end None p w = bad_end (leads L ts s e) (none_derived p)
    by_end (Some r) p w = reads w ((levels_open w L).0 (levels_within L ts s e w))

walk_judged : (L : ℕ) (ts : List Token) (s : ReaderState) (us : List Token) → walk L start ts ≡ came s → Judged L (ts ++ us) (answered (walk L s us))
unfolding walk follow answered
walk_judged L ts s [] e = rw (append-nil ts) (judged_end L ts s e)
walk_judged L ts s (t ∷ us) e = by_step (step L s t) (stepped L ts s t e) (λ vs x. walk_judged L vs x us)
  where
    by_step : (x : Step) → Stepped L ts t x → ((vs : List Token) (y : ReaderState) → walk L start vs ≡ came y → Judged L (vs ++ us) (answered (walk L y us)))
        → Judged L (ts ++ (t ∷ us)) (answered (follow x (λ y. walk L y us) (t ∷ us)))
    by_step (go y) w f = rw (append_assoc ts (t ∷ []) us) at (f (ts ++ (t ∷ [])) y w)
    by_step (stop y) w f = at_token ts t us (leads L ts s e) w

-- the words give the reader's answer
pub judged : (L : ℕ) (ts : List Token) → Judged L ts (read L ts)
unfolding read walk
judged L ts = walk_judged L [] start ts refl

-- ---- and no other

-- the reader stops at t for the reason w, where no other outcome of t is possible
stops : (L : ℕ) (ts : List Token) (t : Token) (us : List Token) (w : Why) → Leads L ts → ((x : Step) → Stepped L ts t x → x ≡ stop w)
    → read L (ts ++ (t ∷ us)) ≡ refused w (t ∷ us)
unfolding read answered
stops L ts t us w l f = by_walk (leads_reached L ts l)
  where
    by_walk : (s : ReaderState) × (walk L start ts ≡ came s) → answered (walk L start (ts ++ (t ∷ us))) ≡ refused w (t ∷ us)
    by_walk (s, e) = ap answered (walk_join L start ts (t ∷ us) s e ∙ walk_stop L s w t us (f (step L s t) (stepped L ts s t e)))

-- what the words give is the reader's answer
pub only : (L : ℕ) {ts : List Token} {a : ReaderAnswer} → Judged L ts a → read L ts ≡ a
unfolding read answered conclude
only L (reads d l) = complete L d l
only L (at_token ts t us {w} l h) = stops L ts t us w l by_step
  where
    by_step : (x : Step) → Stepped L ts t x → x ≡ stop w
    by_step (go s) e = absurd (has_ends h (leads L _ s e))
    by_step (stop v) g = ap stop (why_once v w (has_once g h))
only L (bad_end {ts} l none_of) = by_walk (leads_reached L ts l)
  where
    by_end : (o : Option Reading) → Ended ts o → conclude o ≡ refused bad []
    by_end None w = refl
    by_end (Some r) w = absurd (none_of r w)

    by_walk : (s : ReaderState) × (walk L start ts ≡ came s) → answered (walk L start ts) ≡ refused bad []
    by_walk (s, e) = ap answered e ∙ by_end (finish s) (finish_at ts s (walk_at L ts s e))

-- ---- what leads on

-- tokens lead on exactly when none of them is refused
pub leads_exactly : (L : ℕ) (ts : List Token) → Leads L ts ↔ ((xs ys : List Token) (u : Token) (k : Refusal) → ts ≡ xs ++ (u ∷ ys) → Has L xs u k → ⊥)
leads_exactly L ts = (forth, back (judged L ts))
  where
    forth : Leads L ts → (xs ys : List Token) (u : Token) (k : Refusal) → ts ≡ xs ++ (u ∷ ys) → Has L xs u k → ⊥
    forth l xs ys u k e h = has_ends h (earlier (xs ++ (u ∷ [])) ys (rw (append_assoc xs (u ∷ []) ys, ← e) l))

    back : {us : List Token} {a : ReaderAnswer} → Judged L us a → ((xs ys : List Token) (u : Token) (k : Refusal) → us ≡ xs ++ (u ∷ ys) → Has L xs u k → ⊥) → Leads L us
    back (reads {ts = us} {r} d w) f = by_end (rw (append-nil us) (d, w))
      where
        by_end : (e : Reads expression (us ++ []) r) × ((n : ℕ) → open_at e n ≤ L) → Leads L us
        by_end (e, v) = record { more = []; reading = r; reads = e; within = v }
    back (at_token xs u ys l h) f = absurd (f xs ys u _ refl h)
    back (bad_end l n) f = l
