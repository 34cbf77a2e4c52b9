-- What is read is derived. `Before` says which tokens lead to a hole, `At` which lead to a state. Assumes nothing.
use Prim.Native.Nat.{ℕ, ◌≤◌}
use native.Mathlib.Omega.{arith}
use mathlib.Core.Path.{◌≡◌, refl, ◌∙◌}
use mathlib.Core.Bool.{Bool, true, false}
use Rattle.std.specs.Prelude.{Option, None, Some}
use mathlib.Core.List.{List, [], ◌∷◌, ◌++◌, append_assoc, append-nil}
use lib.Dec.{ltb}
use Rattle.program.specs.Readings.{Test, and, or, Reading}
use Rattle.token.specs.Tokens.{Word, Token, open', close, bang, word, quoted}
use Rattle.filter.specs.Words.{Role, joins, flag, name, Says, role_of}
use Rattle.filter.specs.Grammar.{Operand, a_word, a_quoted, Part, expression, conjunction, factor, Reads, flagged, tested, negated, grouped, single, anded, lone, ored}
use Rattle.filter.specs.Levels.{open_at}
use Rattle.filter.proofs.Walks.{no_ok}
use Rattle.filter.specs.Reader.{Hole, whole, grouping, first, oring, head, anding, negating, ReaderState, want, operand, have, level, Move, takes, opens, stuck, breaks, Way, came, stopped, ok, settle, outer, again, leave, end, begin, fill, join, admit, follow, finish, conclude, answered, start, move, step, walk, read}
use Rattle.filter.proofs.Counts.{levels_open}
use Rattle.filter.proofs.Agree.{levels_within}
use Rattle.operand.specs.declared.Name.{Name}
use Rattle.operand.specs.Tests.{StandsFor, meaning}
use Rattle.operand.proofs.Meanings.{meaning_sound, meaning_complete}
use Rattle.filter.proofs.Roles.{says_found}

-- these tokens lead to h
pub data Before : (p : Part) → List Token → Hole p → Type 0 where
  at_whole : Before expression [] whole
  at_group : {ts : List Token} {h : Hole factor} → Before factor ts h → Before expression (ts ++ (open' ∷ [])) (grouping h)
  at_first : {ts : List Token} {h : Hole expression} → Before expression ts h → Before conjunction ts (first h)
  at_or : {ts us : List Token} {a : Reading} {h : Hole expression} (w : Word) → Says w (joins or) → Before expression ts h
      → Reads expression us a → Before conjunction (ts ++ (us ++ (word w ∷ []))) (oring a h)
  at_head : {ts : List Token} {h : Hole conjunction} → Before conjunction ts h → Before factor ts (head h)
  at_and : {ts us : List Token} {a : Reading} {h : Hole conjunction} (w : Word) → Says w (joins and) → Before conjunction ts h
      → Reads conjunction us a → Before factor (ts ++ (us ++ (word w ∷ []))) (anding a h)
  at_not : {ts : List Token} {h : Hole factor} → Before factor ts h → Before factor (ts ++ (bang ∷ [])) (negating h)

-- ts is what leads to h, and a part in h that reads as r
abbrev Had : (p : Part) → List Token → Reading → Hole p → Type 0
Had p ts r h = (us vs : List Token) × (ts ≡ us ++ vs) × Before p us h × Reads p vs r

-- ts leads to a state
abbrev pub At : List Token → ReaderState → Type 0
At ts (want h) = Before factor ts h
At ts (operand k h) = (us : List Token) × (w : Word) × (ts ≡ us ++ (word w ∷ [])) × Says w (name k) × Before factor us h
At ts (have r h) = Had conjunction ts r h

-- a factor read in a hole leads to the state that it settles in
settle_at : {ts us : List Token} {r : Reading} {h : Hole factor} → Before factor ts h → Reads factor us r → At (ts ++ us) (settle r h)
unfolding settle
settle_at (at_head b) d = (_, _, refl, b, single d)
settle_at {us = us} (at_and {ts = ts} {us = vs} w q b c) d = (ts, vs ++ (word w ∷ us), simp append_assoc, b, anded w c q d)
settle_at {us = us} (at_not {ts = ts} b) d = rw (append_assoc ts (bang ∷ []) us) (settle_at b (negated d))

-- a conjunction that ends makes the expression around it
outer_at : {ts : List Token} {r : Reading} {h : Hole conjunction} → Had conjunction ts r h → Had expression ts (outer r h).0 (outer r h).1
unfolding outer
outer_at (us, vs, e, at_first b, d) = (us, vs, e, b, lone d)
outer_at (us, vs, e, at_or {ts = ts} {us = ws} w q b c, d) = (ts, ws ++ (word w ∷ vs), e ∙ simp append_assoc, b, ored w c q d)

-- what a move, the end and a walk say of the tokens up to there
abbrev pub Moved : List Token → Token → Move → Type 0
Moved ts t (takes s) = At (ts ++ (t ∷ [])) s
Moved ts t (opens s) = At (ts ++ (t ∷ [])) s
Moved ts t stuck = Unit {0}
Moved ts t breaks = (k : Name) × (h : Hole factor) × (v : Word) × At ts (operand k h) × Operand t v × ((x : Test) → StandsFor k v x → ⊥)

abbrev pub Ended : List Token → Option Reading → Type 0
Ended ts None = Unit {0}
Ended ts (Some r) = Reads expression ts r

abbrev Came : List Token → Way → Type 0
Came ts (came s) = At ts s
Came ts (stopped w us) = Unit {0}

-- what `)` and the end lead to
leave_at : {ts : List Token} (o : Reading × Hole expression) → Had expression ts o.0 o.1 → Moved ts close (leave o)
unfolding leave
leave_at (r, h) (us, vs, e, at_whole, d) = tt
leave_at (r, h) (us, vs, e, at_group b, d) = rw e (simp append_assoc (settle_at b (grouped d)))

end_at : {ts : List Token} (o : Reading × Hole expression) → Had expression ts o.0 o.1 → Ended ts (end o)
unfolding end
end_at (r, h) (us, vs, e, at_whole, d) = rw e d
end_at (r, h) (us, vs, e, at_group b, d) = tt

-- what a state that ends the text reads is derived
pub finish_at : (ts : List Token) (s : ReaderState) → At ts s → Ended ts (finish s)
unfolding finish
finish_at ts (want h) a = tt
finish_at ts (operand k h) a = tt
finish_at ts (have r h) a = end_at (outer r h) (outer_at a)

-- no tokens lead to the start
at_start : At [] start
at_start = at_head (at_first at_whole)

-- what a word and an operand lead to
begin_at : (ts : List Token) (h : Hole factor) (w : Word) → Before factor ts h
    → (x : Option Role) → ((y : Role) → x ≡ Some y → Says w y) → Moved ts (word w) (begin h x)
unfolding begin
begin_at ts h w b (Some (flag x)) q = settle_at b (flagged (q (flag x) refl))
begin_at ts h w b (Some (name k)) q = (ts, w, refl, q (name k) refl, b)
begin_at ts h w b (Some (joins o)) q = tt
begin_at ts h w b None q = tt

fill_at : (ts : List Token) (k : Name) (h : Hole factor) (o : Token) (v : Word) → Operand o v → At ts (operand k h)
    → (x : Option Test) → ((y : Test) → x ≡ Some y → StandsFor k v y) → ((y : Test) → StandsFor k v y → x ≡ Some y) → Moved ts o (fill h x)
unfolding fill
fill_at ts k h o v a i None m n = (k, h, v, i, a, λ y s. let z : ◌≡◌ {A = ℕ} 0 1 = cc (n y s) in omega arith)
fill_at ts k h o v a (us, w, e, q, b) (Some x) m n = rw (e, append_assoc us (word w ∷ []) (o ∷ [])) (settle_at b (tested q a (m x refl)))

join_at : (ts : List Token) (r : Reading) (h : Hole conjunction) (w : Word) → Had conjunction ts r h
    → (x : Option Role) → ((y : Role) → x ≡ Some y → Says w y) → Moved ts (word w) (join r h x)
unfolding join again
join_at ts r h w (us, vs, e, b, d) (Some (joins and)) q = rw (e, append_assoc us vs (word w ∷ [])) (at_and w (q (joins and) refl) b d)
join_at ts r h w a (Some (joins or)) q =
    let (us, vs, e, b, d) = outer_at a in
    rw (e, append_assoc us vs (word w ∷ [])) (at_head (at_or w (q (joins or) refl) b d))
join_at ts r h w a (Some (flag x)) q = tt
join_at ts r h w a (Some (name k)) q = tt
join_at ts r h w a None q = tt

-- what a token leads to, by its move
pub move_at : (ts : List Token) (s : ReaderState) (t : Token) → At ts s → Moved ts t (move s t)
unfolding move
move_at ts (want h) open' a = at_head (at_first (at_group a))
move_at ts (want h) bang a = at_not a
move_at ts (want h) close a = tt
move_at ts (want h) (word w) a = begin_at ts h w a (role_of w) (λ y e. says_found w e)
move_at ts (want h) (quoted v) a = tt
move_at ts (operand k h) open' a = tt
move_at ts (operand k h) bang a = tt
move_at ts (operand k h) close a = tt
move_at ts (operand k h) (word v) a = fill_at ts k h (word v) v a_word a (meaning k v) (λ y e. meaning_sound k v e) (λ y s. meaning_complete s)
move_at ts (operand k h) (quoted v) a = fill_at ts k h (quoted v) v a_quoted a (meaning k v) (λ y e. meaning_sound k v e) (λ y s. meaning_complete s)
move_at ts (have r h) open' a = tt
move_at ts (have r h) bang a = tt
move_at ts (have r h) close a = leave_at (outer r h) (outer_at a)
move_at ts (have r h) (word w) a = join_at ts r h w a (role_of w) (λ y e. says_found w e)
move_at ts (have r h) (quoted v) a = tt

module _ (L : ℕ) where
  -- the tokens of a walk lead to the state that it comes to: from a state on, and from the start
  pub walk_moves : (ts : List Token) (s : ReaderState) (us : List Token) → At ts s → Came (ts ++ us) (walk L s us)
  unfolding walk follow step admit
  walk_moves ts s [] a = rw (append-nil ts) a
  walk_moves ts s (t ∷ us) a = by_move (move s t) (move_at ts s t a) (ltb (level s) L) (λ vs x. walk_moves vs x us)
    where
      by_move : (m : Move) → Moved ts t m → (b : Bool) → ((vs : List Token) (x : ReaderState) → At vs x → Came (vs ++ us) (walk L x us))
          → Came (ts ++ (t ∷ us)) (follow (admit b m) (λ x. walk L x us) (t ∷ us))
      by_move (takes x) w b f = rw (append_assoc ts (t ∷ []) us) at (f (ts ++ (t ∷ [])) x w)
      by_move (opens x) w true f = rw (append_assoc ts (t ∷ []) us) at (f (ts ++ (t ∷ [])) x w)
      by_move (opens x) w false f = tt
      by_move stuck w b f = tt
      by_move breaks w b f = tt

  pub walk_at : (ts : List Token) (s : ReaderState) → walk L start ts ≡ came s → At ts s
  walk_at ts s e = rw e at (walk_moves [] start ts at_start)

  -- where a walk comes to its end, what is read is derived
  pub ended : (ts : List Token) (s : ReaderState) {r : Reading} → walk L start ts ≡ came s → finish s ≡ Some r → Reads expression ts r
  ended ts s e f = rw f at (finish_at ts s (walk_at ts s e))

  -- what is read has been walked
  ok_walks : (ts : List Token) (r : Reading) → read L ts ≡ ok r → (s : ReaderState) × (walk L start ts ≡ came s) × (finish s ≡ Some r)
  unfolding read answered conclude
  ok_walks ts r e = by_way (walk L start ts) refl e
    where
      by_end : (o : Option Reading) → conclude o ≡ ok r → o ≡ Some r
      by_end None e = no_ok (conclude None) e refl
      by_end (Some r') e = cc

      by_way : (w : Way) → walk L start ts ≡ w → answered w ≡ ok r → (s : ReaderState) × (walk L start ts ≡ came s) × (finish s ≡ Some r)
      by_way (came s) p q = (s, p, by_end (finish s) q)
      by_way (stopped y us) p q = no_ok (answered (stopped y us)) q refl

  -- what is read is derived so, within the limit
  pub sound : (ts : List Token) {r : Reading} → read L ts ≡ ok r → (d : Reads expression ts r) × ((n : ℕ) → open_at d n ≤ L)
  sound ts {r} e = by_walk (ok_walks ts r e)
    where
      by_walk : (s : ReaderState) × (walk L start ts ≡ came s) × (finish s ≡ Some r) → (d : Reads expression ts r) × ((n : ℕ) → open_at d n ≤ L)
      by_walk (s, p, q) = (ended ts s p q, (levels_open _ L).0 (levels_within L ts s p (ended ts s p q)))
