-- What the grammar derives is read so, and so has one reading. Assumes nothing.
use Prim.Native.Nat.{ℕ, ◌+◌, ◌≤◌, max}
use native.Mathlib.Omega.{arith}
use mathlib.Core.Path.{◌≡◌, refl, ap, ◌∙◌}
use Rattle.std.specs.Prelude.{Some}
use mathlib.Core.List.{List, [], ◌∷◌, ◌++◌}
use Rattle.program.specs.Readings.{Test, and, or, Reading, test}
use Rattle.token.specs.Tokens.{Word, Token, open', close, bang, word}
use Rattle.filter.specs.Words.{joins, flag, name, Says}
use Rattle.filter.specs.Grammar.{Operand, a_word, a_quoted, Part, expression, conjunction, factor, Reads, flagged, tested, negated, grouped, single, anded, lone, ored}
use Rattle.filter.specs.Levels.{open_at}
use Rattle.filter.specs.Reader.{Hole, whole, grouping, first, oring, head, anding, negating, depth, ReaderState, want, operand, have, level, takes, came, ok, settle, outer, again, leave, end, begin, fill, join, conclude, answered, finish, start, move, walk, read}
use Rattle.filter.proofs.Counts.{levels, open_within, levels_open}
use Rattle.filter.proofs.Walks.{step_opens, walk_go, walk_takes, walk_join}
use Rattle.operand.specs.declared.Name.{Name}
use Rattle.operand.specs.Tests.{StandsFor, meaning}
use Rattle.operand.proofs.Meanings.{meaning_complete}
use Rattle.filter.proofs.Roles.{said_role}

-- every part is an expression
raised : {p : Part} {ts : List Token} {r : Reading} → Reads p ts r → Reads expression ts r
raised {p = expression} d = d
raised {p = conjunction} d = lone d
raised {p = factor} d = lone (single d)

-- where the reading of a part begins
abbrev pub enter : (p : Part) → Hole p → ReaderState
enter factor h = want h
enter conjunction h = want (head h)
enter expression h = want (head (first h))

-- reading ts in h as r brings the reader there
abbrev pub Walked : ℕ → (p : Part) → Hole p → List Token → Reading → Type 0
Walked L factor h ts r = walk L (want h) ts ≡ came (settle r h)
Walked L conjunction h ts r = walk L (want (head h)) ts ≡ came (have r h)
Walked L expression h ts r = (c : Reading) × (k : Hole conjunction) × (outer c k ≡ (r, h)) × (walk L (want (head (first h))) ts ≡ came (have c k))

-- a word that is a test alone
pub flag_moves : (h : Hole factor) {w : Word} {x : Test} → Says w (flag x) → move (want h) (word w) ≡ takes (settle (test x) h)
unfolding move begin
flag_moves h {w} {x} q = ap (begin h) (said_role q)

-- a word that names a test
pub name_moves : (h : Hole factor) {w : Word} {k : Name} → Says w (name k) → move (want h) (word w) ≡ takes (operand k h)
unfolding move begin
name_moves h {w} {k} q = ap (begin h) (said_role q)

-- an operand is read by its bytes
pub operand_fills : (h : Hole factor) (k : Name) {o : Token} {v : Word} → Operand o v → move (operand k h) o ≡ fill h (meaning k v)
unfolding move
operand_fills h k a_word = refl
operand_fills h k a_quoted = refl

-- a good operand
pub operand_moves : (h : Hole factor) {o : Token} {v : Word} {k : Name} {x : Test} → Operand o v → StandsFor k v x → move (operand k h) o ≡ takes (settle (test x) h)
unfolding fill
operand_moves h {k = k} a m = operand_fills h k a ∙ ap (fill h) (meaning_complete m)

-- `-and` after factors
pub and_moves : (r : Reading) (h : Hole conjunction) {w : Word} → Says w (joins and) → move (have r h) (word w) ≡ takes (want (anding r h))
unfolding move join
and_moves r h {w} q = ap (join r h) (said_role q)

-- `-or` after an expression
pub or_moves : (r : Reading) (h : Hole expression) (c : Reading) (k : Hole conjunction) {w : Word} → outer c k ≡ (r, h) → Says w (joins or)
    → move (have c k) (word w) ≡ takes (want (head (oring r h)))
unfolding move join again
or_moves r h c k {w} e q = ap (join c k) (said_role q) ∙ ap (λ o. takes (want (again o))) e

-- `)` after an expression in a group
pub close_moves : (r : Reading) (h : Hole factor) (c : Reading) (k : Hole conjunction) → outer c k ≡ (r, grouping h)
    → move (have c k) close ≡ takes (settle r h)
unfolding move leave
close_moves r h c k e = ap leave e

module _ (L : ℕ) where
  -- a group, from its expression
  then_close : (ts : List Token) (r : Reading) (h : Hole factor) → Walked L expression (grouping h) ts r
      → walk L (want (head (first (grouping h)))) (ts ++ (close ∷ [])) ≡ came (settle r h)
  unfolding walk
  then_close ts r h (c, k, q, f) = walk_join L _ ts (close ∷ []) (have c k) f ∙ walk_takes L (have c k) _ close [] (close_moves r h c k q)

  -- an expression with `-or`, from its sides
  then_or : (ts us : List Token) (a b : Reading) (w : Word) (h : Hole expression) → Says w (joins or) → Walked L expression h ts a
      → Walked L conjunction (oring a h) us b → walk L (want (head (first h))) (ts ++ (word w ∷ us)) ≡ came (have b (oring a h))
  then_or ts us a b w h s (c, k, q, f) g =
      walk_join L _ ts (word w ∷ us) (have c k) f ∙ (walk_takes L (have c k) _ (word w) us (or_moves a h c k q s) ∙ g)

  -- a part that is derived brings the reader from its hole's beginning to its end
  pub reads_walk : {p : Part} {ts : List Token} {r : Reading} (d : Reads p ts r) (h : Hole p) → depth h + levels d ≤ L → Walked L p h ts r
  unfolding levels depth level walk settle outer move
  reads_walk (flagged {w} {x} q) h l = walk_takes L (want h) _ (word w) [] (flag_moves h q)
  reads_walk (tested {w} {v} {k} {x} {o} q a m) h l =
      walk_takes L (want h) (operand k h) (word w) (o ∷ []) (name_moves h q) ∙ walk_takes L (operand k h) _ o [] (operand_moves h a m)
  reads_walk (negated {ts} {r} f) h l =
      walk_go L (want h) _ bang ts (step_opens L (want h) _ bang refl (omega arith)) ∙ reads_walk f (negating h) (omega arith)
  reads_walk (grouped {ts} {r} e) h l =
      walk_go L (want h) _ open' (ts ++ (close ∷ [])) (step_opens L (want h) _ open' refl (omega arith)) ∙ then_close ts r h (reads_walk e (grouping h) (omega arith))
  reads_walk (single f) h l = reads_walk f (head h) l
  reads_walk (anded {ts} {us} {a} {b} w c q f) h l =
      walk_join L _ ts (word w ∷ us) (have a h) (reads_walk c h (omega arith))
      ∙ (walk_takes L (have a h) _ (word w) us (and_moves a h q) ∙ reads_walk f (anding a h) (omega arith))
  reads_walk (lone {ts} {r} c) h l = (r, first h, refl, reads_walk c (first h) l)
  reads_walk (ored {ts} {us} {a} {b} w e q c) h l =
      (b, oring a h, refl, then_or ts us a b w h q (reads_walk e h (omega arith)) (reads_walk c (oring a h) (omega arith)))

  -- what is derived within the limit brings the reader to a state that ends with that reading
  pub derived_walks : {ts : List Token} {r : Reading} (d : Reads expression ts r) → levels d ≤ L
      → (s : ReaderState) × (walk L start ts ≡ came s) × (finish s ≡ Some r)
  unfolding depth finish end
  derived_walks {ts} {r} d l = by_walk (reads_walk d whole (omega arith))
    where
      by_walk : Walked L expression whole ts r → (s : ReaderState) × (walk L start ts ≡ came s) × (finish s ≡ Some r)
      by_walk (c, k, q, f) = (have c k, f, ap end q)

  -- what is derived within the limit is read so
  pub complete : {ts : List Token} {r : Reading} (d : Reads expression ts r) → ((n : ℕ) → open_at d n ≤ L) → read L ts ≡ ok r
  unfolding read answered conclude
  complete {ts} {r} d w = by_walk (derived_walks d ((levels_open d L).1 w))
    where
      by_walk : (s : ReaderState) × (walk L start ts ≡ came s) × (finish s ≡ Some r) → answered (walk L start ts) ≡ ok r
      by_walk (s, e, f) = ap answered e ∙ ap conclude f

-- an expression has one reading
one_expression : {ts : List Token} {r r' : Reading} → Reads expression ts r → Reads expression ts r' → r ≡ r'
one_expression {ts} {r} {r'} d d' =
    let L : ℕ = max (levels d) (levels d') in
    let e : read L ts ≡ ok r = complete L d (λ n. omega (arith, open_within d n)) in
    let e' : read L ts ≡ ok r' = complete L d' (λ n. omega (arith, open_within d' n)) in
    cc

-- a list of tokens has at most one reading
pub one_reading : {p : Part} {ts : List Token} {r r' : Reading} → Reads p ts r → Reads p ts r' → r ≡ r'
one_reading d d' = one_expression (raised d) (raised d')
