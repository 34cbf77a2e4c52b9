-- What a token does to the levels: only `(` and `!` add one, and a walk keeps within its limit. Assumes nothing.
use Prim.Native.Nat.{ℕ, suc, ◌≤◌, ◌<◌}
use native.Mathlib.Nat.{le_refl}
use native.Mathlib.Omega.{arith}
use mathlib.Core.Path.{◌≡◌, refl}
use mathlib.Core.Bool.{Bool, true, false}
use Rattle.std.specs.Prelude.{Option, None, Some}
use mathlib.Core.List.{List, [], ◌∷◌}
use lib.Dec.{ltb}
use borrow.Author.Tests.{ltb-true}
use Rattle.program.specs.Readings.{Test, and, or, Reading, test, neg}
use Rattle.token.specs.Tokens.{Token, open', close, bang, word, quoted}
use Rattle.filter.specs.Words.{Role, joins, flag, name, role_of}
use Rattle.filter.specs.Grammar.{expression, conjunction, factor}
use Rattle.filter.specs.Reader.{Hole, whole, grouping, first, oring, head, anding, negating, depth, ReaderState, want, operand, have, level, Move, takes, opens, stuck, breaks, came, settle, outer, again, leave, begin, fill, join, admit, follow, move, step, walk}
use Rattle.filter.proofs.Walks.{no_came}
use Rattle.operand.specs.Tests.{meaning}
use Rattle.filter.specs.Answers.{Opener, a_group, a_bang}

-- the levels after a move, by those before it
abbrev pub Leveled : Token → ℕ → Move → Type 0
Leveled t n (takes s) = level s ≤ n
Leveled t n (opens s) = Opener t × (level s ≡ suc n)
Leveled t n stuck = Unit {0}
Leveled t n breaks = Unit {0}

-- a factor that ends opens no level
settle_level : (r : Reading) (h : Hole factor) → level (settle r h) ≤ depth h
unfolding settle level depth
settle_level r (head h) = le_refl (depth h)
settle_level r (anding a h) = le_refl (depth h)
settle_level r (negating h) = let i : level (settle (neg r) h) ≤ depth h = settle_level (neg r) h in omega arith

-- a conjunction stands at its expression's level
outer_depth : (r : Reading) (h : Hole conjunction) → depth (outer r h).1 ≡ depth h
unfolding outer depth
outer_depth r (first h) = refl
outer_depth r (oring a h) = refl

-- nor does `)`, a word, or an operand
leave_level : (o : Reading × Hole expression) (n : ℕ) → depth o.1 ≡ n → Leveled close n (leave o)
unfolding leave depth
leave_level (r, whole) n e = tt
leave_level (r, grouping h) n e = let i : level (settle r h) ≤ depth h = settle_level r h in omega arith

begin_level : (t : Token) (h : Hole factor) (x : Option Role) → Leveled t (depth h) (begin h x)
unfolding begin level
begin_level t h (Some (flag x)) = settle_level (test x) h
begin_level t h (Some (name k)) = le_refl (depth h)
begin_level t h (Some (joins o)) = tt
begin_level t h None = tt

fill_level : (t : Token) (h : Hole factor) (x : Option Test) → Leveled t (depth h) (fill h x)
unfolding fill
fill_level t h None = tt
fill_level t h (Some x) = settle_level (test x) h

join_level : (t : Token) (r : Reading) (h : Hole conjunction) (x : Option Role) → Leveled t (depth h) (join r h x)
unfolding join again level depth
join_level t r h (Some (joins and)) = le_refl (depth h)
join_level t r h (Some (joins or)) = omega (arith, outer_depth r h)
join_level t r h (Some (flag x)) = tt
join_level t r h (Some (name k)) = tt
join_level t r h None = tt

-- only a token that opens a level adds one
pub move_level : (s : ReaderState) (t : Token) → Leveled t (level s) (move s t)
unfolding move level depth
move_level (want h) open' = (a_group, refl)
move_level (want h) bang = (a_bang, refl)
move_level (want h) close = tt
move_level (want h) (word w) = begin_level (word w) h (role_of w)
move_level (want h) (quoted v) = tt
move_level (operand k h) open' = tt
move_level (operand k h) bang = tt
move_level (operand k h) close = tt
move_level (operand k h) (word v) = fill_level (word v) h (meaning k v)
move_level (operand k h) (quoted v) = fill_level (quoted v) h (meaning k v)
move_level (have r h) open' = tt
move_level (have r h) bang = tt
move_level (have r h) close = leave_level (outer r h) (depth h) (outer_depth r h)
move_level (have r h) (word w) = join_level (word w) r h (role_of w)
move_level (have r h) (quoted v) = tt

-- a walk keeps within its limit
pub walk_within : (L : ℕ) (s : ReaderState) (ts : List Token) (s' : ReaderState) → level s ≤ L → walk L s ts ≡ came s' → level s' ≤ L
unfolding walk follow step admit
walk_within L s [] s' l e = let q : s ≡ s' = cc in rw q at l
walk_within L s (t ∷ ts) s' l e = by_move (move s t) (move_level s t) (ltb (level s) L) (ltb-true _ _) e (λ x. walk_within L x ts s')
  where
    by_move : (m : Move) → Leveled t (level s) m → (b : Bool) → (b ≡ true → level s < L) → follow (admit b m) (λ x. walk L x ts) (t ∷ ts) ≡ came s'
        → ((x : ReaderState) → level x ≤ L → walk L x ts ≡ came s' → level s' ≤ L) → level s' ≤ L
    by_move (takes x) i b g e f = f x (omega arith) e
    by_move (opens x) (o, i) true g e f = let j : level s < L = g refl in f x (omega arith) e
    by_move (opens x) i false g e f = no_came _ e refl
    by_move stuck i b g e f = no_came _ e refl
    by_move breaks i b g e f = no_came _ e refl
