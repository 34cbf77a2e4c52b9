-- A reader of tokens from left to right, one step to a token: what the code computes. What is unfinished stands in a hole.
use Rattle.std.specs.Prelude.{ℕ, suc, Bool, true, false, ltb, Option, None, Some}
use mathlib.Core.List.{List, [], ◌∷◌}
use Rattle.program.specs.Readings.{Test, and, or, Reading, test, neg, joint}
use Rattle.token.specs.Tokens.{Token, open', close, bang, word, quoted}
use Rattle.filter.specs.Words.{Role, joins, flag, name, role_of}
use Rattle.filter.specs.Grammar.{Part, expression, conjunction, factor}
use Rattle.operand.specs.declared.Name.{Name}
use Rattle.operand.specs.Tests.{meaning}

-- what stands around a part that is being read: a rule of the grammar with a gap in it, and what stands around that
pub data Hole : Part → Type 0 where
  whole : Hole expression
  grouping : Hole factor → Hole expression
  first : Hole expression → Hole conjunction
  oring : Reading → Hole expression → Hole conjunction
  head : Hole conjunction → Hole factor
  anding : Reading → Hole conjunction → Hole factor
  negating : Hole factor → Hole factor

-- the levels around a hole
unfoldable pub depth : {p : Part} → Hole p → ℕ
depth whole = 0
depth (grouping h) = suc (depth h)
depth (first h) = depth h
depth (oring a h) = depth h
depth (head h) = depth h
depth (anding a h) = depth h
depth (negating h) = suc (depth h)

-- a factor is wanted; or a test's operand; or factors have been read, and their conjunction may go on
pub data ReaderState : Type 0 where
  want : Hole factor → ReaderState
  operand : Name → Hole factor → ReaderState
  have : Reading → Hole conjunction → ReaderState

-- the levels open in a state
unfoldable pub level : ReaderState → ℕ
unfolding depth
level (want h) = depth h
level (operand k h) = depth h
level (have r h) = depth h

-- why a token or the end is refused: the paper's 4, 5 and 6
pub data Why : Type 0 where
  bad broken deep : Why

-- what a token does to a state: it is taken, or it is taken and opens a level, or nothing takes it, or it breaks its test's rule
pub data Move : Type 0 where
  takes opens : ReaderState → Move
  stuck breaks : Move

-- the reader goes on in a state, or stops
pub data Step : Type 0 where
  go : ReaderState → Step
  stop : Why → Step

-- where a list of tokens leads: to a state, or to a token that is refused, with those after it
pub data Way : Type 0 where
  came : ReaderState → Way
  stopped : Why → List Token → Way

-- the tokens from the refused one on; none, where the end is refused
pub data ReaderAnswer : Type 0 where
  ok : Reading → ReaderAnswer
  refused : Why → List Token → ReaderAnswer

-- a factor that reads as r has been read in h
unfoldable pub settle : Reading → Hole factor → ReaderState
settle r (head h) = have r h
settle r (anding a h) = have (joint and a r) h
settle r (negating h) = settle (neg r) h

-- a conjunction that reads as r has been read in h, and ends here: the expression so far, and what stands around it
unfoldable pub outer : Reading → Hole conjunction → Reading × Hole expression
outer r (first h) = (r, h)
outer r (oring a h) = (joint or a r, h)

-- an expression has been read, and `)` comes
unfoldable pub leave : Reading × Hole expression → Move
unfolding settle
leave e = elim e.1 [ whole ↦ stuck | grouping h ↦ takes (settle e.0 h) ]

-- an expression has been read, and `-or` comes
unfoldable pub again : Reading × Hole expression → Hole factor
again e = head (oring e.0 e.1)

-- an expression has been read, and the end comes
unfoldable pub end : Reading × Hole expression → Option Reading
end e = elim e.1 [ whole ↦ Some e.0 | grouping h ↦ None ]

-- a word comes where a factor is wanted
unfoldable pub begin : Hole factor → Option Role → Move
unfolding settle
begin h (Some (flag x)) = takes (settle (test x) h)
begin h (Some (name k)) = takes (operand k h)
begin h (Some (joins o)) = stuck
begin h None = stuck

-- an operand comes
unfoldable pub fill : Hole factor → Option Test → Move
unfolding settle
fill h None = breaks
fill h (Some x) = takes (settle (test x) h)

-- a word comes after factors
unfoldable pub join : Reading → Hole conjunction → Option Role → Move
unfolding again outer
join r h (Some (joins and)) = takes (want (anding r h))
join r h (Some (joins or)) = takes (want (again (outer r h)))
join r h (Some (flag x)) = stuck
join r h (Some (name k)) = stuck
join r h None = stuck

-- whether there is room for a level more decides only of a token that opens one
unfoldable pub admit : Bool → Move → Step
admit room (takes s) = go s
admit true (opens s) = go s
admit false (opens s) = stop deep
admit room stuck = stop bad
admit room breaks = stop broken

-- past a step: on from its state, or stopped at these tokens
unfoldable pub follow : Step → (ReaderState → Way) → List Token → Way
follow (go s) k us = k s
follow (stop w) k us = stopped w us

-- the end comes: the reading, if the state may end
unfoldable pub finish : ReaderState → Option Reading
unfolding end outer
finish (want h) = None
finish (operand k h) = None
finish (have r h) = end (outer r h)

-- an end that is none is refused
unfoldable pub conclude : Option Reading → ReaderAnswer
conclude None = refused bad []
conclude (Some r) = ok r

-- the answer, where the end comes after a walk
unfoldable pub answered : Way → ReaderAnswer
unfolding conclude finish
answered (came s) = conclude (finish s)
answered (stopped w ts) = refused w ts

-- nothing has been read
abbrev pub start : ReaderState
start = want (head (first whole))

-- what a token does
unfoldable pub move : ReaderState → Token → Move
unfolding begin fill join leave outer
move (want h) open' = opens (want (head (first (grouping h))))
move (want h) bang = opens (want (negating h))
move (want h) close = stuck
move (want h) (word w) = begin h (role_of w)
move (want h) (quoted v) = stuck
move (operand k h) open' = stuck
move (operand k h) bang = stuck
move (operand k h) close = stuck
move (operand k h) (word v) = fill h (meaning k v)
move (operand k h) (quoted v) = fill h (meaning k v)
move (have r h) open' = stuck
move (have r h) bang = stuck
move (have r h) close = leave (outer r h)
move (have r h) (word w) = join r h (role_of w)
move (have r h) (quoted v) = stuck

module _ (limit : ℕ) where
  -- the same, with at most that many levels
  unfoldable pub step : ReaderState → Token → Step
  unfolding admit level move
  step s t = admit (ltb (level s) limit) (move s t)

  -- where tokens lead from a state
  unfoldable pub walk : ReaderState → List Token → Way
  unfolding step follow
  walk s [] = came s
  walk s (t ∷ ts) = follow (step s t) (λ s'. walk s' ts) (t ∷ ts)

  -- the answer for these tokens, with at most that many levels open at once
  unfoldable pub read : List Token → ReaderAnswer
  unfolding walk answered
  read ts = answered (walk start ts)
