-- The reader's steps over the tokens of a text, from one to the next. Assumes nothing.
use Prim.Native.Nat.{ℕ, ◌+◌, ◌≤◌, ◌<◌}
use native.Mathlib.Omega.{arith}
use mathlib.Core.Path.{◌≡◌, refl, sym, ap, ◌∙◌}
use Rattle.std.specs.Prelude.{Some}
use mathlib.Core.List.{List, [], ◌∷◌, ◌++◌, append_assoc}
use lib.ListN.{length}
use borrow.Author.Tests.{le-ltb}
use Rattle.token.specs.Texts.{text_limit}
use Rattle.filter.specs.Levels.{level_limit}
use Rattle.token.specs.Tokens.{Token, Placed, placed}
use Rattle.token.specs.Next.{Closed, next_at, token_in}
use Rattle.token.specs.declared.Sort.TheVariants.{End}
use Rattle.token.specs.declared.Lexeme.{Lexeme}
use Rattle.token.proofs.Nexts.{Took, next_end, next_token}
use Rattle.token.proofs.Again.{next_again, left_again, closed_again, next_after}
use Rattle.filter.specs.Grammar.{Part}
use Rattle.filter.specs.Answers.{bare}
use Rattle.filter.specs.Reader.{Hole, depth, ReaderState, level, Why, bad, broken, deep, takes, opens, stuck, breaks, refused, conclude, finish, answered, admit, move, step, stop, walk}
use Rattle.filter.specs.Answering.{refusal_of, start_of}
use Rattle.filter.specs.Parsing.{from, run, begins, Ready, Passed, Stopped}
use Rattle.filter.proofs.Walks.{walk_takes, walk_go, walk_stop, step_opens}

-- the first token is ready
pub ready_first : {text : List ℕ} {at n : ℕ} → length text ≤ text_limit → Closed text at → n ≤ at → Ready text (next_at text at) n
ready_first s c h = record { short = s; closed = closed_again c; here = next_again c; few = omega (arith, next_after c) }

-- nothing is left: the state decides
pub run_none : (x : ReaderState) → run x [] ≡ conclude (finish x)
unfolding run bare walk answered
run_none x = refl

module _ {text : List ℕ} {t : Lexeme} {n : ℕ} (ready : Ready text t n) where
  -- where the text ends, no token is left
  pub end_none : t.sort ≡ End → (from text t ≡ []) × (t.start ≡ length text)
  end_none k = let x = next_end ready.closed (ap (λ (l : Lexeme). l.sort) ready.here ∙ k) in (x.0, sym (ap (λ (l : Lexeme). l.start) ready.here) ∙ x.1)

  module _ {a : Token} (token : token_in text t ≡ Some a) where
    took : Took text t.start t a
    took = rw ready.here at (next_token ready.closed (ap (token_in text) ready.here ∙ token))

    -- its first byte is before its end, and that within the text
    pub token_within : (t.start < t.end) × (t.end ≤ length text)
    token_within = (took.ends, took.within)

    -- the token behind it is ready, for one record more
    pub ready_next : Ready text (next_at text t.end) (n + 1)
    ready_next = ready_first ready.short took.closed (omega (arith, ready.few, took.ends))

    -- it starts behind this one's end
    pub next_behind : t.end ≤ (next_at text t.end).start
    next_behind = next_after took.closed

    -- this token, and those from the next one on
    pub from_next : from text t ≡ placed t.start a ∷ from text (next_at text t.end)
    from_next = took.left_is ∙ ap (λ (ps : List Placed). placed t.start a ∷ ps) (sym (left_again took.closed))

    -- fewer tokens are left behind it
    pub fewer_next : length (from text (next_at text t.end)) < length (from text t)
    fewer_next = omega (arith, ap length from_next)

    module _ (x : ReaderState) where
      -- a token that is taken
      pub run_takes : {y : ReaderState} → move x a ≡ takes y → run x (from text t) ≡ run y (from text (next_at text t.end))
      unfolding run bare
      run_takes {y} e = rw from_next (ap answered (walk_takes level_limit x y a (bare (from text (next_at text t.end))) e))

      -- one that opens a level, where there is room
      pub run_opens : {y : ReaderState} → move x a ≡ opens y → level x < level_limit → run x (from text t) ≡ run y (from text (next_at text t.end))
      unfolding run bare
      run_opens {y} e l = rw from_next (ap answered (walk_go level_limit x y a (bare (from text (next_at text t.end))) (step_opens level_limit x y a e l)))

      -- a step that stops
      run_stops : {w : Why} → step level_limit x a ≡ stop w → run x (from text t) ≡ refused w (bare (from text t))
      unfolding run bare answered
      run_stops {w} e = rw from_next (ap answered (walk_stop level_limit x w a (bare (from text (next_at text t.end))) e))

      -- a token that nothing takes
      pub run_stuck : move x a ≡ stuck → run x (from text t) ≡ refused bad (bare (from text t))
      unfolding step admit
      run_stuck e = run_stops (ap (admit _) e)

      -- an operand that breaks its test's rule
      pub run_breaks : move x a ≡ breaks → run x (from text t) ≡ refused broken (bare (from text t))
      unfolding step admit
      run_breaks e = run_stops (ap (admit _) e)

      -- one that opens a level too many
      pub run_deep : {y : ReaderState} → move x a ≡ opens y → level_limit ≤ level x → run x (from text t) ≡ refused deep (bare (from text t))
      unfolding step admit
      run_deep {y} e l = run_stops (ap (admit _) e ∙ ap (λ b. admit b (opens y)) (le-ltb (level x) level_limit l))

    -- the place of this token
    pub start_token : start_of (length text) (from text t) ≡ t.start
    unfolding start_of
    start_token = rw from_next

  -- the end's place
  pub start_end : t.sort ≡ End → start_of (length text) (from text t) ≡ t.start
  unfolding start_of
  start_end k = rw (end_none k).0 (sym (end_none k).1)

-- a part that is refused at its first token, whatever stands around it
pub stopped_here : (p : Part) {text : List ℕ} {lv : ℕ} {t : Lexeme} (w : Why) → start_of (length text) (from text t) ≡ t.start
    → ((h : Hole p) → depth h ≡ lv → run (begins p h) (from text t) ≡ refused w (bare (from text t))) → Stopped p text lv t (refusal_of w) t.start
stopped_here p {text} {lv} {t} w e f = record { why = w; front = []; rest = from text t; named = refl; joined = refl; there = e; stops = f }

-- ---- tokens that were passed

-- none
pub passed_none : {text : List ℕ} {t : Lexeme} → Passed text t t
passed_none = record { front = []; joined = refl }

-- one
pub passed_next : {text : List ℕ} {t : Lexeme} {n : ℕ} → Ready text t n → {a : Token} → token_in text t ≡ Some a → Passed text t (next_at text t.end)
passed_next {t = t} ready {a} token = record { front = placed t.start a ∷ []; joined = from_next ready token }

-- some, and then others
pub passed_both : {text : List ℕ} {t u v : Lexeme} → Passed text t u → Passed text u v → Passed text t v
passed_both {text} {t} {u} {v} p q = record {
  front = p.front ++ q.front;
  joined = p.joined ∙ rw q.joined (sym (append_assoc p.front q.front (from text v)));
}
