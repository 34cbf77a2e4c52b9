-- Every state of the reader can be brought to an end, by closing what is open: so the tokens up to it lead on. Assumes nothing.
use Prim.Native.Nat.{ℕ}
use mathlib.Core.Path.{◌≡◌, refl, ap, ◌∙◌}
use Rattle.std.specs.Prelude.{Some}
use mathlib.Core.List.{List, [], ◌∷◌, ◌++◌}
use Rattle.program.specs.Readings.{Test, has_loop, and, or, Reading, test, neg, joint}
use Rattle.token.specs.Tokens.{Word, Token, close, bang, word}
use Rattle.filter.specs.Grammar.{Operand, a_word, Part, expression, conjunction, factor, Reads}
use Rattle.filter.specs.Levels.{Open}
use Rattle.filter.specs.Answers.{Alive, Leads, Stands}
use Rattle.filter.specs.Reader.{Hole, whole, grouping, first, oring, head, anding, negating, ReaderState, want, operand, have, level, came, settle, outer, end, finish, start, walk}
use Rattle.filter.proofs.Walks.{walk_takes, walk_join}
use Rattle.filter.proofs.Complete.{flag_moves, operand_moves, close_moves}
use Rattle.filter.proofs.Counts.{levels_open}
use Rattle.filter.proofs.Agree.{levels_within, open_level}
use Rattle.filter.proofs.Sound.{at_not, At, finish_at, walk_moves, walk_at}
use Rattle.operand.specs.declared.Name.{Name}
use Rattle.operand.specs.Tests.{StandsFor}
use Rattle.operand.proofs.Samples.{sample_text, sample_test, sample}
use Rattle.filter.proofs.Roles.{loops_word, loops_said}

-- the `)` that a hole wants
unfoldable pub closers : {p : Part} → Hole p → List Token
closers whole = []
closers (grouping h) = close ∷ closers h
closers (first h) = closers h
closers (oring a h) = closers h
closers (head h) = closers h
closers (anding a h) = closers h
closers (negating h) = closers h

-- these tokens bring a state to the end of a text
record Ends (L : ℕ) (s : ReaderState) (ts : List Token) : Type 0 where
  pub last : ReaderState
  pub reading : Reading
  pub walked : walk L s ts ≡ came last
  pub finished : finish last ≡ Some reading

-- a part that has been read in a hole, whatever it reads as, can be brought to the end
abbrev Closes : ℕ → (p : Part) → Hole p → Type 0
Closes L factor h = (r : Reading) → Ends L (settle r h) (closers h)
Closes L conjunction h = (r : Reading) → Ends L (have r h) (closers h)
Closes L expression h = (r c : Reading) (k : Hole conjunction) → outer c k ≡ (r, h) → Ends L (have c k) (closers h)

-- the tokens that bring a state to the end of a text
unfoldable pub closing : ReaderState → List Token
closing (want h) = word (loops_word) ∷ closers h
closing (operand k h) = word (sample_text k) ∷ closers h
closing (have r h) = closers h

module _ (L : ℕ) where
  -- a token first
  then_ends : (s s' : ReaderState) (t : Token) (ts : List Token) → walk L s (t ∷ ts) ≡ walk L s' ts → Ends L s' ts → Ends L s (t ∷ ts)
  then_ends s s' t ts e f = record { last = f.last; reading = f.reading; walked = e ∙ f.walked; finished = f.finished }

  -- every hole closes
  closes : {p : Part} (h : Hole p) → Closes L p h
  unfolding closers settle outer end finish walk
  closes whole = λ r c k q. record { last = have c k; reading = r; walked = refl; finished = ap end q }
  closes (grouping h) = λ r c k q.
      then_ends (have c k) (settle r h) close (closers h) (walk_takes L (have c k) (settle r h) close (closers h) (close_moves r h c k q)) (closes h r)
  closes (first h) = λ r. closes h r r (first h) refl
  closes (oring a h) = λ r. closes h (joint or a r) r (oring a h) refl
  closes (head h) = λ r. closes h r
  closes (anding a h) = λ r. closes h (joint and a r)
  closes (negating h) = λ r. closes h (neg r)

  -- every state ends
  ends : (s : ReaderState) → Ends L s (closing s)
  unfolding closing
  ends (want h) =
      then_ends (want h) _ (word (loops_word)) (closers h) (walk_takes L (want h) _ (word (loops_word)) (closers h) (flag_moves h (loops_said)))
      (closes h (test (has_loop)))
  ends (operand k h) =
      then_ends (operand k h) _ (word (sample_text k)) (closers h)
      (walk_takes L (operand k h) _ (word (sample_text k)) (closers h) (operand_moves h a_word (sample k)))
      (closes h (test (sample_test k)))
  ends (have r h) = closes h r

-- tokens that lead to a state are derived with its closing
ends_at : (ts : List Token) (s : ReaderState) (f : Ends 0 s (closing s)) → At ts s → Reads expression (ts ++ closing s) f.reading
ends_at ts s f a = rw f.finished at (finish_at (ts ++ closing s) f.last (rw f.walked at (walk_moves 0 ts s (closing s) a)))

-- so they have a reading with it
pub closed_at : (ts : List Token) (s : ReaderState) → At ts s → (r : Reading) × Reads expression (ts ++ closing s) r
closed_at ts s a = ((ends 0 s).reading, ends_at ts s (ends 0 s) a)

-- and are allowed
alive_at : (ts : List Token) (s : ReaderState) → At ts s → Alive ts
alive_at ts s a = record { more = closing s; reading = (closed_at ts s a).0; reads = (closed_at ts s a).1 }

-- tokens that are walked within a limit lead on within it
pub leads : (L : ℕ) (ts : List Token) (s : ReaderState) → walk L start ts ≡ came s → Leads L ts
leads L ts s e =
    record {
      more = closing s;
      reading = (ends 0 s).reading;
      reads = ends_at ts s (ends 0 s) (walk_at L ts s e);
      within =
          (levels_open _ L).0
          (levels_within L (ts ++ closing s) (ends L s).last (walk_join L start ts (closing s) s e ∙ (ends L s).walked) (ends_at ts s (ends 0 s) (walk_at L ts s e)));
    }

-- and have as many levels open as the state
pub opened : (L : ℕ) (ts : List Token) (s : ReaderState) → walk L start ts ≡ came s → Open ts (level s)
opened L ts s e =
    record {
      more = closing s;
      reading = (ends 0 s).reading;
      reads = ends_at ts s (ends 0 s) (walk_at L ts s e);
      counted = open_level L ts (closing s) s e (ends_at ts s (ends 0 s) (walk_at L ts s e));
    }

-- where an operand is wanted, a word or a quoted token stands as one: here, one that breaks the test's rule
pub breaks_rule : (ts : List Token) (t : Token) (k : Name) (h : Hole factor) (v : Word) → At ts (operand k h) → Operand t v → ((x : Test) → StandsFor k v x → ⊥)
    → (s : Stands ts t) × ((x : Test) → StandsFor s.test s.bytes x → ⊥)
breaks_rule ts t k h v (us, w, e, q, b) o n = (
  record {
    before = us;
    named = w;
    test = k;
    bytes = v;
    joined = e;
    begins = alive_at (us ++ (bang ∷ [])) (want (negating h)) (at_not b);
    says = q;
    operand = o;
  },
  n,
)
