-- Sides joined by an operator: conjunctions of factors, and expressions of conjunctions. Assumes nothing.
use Prim.Native.Nat.{ℕ, ◌+◌, ◌-◌, ◌*◌, ◌<◌}
use native.Mathlib.Omega.{arith}
use mathlib.Core.Path.{◌≡◌, refl, sym, ap, ◌∙◌}
use Rattle.std.specs.Prelude.{Some, Result, Ok, Err}
use mathlib.Core.List.{List}
use lib.ListN.{length}
use lib.Seq.{sets, length-sets}
use Rattle.program.specs.Readings.{Operator, and, or, Reading, joint, weight}
use Rattle.program.specs.Kinds.{operator_kind}
use Rattle.program.specs.Layout.{record_size, fields, laid}
use Rattle.program.specs.Compiling.{program_of}
use Rattle.token.specs.Tokens.{Word, word}
use Rattle.token.specs.Next.{next_at, token_in}
use Rattle.token.specs.declared.Lexeme.{Lexeme}
use Rattle.filter.specs.Words.{joins, role_of}
use Rattle.filter.specs.Grammar.{Part, expression, conjunction, factor}
use Rattle.filter.specs.Reader.{Hole, first, oring, head, anding, depth, ReaderState, want, takes, settle, outer, again, join, move}
use Rattle.filter.specs.Parsing.{role_in, first_role, from, run, begins, Stood, Over, Ready, Read, PartSays}
use Rattle.filter.specs.declared.Refused.{Refused}
use Rattle.filter.specs.declared.Upto.{Upto}
use Rattle.filter.proofs.Overlay.{wrote_pass}
use Rattle.filter.proofs.Steps.{token_within, ready_next, next_behind, run_takes, passed_none, passed_next, passed_both}
use Rattle.filter.proofs.ReadyTokens.{first_role_lem, Worded, worded, next_fewer}
use Rattle.filter.proofs.Parts.{read_ready, stopped_in, says_read, says_stopped}

-- ---- what an operator joins

-- its sides, and what it makes of them
abbrev pub side : Operator → Part
side and = factor
side or = conjunction

abbrev pub chain : Operator → Part
chain and = conjunction
chain or = expression

-- what stands around a first side, and around one behind others
abbrev alone : (o : Operator) → Hole (chain o) → Hole (side o)
alone and h = head h
alone or h = first h

abbrev behind : (o : Operator) → Reading → Hole (chain o) → Hole (side o)
behind and a h = anding a h
behind or a h = oring a h

-- the reading of joined sides begins with the first
begins_alone : (o : Operator) (h : Hole (chain o)) → begins (chain o) h ≡ begins (side o) (alone o h)
unfolding begins
begins_alone and h = refl
begins_alone or h = refl

-- around a first side as many levels are open
depth_alone : (o : Operator) (h : Hole (chain o)) → depth (alone o h) ≡ depth h
unfolding depth
depth_alone and h = refl
depth_alone or h = refl

-- and around one behind others
depth_behind : (o : Operator) (a : Reading) (h : Hole (chain o)) → depth (behind o a h) ≡ depth h
unfolding depth
depth_behind and a h = refl
depth_behind or a h = refl

-- a first side that was read
stood_alone : (o : Operator) (r : Reading) (h : Hole (chain o)) (s : ReaderState) → Stood (side o) r (alone o h) s → Stood (chain o) r h s
unfolding Stood settle outer
stood_alone and r h s e = e
stood_alone or r h s e = (r, first h, refl, e)

-- one behind others
stood_behind : (o : Operator) (a b : Reading) (h : Hole (chain o)) (s : ReaderState) → Stood (side o) b (behind o a h) s → Stood (chain o) (joint o a b) h s
unfolding Stood settle outer
stood_behind and a b h s e = e
stood_behind or a b h s e = (b, oring a h, refl, e)

-- the operator's word behind what was read
joins_moves : (o : Operator) (a : Reading) (h : Hole (chain o)) (s : ReaderState) (w : Word) → Stood (chain o) a h s → role_of w ≡ Some (joins o)
    → move s (word w) ≡ takes (begins (side o) (behind o a h))
unfolding Stood begins move join again
joins_moves and a h s w e q = rw e (ap (join a h) q)
joins_moves or a h s w (c, k, x, e) q = rw e (ap (join c k) q ∙ ap (λ z. takes (want (again z))) x)

-- ---- sides joined by an operator

-- some sides were read, and the last of them ends there
pub record Sofar (o : Operator) (text : List ℕ) (lv : ℕ) (t : Lexeme) (n : ℕ) (old : List ℕ) (u : Upto) (new : List ℕ) : Type 0 where
  pub read : Read (chain o) text lv t n old u.next u.n new
  pub over : Over (side o) (from text u.next)
  pub ready : Ready text u.next u.n

-- the buffer's length is kept
pub sofar_length : {o : Operator} {text old new : List ℕ} {lv n : ℕ} {t : Lexeme} {u : Upto} → Sofar o text lv t n old u new → length new ≡ length old
sofar_length {old = old} {n = n} g = ap length g.read.wrote ∙ length-sets old (record_size * n) (program_of g.read.reading)

module _ (o : Operator) {text old : List ℕ} {lv n : ℕ} {t : Lexeme} where
  -- a first side
  pub sofar_first : {r : Result Upto Refused} {new : List ℕ} {u : Upto} → Ready text t n → PartSays (side o) text lv t n old r new → r ≡ Ok u
      → Sofar o text lv t n old u new
  sofar_first {new = new} {u = u} ready s e = record { read = lift (s.upto u e); over = s.over u e; ready = read_ready ready (s.upto u e) }
    where
      by_run : (x : Reading) (h : Hole (chain o))
          → (s : ReaderState) × Stood (side o) x (alone o h) s × (run (begins (side o) (alone o h)) (from text t) ≡ run s (from text u.next))
          → (s : ReaderState) × Stood (chain o) x h s × (run (begins (chain o) h) (from text t) ≡ run s (from text u.next))
      by_run x h (s, i, e) = (s, stood_alone o x h s i, ap (λ b. run b (from text t)) (begins_alone o h) ∙ e)

      lift : Read (side o) text lv t n old u.next u.n new → Read (chain o) text lv t n old u.next u.n new
      lift r = record {
        reading = r.reading;
        runs = λ h d. by_run r.reading h (r.runs (alone o h) (depth_alone o h ∙ d));
        closed = r.closed;
        here = r.here;
        passed = r.passed;
        fewer = r.fewer;
        light = r.light;
        count = r.count;
        wrote = r.wrote;
      }

  -- a first side that is refused
  pub first_stops : {r : Result Upto Refused} {new : List ℕ} {x : Refused} → r ≡ Err x → PartSays (side o) text lv t n old r new
      → PartSays (chain o) text lv t n old (Err x) new
  first_stops {x = x} e s =
      says_stopped
      (stopped_in (chain o) (side o) passed_none (s.refused x e) (λ h d. (alone o h, depth_alone o h ∙ d, ap (λ b. run b (from text t)) (begins_alone o h))))

  module _ {u : Upto} {mid : List ℕ} (g : Sofar o text lv t n old u mid) where
    -- no side more
    pub sofar_last : (role_in (token_in text u.next) ≡ Some (joins o) → ⊥) → PartSays (chain o) text lv t n old (Ok u) mid
    unfolding Over
    sofar_last f = says_read g.read (by_operator o g.over (λ e. f (sym (first_role_lem g.ready) ∙ e)))
      where
        by_operator : (o : Operator) → Over (side o) (from text u.next) → (first_role (from text u.next) ≡ Some (joins o) → ⊥) → Over (chain o) (from text u.next)
        by_operator and x f = f
        by_operator or x f = (x, f)

    module _ (role : role_in (token_in text u.next) ≡ Some (joins o)) where
      -- the operator's word
      operator_word : Worded (token_in text u.next) (joins o)
      operator_word = worded (token_in text u.next) role

      -- from it on a side is wanted
      side_wanted : (h : Hole (chain o)) → depth h ≡ lv
          → run (begins (chain o) h) (from text t) ≡ run (begins (side o) (behind o g.read.reading h)) (from text (next_at text u.next.end))
      side_wanted h d = by_run (g.read.runs h d)
        where
          by_run : (s : ReaderState) × Stood (chain o) g.read.reading h s × (run (begins (chain o) h) (from text t) ≡ run s (from text u.next))
              → run (begins (chain o) h) (from text t) ≡ run (begins (side o) (behind o g.read.reading h)) (from text (next_at text u.next.end))
          by_run (s, i, e) = e ∙ run_takes g.ready operator_word.token s (joins_moves o g.read.reading h s operator_word.bytes i operator_word.role)

      -- the token behind it is ready
      pub side_ready : {l : Lexeme} → l ≡ next_at text u.next.end → Ready text l (u.n + 1)
      side_ready e = rw e (ready_next g.ready operator_word.token)

      -- fewer tokens are left there
      pub side_fewer : {l : Lexeme} → l ≡ next_at text u.next.end → length (from text l) < length (from text u.next)
      side_fewer e = next_fewer g.ready operator_word.token e

      -- a side that is refused
      pub more_stops : {l : Lexeme} {r : Result Upto Refused} {late : List ℕ} {x : Refused} → l ≡ next_at text u.next.end → r ≡ Err x
          → PartSays (side o) text lv l (u.n + 1) mid r late → PartSays (chain o) text lv t n old (Err x) late
      more_stops {x = x} e f s =
          says_stopped
          (stopped_in (chain o) (side o) (passed_both g.read.passed (passed_next g.ready operator_word.token)) ((rw e at s).refused x f)
          (λ h d. (behind o g.read.reading h, depth_behind o g.read.reading h ∙ d, side_wanted h d)))

      -- a side more, with its pass
      more_read : {v : Lexeme} {j : ℕ} {late new : List ℕ} → Read (side o) text lv (next_at text u.next.end) (u.n + 1) mid v j late
          → new ≡ sets late (record_size * u.n) (laid (fields (operator_kind o) 0 (j - u.n - 1) 0 0)) → Read (chain o) text lv t n old v j new
      unfolding weight
      more_read {v} {j} r w = record {
        reading = joint o g.read.reading r.reading;
        runs = λ h d. by_run h d (r.runs (behind o g.read.reading h) (depth_behind o g.read.reading h ∙ d));
        closed = r.closed;
        here = r.here;
        passed = passed_both g.read.passed (passed_both (passed_next g.ready operator_word.token) r.passed);
        fewer = omega (arith, g.read.fewer, side_fewer refl, r.fewer);
        light = omega (arith, g.read.light, (token_within g.ready operator_word.token).0, next_behind g.ready operator_word.token, r.light);
        count = omega (arith, g.read.count, r.count);
        wrote = wrote_pass o g.read.reading r.reading old n g.read.wrote g.read.count r.wrote r.count w;
      }
        where
          by_run : (h : Hole (chain o)) → depth h ≡ lv
              → (s : ReaderState) × Stood (side o) r.reading (behind o g.read.reading h) s
              × (run (begins (side o) (behind o g.read.reading h)) (from text (next_at text u.next.end)) ≡ run s (from text v))
              → (s : ReaderState) × Stood (chain o) (joint o g.read.reading r.reading) h s × (run (begins (chain o) h) (from text t) ≡ run s (from text v))
          by_run h d (s, i, e) = (s, stood_behind o g.read.reading r.reading h s i, side_wanted h d ∙ e)

      -- the same, from the answers of the functions called
      pub sofar_more : {l : Lexeme} {v : Upto} {r : Result Upto Refused} {late new : List ℕ} → l ≡ next_at text u.next.end
          → PartSays (side o) text lv l (u.n + 1) mid r late → r ≡ Ok v
          → new ≡ sets late (record_size * u.n) (laid (fields (operator_kind o) 0 (v.n - u.n - 1) 0 0)) → Sofar o text lv t n old v new
      sofar_more {v = v} e s x w =
          let s' = rw e at s in
          record { read = more_read (s'.upto v x) w; over = s'.over v x; ready = read_ready (side_ready refl) (s'.upto v x) }
