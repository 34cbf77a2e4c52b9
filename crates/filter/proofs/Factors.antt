-- Factors: what `!` and `(` open, and an expression that doesn't go on. Assumes nothing.
use Prim.Native.Nat.{ℕ, suc, ◌+◌, ◌*◌, ◌≤◌, ◌<◌}
use native.Mathlib.Omega.{arith}
use mathlib.Core.Path.{◌≡◌, refl, ap, ◌∙◌}
use Rattle.std.specs.Prelude.{Option, Some, None, Result, Ok, Err}
use mathlib.Core.Logic.{◌⊎◌, inl, inr}
use mathlib.Core.List.{List}
use lib.Seq.{sets}
use Rattle.program.specs.Readings.{and, or, Reading, neg, weight}
use Rattle.program.specs.Kinds.{flip_kind}
use Rattle.program.specs.Layout.{record_size, fields, laid}
use Rattle.filter.specs.Levels.{level_limit}
use Rattle.token.specs.Tokens.{Token, open', close, bang, word, quoted}
use Rattle.token.specs.Next.{next_at, bytes_in, token_in}
use Rattle.token.specs.declared.Sort.TheVariants.{End, Close}
use Rattle.token.specs.declared.Lexeme.{Lexeme}
use Rattle.token.proofs.Nexts.{sort_token}
use Rattle.filter.specs.Words.{Role, joins, flag, name, role_of}
use Rattle.filter.specs.Grammar.{Part, expression, conjunction, factor}
use Rattle.filter.specs.Answers.{bare, Opener, a_group, a_bang}
use Rattle.filter.specs.Reader.{Hole, grouping, negating, depth, ReaderState, want, have, level, bad, deep, opens, stuck, refused, settle, outer, leave, end, join, conclude, finish, move}
use Rattle.filter.specs.Parsing.{token_role, first_role, from, run, begins, Stood, Over, Ready, Read, Stopped, PartSays, refused_at}
use Rattle.filter.specs.declared.Refusal.TheVariants.{Token as aToken, Level}
use Rattle.filter.specs.declared.Refused.{Refused}
use Rattle.filter.specs.declared.Upto.{Upto}
use Rattle.filter.proofs.Complete.{close_moves}
use Rattle.filter.proofs.Overlay.{wrote_flip}
use Rattle.filter.proofs.Steps.{run_none, end_none, token_within, ready_next, next_behind, from_next, fewer_next, run_takes, run_opens, run_stuck, run_deep, start_token, stopped_here, passed_next, passed_both}
use Rattle.filter.proofs.ReadyTokens.{end_or_token, start_here, next_ready, close_sort}
use Rattle.filter.proofs.Parts.{read_ready, stopped_in, says_read, says_stopped}

-- what a token opens
abbrev opened : {a : Token} → Opener a → Part
opened a_group = expression
opened a_bang = factor

-- and what stands around that
abbrev inside : {a : Token} (x : Opener a) → Hole factor → Hole (opened x)
inside a_group h = grouping h
inside a_bang h = negating h

-- the token is taken and opens a level
opener_moves : {a : Token} (x : Opener a) (h : Hole factor) → move (want h) a ≡ opens (begins (opened x) (inside x h))
unfolding move begins
opener_moves a_group h = refl
opener_moves a_bang h = refl

-- one level more is open inside
depth_inside : {a : Token} (x : Opener a) (h : Hole factor) → depth (inside x h) ≡ suc (depth h)
unfolding depth
depth_inside a_group h = refl
depth_inside a_bang h = refl

module _ {text : List ℕ} {t : Lexeme} {n : ℕ} (ready : Ready text t n) {a : Token} (x : Opener a) (token : token_in text t ≡ Some a) where
  -- a level too many
  opens_deep : {lv : ℕ} → level_limit ≤ lv → Stopped factor text lv t Level t.start
  unfolding begins level
  opens_deep l = stopped_here factor deep (start_token ready token) (λ h d. run_deep ready token (want h) (opener_moves x h) (omega arith))

  -- as `deeper` says
  pub too_deep : {lv : ℕ} {r : Result ℕ Refused} {y : Refused} {old new : List ℕ} → ((z : Refused) → r ≡ Err z → (level_limit ≤ lv) × (z ≡ refused_at Level t.start)) → r ≡ Err y
      → PartSays factor text lv t n old (Err y) new
  too_deep f e = let d = f _ e in rw d.1 (says_stopped (opens_deep d.0))

  -- on to what is opened
  inside_wanted : {lv : ℕ} → lv < level_limit → (h : Hole factor) → depth h ≡ lv → run (begins factor h) (from text t) ≡ run (begins (opened x) (inside x h)) (from text (next_at text t.end))
  unfolding begins level
  inside_wanted l h d = run_opens ready token (want h) (opener_moves x h) (omega arith)

  -- what is opened is refused
  pub opened_stops : {lv : ℕ} {u : Lexeme} {r : Result Upto Refused} {old new : List ℕ} {y : Refused} {in_lv : ℕ} → (lv < level_limit) × (in_lv ≡ lv + 1) → u ≡ next_at text t.end → r ≡ Err y
      → PartSays (opened x) text in_lv u n old r new → PartSays factor text lv t n old (Err y) new
  opened_stops {y = y} (l, i) e f s =
      says_stopped
      (stopped_in factor (opened x) (passed_next ready token) ((rw e at s).refused y f)
      (λ h d. (inside x h, omega (arith, depth_inside x h, i), inside_wanted l h d)))

-- `!` around a factor that was read
negation_stood : (r : Reading) (h : Hole factor) (s : ReaderState) → Stood factor r (negating h) s → Stood factor (neg r) h s
unfolding Stood settle
negation_stood r h s e = e

-- `!` and a factor, with its flip
module _ {text old mid new : List ℕ} {t l : Lexeme} {u : Upto} {lv n : ℕ} {r : Result Upto Refused} (ready : Ready text t n) (token : token_in text t ≡ Some bang) where
  pub negation : {in_lv : ℕ} → (lv < level_limit) × (in_lv ≡ lv + 1) → l ≡ next_at text t.end → PartSays factor text in_lv l n old r mid → r ≡ Ok u
      → new ≡ sets mid (record_size * u.n) (laid (fields flip_kind 0 0 0 0)) → PartSays factor text lv t n old (Ok (record { next = u.next; n = u.n + 1 })) new
  unfolding Over weight
  negation (d, i) e s x w = says_read (lift ((rw (e, i) at s).upto u x) w) tt
    where
      by_run : (y : Reading) (h : Hole factor) → depth h ≡ lv
          → (s : ReaderState) × Stood factor y (negating h) s × (run (begins factor (negating h)) (from text (next_at text t.end)) ≡ run s (from text u.next))
          → (s : ReaderState) × Stood factor (neg y) h s × (run (begins factor h) (from text t) ≡ run s (from text u.next))
      by_run y h k (s, i, e) = (s, negation_stood y h s i, inside_wanted ready a_bang token d h k ∙ e)

      lift : Read factor text (lv + 1) (next_at text t.end) n old u.next u.n mid → new ≡ sets mid (record_size * u.n) (laid (fields flip_kind 0 0 0 0))
          → Read factor text lv t n old u.next (u.n + 1) new
      lift r w = record {
        reading = neg r.reading;
        runs = λ h k. by_run r.reading h k (r.runs (negating h) (omega (arith, depth_inside a_bang h)));
        closed = r.closed;
        here = r.here;
        passed = passed_both (passed_next ready token) r.passed;
        fewer = omega (arith, fewer_next ready token, r.fewer);
        light = omega (arith, (token_within ready token).0, next_behind ready token, r.light);
        count = ap (λ k. k + 1) r.count ∙ omega arith;
        wrote = wrote_flip r.reading old n r.wrote r.count w;
      }

-- ---- an expression that doesn't go on

-- only `)`, `-and` and `-or` are taken behind factors
stuck_behind : (c : Reading) (k : Hole conjunction) (a : Token) → (token_role a ≡ Some (joins and) → ⊥) → (token_role a ≡ Some (joins or) → ⊥)
    → (a ≡ close → leave (outer c k) ≡ stuck) → move (have c k) a ≡ stuck
unfolding move join
stuck_behind c k open' x y f = refl
stuck_behind c k close x y f = f refl
stuck_behind c k bang x y f = refl
stuck_behind c k (word w) x y f = by_role (role_of w) x y
  where
    by_role : (r : Option Role) → (r ≡ Some (joins and) → ⊥) → (r ≡ Some (joins or) → ⊥) → join c k r ≡ stuck
    by_role None x y = refl
    by_role (Some (joins and)) x y = absurd (x refl)
    by_role (Some (joins or)) x y = absurd (y refl)
    by_role (Some (flag z)) x y = refl
    by_role (Some (name z)) x y = refl
stuck_behind c k (quoted w) x y f = refl

-- what was read as an expression, and neither goes on nor ends there
pub unfinished : {text : List ℕ} {u : Lexeme} {m : ℕ} → Ready text u m → Over expression (from text u) → (h : Hole expression) (r : Reading) (s : ReaderState) → Stood expression r h s
    → (token_in text u ≡ Some close → leave (r, h) ≡ stuck) → (u.sort ≡ End → end (r, h) ≡ None) → run s (from text u) ≡ refused bad (bare (from text u))
unfolding Stood Over first_role bare finish conclude
unfinished {text} {u} ready (x, y) h r s (c, k, e, f) p q = rw f (go (end_or_token ready))
  where
    go : (u.sort ≡ End) ⊎ ((a : Token) × (token_in text u ≡ Some a)) → run (have c k) (from text u) ≡ refused bad (bare (from text u))
    go (inl i) = rw (end_none ready i).0 (run_none (have c k) ∙ ap (λ o. conclude (end o)) e ∙ ap conclude (q i))
    go (inr (a, i)) =
        let role : first_role (from text u) ≡ token_role a = ap first_role (from_next ready i) in
        run_stuck ready i (have c k) (stuck_behind c k a (λ z. x (role ∙ z)) (λ z. y (role ∙ z)) (λ z. ap leave e ∙ p (i ∙ ap Some z)))

-- `(` and an expression
module _ {text old new : List ℕ} {t l : Lexeme} {u : Upto} {lv n : ℕ} {r : Result Upto Refused} (ready : Ready text t n) {in_lv : ℕ} (token : token_in text t ≡ Some open') (deeper : (lv < level_limit) × (in_lv ≡ lv + 1))
    (e : l ≡ next_at text t.end) (s : PartSays expression text in_lv l n old r new) (x : r ≡ Ok u) where
  -- what was read inside
  inner : Read expression text (lv + 1) (next_at text t.end) n old u.next u.n new
  inner = (rw (e, deeper.1) at s).upto u x

  -- the token behind it is ready
  inner_ready : Ready text u.next u.n
  inner_ready = read_ready (next_ready ready token refl) inner

  -- no `)` follows
  pub group_stops : (u.next.sort ≡ Close → ⊥) → PartSays factor text lv t n old (Err (refused_at aToken u.next.start)) new
  unfolding leave end
  group_stops j = says_stopped record {
    why = bad;
    front = (passed_both (passed_next ready token) inner.passed).front;
    rest = from text u.next;
    named = refl;
    joined = (passed_both (passed_next ready token) inner.passed).joined;
    there = start_here inner_ready;
    stops = λ h k. by_run h k (inner.runs (grouping h) (omega (arith, depth_inside a_group h)));
  }
    where
      by_run : (h : Hole factor) → depth h ≡ lv
          → (s : ReaderState) × Stood expression inner.reading (grouping h) s
          × (run (begins expression (grouping h)) (from text (next_at text t.end)) ≡ run s (from text u.next))
          → run (begins factor h) (from text t) ≡ refused bad (bare (from text u.next))
      by_run h k (z, w, y) =
          inside_wanted ready a_group token deeper.0 h k
          ∙ (y ∙ unfinished inner_ready (s.over u x) (grouping h) inner.reading z w (λ b. absurd (j (close_sort u.next.sort (bytes_in text u.next) b))) (λ b. refl))

  -- `)` follows
  pub group : {v : Lexeme} → u.next.sort ≡ Close → v ≡ next_at text u.next.end → PartSays factor text lv t n old (Ok (record { next = v; n = u.n })) new
  unfolding Over Stood
  group {v} c f = rw f (says_read closes tt)
    where
      shut : token_in text u.next ≡ Some close
      shut = sort_token text u.next c

      by_run : (h : Hole factor) → depth h ≡ lv
          → (s : ReaderState) × Stood expression inner.reading (grouping h) s
          × (run (begins expression (grouping h)) (from text (next_at text t.end)) ≡ run s (from text u.next))
          → run (begins factor h) (from text t) ≡ run (settle inner.reading h) (from text (next_at text u.next.end))
      by_run h k (z, (c, g, o, q), y) =
          inside_wanted ready a_group token deeper.0 h k
          ∙ (y ∙ rw q (run_takes inner_ready shut (have c g) (close_moves inner.reading h c g o)))

      closes : Read factor text lv t n old (next_at text u.next.end) u.n new
      closes =
          let next = ready_next inner_ready shut in
          record {
            reading = inner.reading;
            runs = λ h k. (settle inner.reading h, refl, by_run h k (inner.runs (grouping h) (omega (arith, depth_inside a_group h))));
            closed = next.closed;
            here = next.here;
            passed = passed_both (passed_next ready token) (passed_both inner.passed (passed_next inner_ready shut));
            fewer = omega (arith, fewer_next ready token, inner.fewer, fewer_next inner_ready shut);
            light = omega (arith, (token_within ready token).0, next_behind ready token, inner.light, (token_within inner_ready shut).0, next_behind inner_ready shut);
            count = inner.count;
            wrote = inner.wrote;
          }
