-- Tests: what the reader does with the tokens of one, and the records that it stands for. Assumes nothing.
use Prim.Native.Nat.{ℕ, ◌+◌, ◌*◌, ◌≤◌, ◌<◌}
use native.Mathlib.Omega.{arith}
use mathlib.Core.Path.{◌≡◌, refl, sym, ap, ◌∙◌}
use mathlib.Core.Bool.{true, false}
use Rattle.std.specs.Prelude.{Option, Some, None, Ok, Err}
use mathlib.Core.List.{List, [], ◌∷◌, append-nil}
use lib.ListN.{length, length-map}
use lib.Seq.{sets}
use Rattle.octets.specs.Writes.{Written}
use Rattle.program.specs.declared.Fields.{Fields}
use Rattle.program.specs.Readings.{weight, Test, test}
use Rattle.program.specs.Layout.{record_size, laid, head_fields, fields_of, encode_all}
use Rattle.program.specs.Compiling.{program_of, head_of, items_of, following_of, records}
use Rattle.token.specs.Texts.{text_limit}
use Rattle.token.specs.Tokens.{word, placed}
use Rattle.token.specs.Next.{next_at, bytes_in, token_in, Closed}
use Rattle.token.specs.declared.Sort.{Sort}
use Rattle.token.specs.declared.Sort.TheVariants.{End, Open, Close, Bang, Quoted, Unclosed, Word}
use Rattle.token.specs.declared.Lexeme.{Lexeme}
use Rattle.token.proofs.Nexts.{sort_token}
use Rattle.filter.specs.Words.{Role, joins, flag, name, role_of}
use Rattle.filter.specs.Grammar.{factor}
use Rattle.filter.specs.Answers.{bare}
use Rattle.filter.specs.Reader.{Hole, ReaderState, want, bad, stuck, refused, settle, conclude, finish, move, operand, Why, broken, begin, fill}
use Rattle.filter.specs.Answering.{refusal_of}
use Rattle.filter.specs.Parsing.{role_in, from, run, begins, Stood, Over, Ready, Passed, operand_sort, opens_level, refused_at, TestSays}
use Rattle.filter.specs.declared.Upto.{Upto}
use Rattle.filter.proofs.Steps.{run_none, end_none, token_within, ready_next, next_behind, from_next, fewer_next, run_takes, run_stuck, stopped_here, passed_next, passed_both, run_breaks}
use Rattle.octets.proofs.Choices.{never}
use Rattle.octets.proofs.Writes.{both}
use Rattle.program.specs.Records.{item}
use Rattle.program.proofs.MachineLaws.{items_counted}
use Rattle.operand.specs.declared.Name.{Name}
use Rattle.operand.specs.declared.Head.{Head}
use Rattle.operand.specs.Tests.{meaning, operand_meaning, following_meant, meant_of}
use Rattle.operand.proofs.Meanings.{meaning_sound}
use Rattle.filter.specs.declared.Refusal.TheVariants as refusals
use Rattle.filter.proofs.ReadyTokens.{ready_closed, token_sized, start_here, worded, no_test}
use Rattle.filter.proofs.Parts.{says_read, says_stopped}
use Rattle.filter.proofs.TestOperands.{Offered, offered, Headed, headed, none_meant, meaning_answered, means_few}

-- ---- a token that nothing takes

module _ {text : List ℕ} {t : Lexeme} {n : ℕ} (ready : Ready text t n) where
  -- at the end, in a state that wants more
  pub run_end : (x : ReaderState) → t.sort ≡ End → finish x ≡ None → run x (from text t) ≡ refused bad (bare (from text t))
  unfolding bare conclude
  run_end x k f = rw (end_none ready k).0 (run_none x ∙ ap conclude f)

-- a word with such a role is not taken
begin_stuck : (h : Hole factor) (r : Option Role) → no_test r ≡ true → begin h r ≡ stuck
unfolding begin
begin_stuck h None e = refl
begin_stuck h (Some (joins o)) e = refl
begin_stuck h (Some (flag x)) e = never e
begin_stuck h (Some (name k)) e = never e

module _ {text : List ℕ} {t : Lexeme} {n : ℕ} (ready : Ready text t n) where
  -- where a factor is wanted, a lexeme that opens no level and is no test
  stuck_factor : opens_level t.sort ≡ false → no_test (role_in (token_in text t)) ≡ true → (h : Hole factor) → run (want h) (from text t) ≡ refused bad (bare (from text t))
  unfolding move finish
  stuck_factor o r h = go t.sort refl o
    where
      go : (k : Sort) → t.sort ≡ k → opens_level k ≡ false → run (want h) (from text t) ≡ refused bad (bare (from text t))
      go End k o = run_end ready (want h) k refl
      go Open k o = never (sym o)
      go Close k o = run_stuck ready (sort_token text t k) (want h) refl
      go Bang k o = never (sym o)
      go Word k o = run_stuck ready (sort_token text t k) (want h) (begin_stuck h (role_of (bytes_in text t)) (rw (sort_token text t k) at r))
      go Quoted k o = run_stuck ready (sort_token text t k) (want h) refl
      go Unclosed k o = absurd (ready_closed ready k)

  -- where an operand is wanted, a lexeme that is none
  stuck_operand : operand_sort t.sort ≡ false → (m : Name) (h : Hole factor) → run (operand m h) (from text t) ≡ refused bad (bare (from text t))
  unfolding move finish
  stuck_operand o m h = go t.sort refl o
    where
      go : (k : Sort) → t.sort ≡ k → operand_sort k ≡ false → run (operand m h) (from text t) ≡ refused bad (bare (from text t))
      go End k o = run_end ready (operand m h) k refl
      go Open k o = run_stuck ready (sort_token text t k) (operand m h) refl
      go Close k o = run_stuck ready (sort_token text t k) (operand m h) refl
      go Bang k o = run_stuck ready (sort_token text t k) (operand m h) refl
      go Word k o = never (sym o)
      go Quoted k o = never (sym o)
      go Unclosed k o = absurd (ready_closed ready k)

  -- a lexeme that is no test is refused at its place
  pub no_test_lem : {old new : List ℕ} → opens_level t.sort ≡ false → no_test (role_in (token_in text t)) ≡ true → TestSays text t n old (Err (refused_at refusals.Token t.start)) new
  unfolding begins
  no_test_lem o r = record { says = λ level. says_stopped (stopped_here factor bad (start_here ready) (λ h d. stuck_factor o r h)) }

-- ---- a test that was read

-- a test stands from t up to u
pub record Taken (text : List ℕ) (t u : Lexeme) (x : Test) : Type 0 where
  pub runs : (h : Hole factor) → run (want h) (from text t) ≡ run (settle (test x) h) (from text u)
  pub closed : Closed text u.start
  pub here : next_at text u.start ≡ u
  pub passed : Passed text t u
  pub fewer : length (from text u) < length (from text t)
  pub light : t.start + weight (test x) ≤ u.start

-- a test that was read and written, as an answer
test_says : {text : List ℕ} {t u : Lexeme} {n m : ℕ} {old new : List ℕ} {x : Test} → Taken text t u x → m ≡ n + weight (test x) → new ≡ sets old (record_size * n) (program_of (test x))
    → TestSays text t n old (Ok (record { next = u; n = m })) new
unfolding begins Stood Over
test_says {x = x} k c w = record {
  says = λ level. says_read (record {
    reading = test x;
    runs = λ h d. (settle (test x) h, refl, k.runs h);
    closed = k.closed;
    here = k.here;
    passed = k.passed;
    fewer = k.fewer;
    light = k.light;
    count = c;
    wrote = w;
  }) tt;
}

-- a test whose record stands alone, as an answer
alone_says : {text : List ℕ} {t : Lexeme} {u : Upto} {n : ℕ} {old new : List ℕ} {x : Test} → Taken text t u.next x → items_of x ≡ [] → u.n ≡ n + 1
    → new ≡ sets old (record_size * n) (laid (head_fields (head_of x))) → TestSays text t n old (Ok u) new
unfolding weight records fields_of encode_all
alone_says {x = x} k i e w = test_says k (omega (arith, items_counted x, ap length i)) (w ∙ rw (i, append-nil (laid (head_fields (head_of x)))) refl)

-- a test whose other records stand behind its head, as an answer
followed_says : {text : List ℕ} {t u : Lexeme} {n m p z : ℕ} {old mid new : List ℕ} {x : Test} {f : Fields} → Taken text t u x → m ≡ length (following_of x) → f ≡ head_fields (head_of x)
    → Written old (record_size * n) (laid f) mid p → Written mid p (encode_all (following_of x)) new z → TestSays text t n old (Ok (record { next = u; n = n + 1 + m })) new
unfolding weight records fields_of encode_all
followed_says {x = x} {f = f} k c e w y =
    test_says k (omega (arith, c, length-map (items_of x) item, items_counted x)) ((both (laid f) (encode_all (following_of x)) w y).laid ∙ rw e refl)

-- ---- the tests

module _ {text : List ℕ} {t : Lexeme} {n : ℕ} (ready : Ready text t n) where
  -- a test with no operand
  flag_taken : {u : Lexeme} {x : Test} → role_in (token_in text t) ≡ Some (flag x) → items_of x ≡ [] → u ≡ next_at text t.end → Taken text t u x
  unfolding move begin weight
  flag_taken {u} {x} r i e =
      let w = worded (token_in text t) r in
      let next = ready_next ready w.token in
      rw e (record {
        runs = λ h. run_takes ready w.token (want h) (ap (begin h) w.role);
        closed = next.closed;
        here = next.here;
        passed = passed_next ready w.token;
        fewer = fewer_next ready w.token;
        light = omega (arith, (token_within ready w.token).0, next_behind ready w.token, items_counted x, ap length i);
      })

  -- and its record, as an answer
  pub flag_says : {u : Upto} {x : Test} {old new : List ℕ} → role_in (token_in text t) ≡ Some (flag x) → items_of x ≡ []
      → (u.next ≡ next_at text t.end) × (u.n ≡ n + 1) → new ≡ sets old (record_size * n) (laid (head_fields (head_of x))) → TestSays text t n old (Ok u) new
  flag_says r i e w = alone_says (flag_taken r i e.0) i e.1 w

  module _ {k : Name} {o : Lexeme} (r : role_in (token_in text t) ≡ Some (name k)) (e : o ≡ next_at text t.end) where
    -- the token behind a test's name is ready
    ready_operand : Ready text o (n + 1)
    ready_operand = rw e (ready_next ready (worded (token_in text t) r).token)

    -- it stands behind the name
    behind_name : t.end ≤ o.start
    behind_name = rw e (next_behind ready (worded (token_in text t) r).token)

    -- fewer tokens are left there
    fewer : length (from text o) < length (from text t)
    fewer = rw e (fewer_next ready (worded (token_in text t) r).token)

    -- there the reader wants an operand
    wants : (h : Hole factor) → run (want h) (from text t) ≡ run (operand k h) (from text o)
    unfolding move begin
    wants h = let w = worded (token_in text t) r in rw e (run_takes ready w.token (want h) (ap (begin h) w.role))

    -- a test is refused at the token behind its name
    behind : (w : Why) → ((h : Hole factor) → run (operand k h) (from text o) ≡ refused w (bare (from text o))) → {old new : List ℕ} → TestSays text t n old (Err (refused_at (refusal_of w) o.start)) new
    unfolding begins
    behind w f = record {
      says = λ level. says_stopped (record {
        why = w;
        front = placed t.start (word (worded (token_in text t) r).bytes) ∷ [];
        rest = from text o;
        named = refl;
        joined = rw e (from_next ready (worded (token_in text t) r).token);
        there = start_here ready_operand;
        stops = λ h d. wants h ∙ f h;
      });
    }

    -- no operand follows
    pub no_operand : {old new : List ℕ} → operand_sort o.sort ≡ false → TestSays text t n old (Err (refused_at refusals.Token o.start)) new
    no_operand q = behind bad (stuck_operand ready_operand q k)

    module _ {v : List ℕ} (q : operand_sort o.sort ≡ true) (b : v ≡ bytes_in text o) where
      -- the token behind the name is an operand
      offer : Offered text o
      offer = offered text o q

      -- an operand is no longer than a text
      operand_short : length v ≤ text_limit
      operand_short = rw b (omega (arith, token_sized ready_operand offer.is, token_within ready_operand offer.is, ready.short))

      -- its bytes decide
      decides : (h : Hole factor) → move (operand k h) offer.token ≡ fill h (operand_meaning k v)
      decides h = offer.moves k h ∙ ap (λ (w : List ℕ). fill h (meaning k w)) (sym b) ∙ ap (fill h) (sym (meaning_answered k v operand_short))

      -- it breaks its test's rule
      pub broken_operand : {old new : List ℕ} → None ≡ meant_of (operand_meaning k v) → TestSays text t n old (Err (refused_at refusals.Operand o.start)) new
      unfolding fill
      broken_operand m = behind broken (λ h. run_breaks ready_operand offer.is (operand k h) (decides h ∙ ap (fill h) (none_meant k v m)))

      module _ {h : Head} (m : Some h ≡ meant_of (operand_meaning k v)) where
        -- the test that is meant
        head_test : Headed k v h
        head_test = headed k v m

        -- no more records follow its head than the operand has bytes
        few : length (following_of head_test.test) ≤ length v
        few = means_few (meaning_sound k v (sym (meaning_answered k v operand_short) ∙ head_test.means))

        -- the reader takes the name and the operand
        named_taken : {u : Lexeme} → u ≡ next_at text o.end → Taken text t u head_test.test
        unfolding fill weight
        named_taken d =
            let name_token = (worded (token_in text t) r).token in
            let next = ready_next ready_operand offer.is in
            let x = head_test.test in
            rw d (record {
              runs = λ h. wants h ∙ run_takes ready_operand offer.is (operand k h) (decides h ∙ ap (fill h) head_test.means);
              closed = next.closed;
              here = next.here;
              passed = passed_both (rw e (passed_next ready name_token)) (passed_next ready_operand offer.is);
              fewer = omega (arith, fewer_next ready_operand offer.is, fewer);
              light = omega (
                arith,
                (token_within ready name_token).0,
                behind_name,
                token_sized ready_operand offer.is,
                next_behind ready_operand offer.is,
                few,
                items_counted x,
                length-map (items_of x) item,
                ap length b,
              );
            })

        -- its head and the records that follow
        pub named_says : {u : Lexeme} {old mid new : List ℕ} {p z : ℕ} → u ≡ next_at text o.end → Written old (record_size * n) (laid h.fields) mid p
            → Written mid p (encode_all (following_meant (operand_meaning k v))) new z → TestSays text t n old (Ok (record { next = u; n = n + 1 + h.following })) new
        named_says d w y = followed_says (named_taken d) head_test.following head_test.head w (rw head_test.means at y)
