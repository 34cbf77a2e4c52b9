-- A whole text: what is read of it is its answer, and the records are laid over the program buffer. Assumes nothing.
use Prim.Native.Nat.{ℕ, ◌*◌, ◌≤◌, ◌<◌}
use native.Mathlib.Nat.{le_antisymm}
use native.Mathlib.Omega.{arith}
use mathlib.Core.Path.{◌≡◌, refl, sym, ap, ◌∙◌}
use Rattle.std.specs.Prelude.{Result, Ok, Err}
use mathlib.Core.List.{List, [], ◌∷◌, ◌++◌}
use lib.ListN.{length}
use lib.Seq.{sets}
use borrow.Author.Tests.{lt-ltb, le-ltb}
use Rattle.octets.proofs.Writes.{sets_start}
use Rattle.program.specs.Layout.{record_size}
use Rattle.program.specs.Records.{weight_limit}
use Rattle.program.specs.Compiling.{records, program_of}
use Rattle.program.proofs.LayoutLaws.{encode_all_length}
use Rattle.program.proofs.MachineLaws.{length_records}
use Rattle.token.specs.Texts.{text_limit}
use Rattle.filter.specs.Levels.{level_limit}
use Rattle.token.specs.Lexer as lexer
use Rattle.token.specs.Next.{left, Closed, next_at, allowed_front, unclosed_at}
use Rattle.token.specs.declared.Sort.TheVariants.{End}
use Rattle.token.specs.declared.Lexeme.{Lexeme}
use Rattle.token.proofs.Again.{left_again}
use Rattle.token.proofs.Lexing.{read_unclosed}
use Rattle.token.proofs.Nexts.{closed_lexed, unclosed_closed, unclosed_found, unclosed_most}
use Rattle.filter.specs.Grammar.{expression}
use Rattle.filter.specs.Answers.{bare, compiled, refused}
use Rattle.filter.specs.Reader.{whole, depth, ReaderState, have, bad, ReaderAnswer, ok, leave, end, conclude, finish, read}
use Rattle.filter.specs.Reader as reader
use Rattle.filter.specs.Answering.{fitted, judged, lexed, answer}
use Rattle.filter.specs.Functions.{compiling_of, compiling, our_compiler}
use Rattle.filter.specs.Parsing.{from, run, begins, Stood, Ready, Read, PartSays, WholeRead, WholeStopped, Whole, refused_at}
use Rattle.filter.specs.declared.Refusal.{Refusal}
use Rattle.filter.specs.declared.Refusal.TheVariants.{Length, Byte, Quote, Token as aToken, Weight, Room}
use Rattle.filter.specs.declared.Refused.{Refused}
use Rattle.filter.specs.declared.Upto.{Upto}
use Rattle.filter.proofs.Walks.{no_ok}
use Rattle.filter.proofs.Places.{place_left}
use Rattle.filter.proofs.Steps.{ready_first, run_none, end_none}
use Rattle.filter.proofs.ReadyTokens.{start_here}
use Rattle.filter.proofs.Parts.{read_ready}
use Rattle.filter.proofs.Factors.{unfinished}

-- ---- what `parse` promises

module _ {text old new : List ℕ} where
  -- a text that was read
  whole_says_read : {m : ℕ} → WholeRead text old m new → Whole text old (Ok m) new
  whole_says_read {m} r = record {
    read = λ j e. let x : m ≡ j = cc in rw (← x) r;
    refused = λ x e. let z : ◌≡◌ {A = ℕ} 0 1 = cc in absurd (omega arith);
  }

  -- one that was refused
  whole_says_stopped : {x : Refused} → WholeStopped text x.refusal x.place → Whole text old (Err x) new
  whole_says_stopped {x} s = record {
    read = λ j e. let z : ◌≡◌ {A = ℕ} 0 1 = cc in absurd (omega arith);
    refused = λ y e. let z : x ≡ y = cc in rw (← z) s;
  }

module _ {text : List ℕ} {t : Lexeme} (short : length text ≤ text_limit) (closed : Closed text 0) (next : t ≡ next_at text 0) where
  -- the first token is ready
  pub whole_ready : Ready text t 0
  whole_ready = rw next (ready_first short closed (omega arith))

  -- all tokens are left there
  all_left : left text 0 ≡ from text t
  all_left = rw next (sym (left_again closed))

  -- the reader begins there
  whole_begins : read level_limit (bare (left text 0)) ≡ run (begins expression whole) (from text t)
  unfolding read run begins
  whole_begins = ap (run (begins expression whole)) all_left

  module _ {old new : List ℕ} {r : Result Upto Refused} (s : PartSays expression text 0 t 0 old r new) where
    -- the expression is refused
    pub whole_stops : {y : Refused} → r ≡ Err y → Whole text old (Err y) new
    unfolding depth
    whole_stops {y} e =
        let x = s.refused y e in
        whole_says_stopped record {
          why = x.why;
          rest = bare x.rest;
          stops = whole_begins ∙ x.stops whole refl;
          named = x.named;
          there = rw (all_left ∙ x.joined) (place_left (length text) x.front x.rest ∙ x.there);
        }

    module _ {u : Upto} (e : r ≡ Ok u) where
      -- what was read
      got : Read expression text 0 t 0 old u.next u.n new
      got = s.upto u e

      -- the token behind it is ready
      behind : Ready text u.next u.n
      behind = read_ready whole_ready got

      -- a token is left behind it
      pub whole_rest : (u.next.sort ≡ End → ⊥) → Whole text old (Err (refused_at aToken u.next.start)) new
      unfolding depth leave
      whole_rest j = whole_says_stopped record {
        why = bad;
        rest = bare (from text u.next);
        stops = whole_begins ∙ by_run (got.runs whole refl);
        named = refl;
        there = rw (all_left ∙ got.passed.joined) (place_left (length text) got.passed.front (from text u.next) ∙ start_here behind);
      }
        where
          by_run : (z : ReaderState) × Stood expression got.reading whole z × (run (begins expression whole) (from text t) ≡ run z (from text u.next))
              → run (begins expression whole) (from text t) ≡ reader.refused bad (bare (from text u.next))
          by_run (z, w, y) =
              y ∙ unfinished behind (s.over u e) whole got.reading z w (λ b. refl) (λ b. absurd (j b))

      -- none is
      pub whole_read : u.next.sort ≡ End → Whole text old (Ok u.n) new
      unfolding depth Stood finish end conclude
      whole_read k = whole_says_read record {
        reading = got.reading;
        reads = whole_begins ∙ by_run (got.runs whole refl);
        count = got.count ∙ omega arith;
        light = omega (arith, got.count, got.light, behind.closed.here);
        wrote = got.wrote;
      }
        where
          by_run : (z : ReaderState) × Stood expression got.reading whole z × (run (begins expression whole) (from text t) ≡ run z (from text u.next))
              → run (begins expression whole) (from text t) ≡ ok got.reading
          by_run (z, (c, g, o, f), y) = y ∙ rw (f, (end_none behind k).0) (run_none (have c g) ∙ ap (λ o. conclude (end o)) o)

-- ---- what `compile` promises

-- a part of no bytes, put back before what follows it
pub put_back : (part l : List ℕ) → length part ≡ 0 → part ++ l ≡ l
put_back [] l e = refl
put_back (b ∷ part) l e = absurd (omega arith)

-- the answer and the buffer are those of our compiler
abbrev pub Given : List ℕ → List ℕ → Result ℕ Refused → List ℕ → Type 0
Given text old r new = compiling_of r new ≡ our_compiler text old

-- a refusal leaves the buffer as it was
given_refused : (text old : List ℕ) {k : Refusal} {place : ℕ} → answer text (length old) ≡ refused k place → Given text old (Err (refused_at k place)) old
unfolding compiling_of
given_refused text old e = sym (ap (λ o. compiling o old) e)

-- 1
pub given_long : (text old : List ℕ) → text_limit < length text → Given text old (Err (refused_at Length 0)) old
unfolding answer
given_long text old h = given_refused text old (simp (lt-ltb _ _ h))

module _ (text old : List ℕ) {byte : ℕ} (short : length text ≤ text_limit) (front : byte ≡ allowed_front text) where
  -- 2
  pub given_byte : byte < length text → Given text old (Err (refused_at Byte byte)) old
  unfolding answer
  given_byte h = rw front (given_refused text old (simp (le-ltb _ _ short, lt-ltb _ _ (rw front at h))))

  module _ {quote : ℕ} (allowed : length text ≤ byte) (place : quote ≡ unclosed_at text) where
    -- what is left of the answer
    answer_lexed : answer text (length old) ≡ lexed (length text) (length old) (lexer.read text)
    unfolding answer
    answer_lexed = simp (le-ltb _ _ short, le-ltb _ _ (rw front at allowed))

    -- 3
    pub given_quote : quote < length text → Given text old (Err (refused_at Quote quote)) old
    given_quote h =
        let e = (read_unclosed text (unclosed_at text)).1 ((unclosed_found text).0 (rw place at h)) in
        rw place (given_refused text old (answer_lexed ∙ ap (lexed (length text) (length old)) e))

    module _ (quotes : length text ≤ quote) where
      -- every quote is closed
      pub given_closed : Closed text 0
      given_closed = unclosed_closed text (le_antisymm (unclosed_most text) (rw place at quotes))

      -- what is left of the answer then
      answer_judged : {a : ReaderAnswer} → read level_limit (bare (left text 0)) ≡ a → answer text (length old) ≡ judged (length text) (left text 0) (length old) a
      answer_judged e =
          answer_lexed ∙ (ap (lexed (length text) (length old)) (closed_lexed given_closed) ∙ ap (judged (length text) (left text 0) (length old)) e)

      -- 4 to 6
      pub given_stopped : {k : Refusal} {place : ℕ} → WholeStopped text k place → Given text old (Err (refused_at k place)) old
      given_stopped w = given_refused text old (answer_judged w.stops ∙ rw (w.named, w.there))

      module _ {lo hi : List ℕ} {n : ℕ} (w : WholeRead text lo n hi) where
        -- and where the reader reads the text
        answer_fitted : answer text (length old) ≡ fitted (length old) w.reading
        answer_fitted = answer_judged w.reads

        -- 7
        pub given_heavy : weight_limit < n → Given text old (Err (refused_at Weight 0)) old
        given_heavy h = given_refused text old (answer_fitted ∙ simp (lt-ltb _ _ (rw w.count at h)))

        module _ (light : n ≤ weight_limit) where
          -- 8
          pub given_room : length old < record_size * n → Given text old (Err (refused_at Room 0)) old
          given_room h = given_refused text old (answer_fitted ∙ simp (le-ltb _ _ (rw w.count at light), lt-ltb _ _ (rw w.count at h)))

          -- the text is read again as it was
          again : {m : ℕ} {new : List ℕ} → WholeRead text old m new → new ≡ sets old 0 (program_of w.reading)
          again y =
              let e : y.reading ≡ w.reading = cc (y.reads, w.reads) in
              y.wrote ∙ ap (λ r. sets old 0 (program_of r)) e

          -- and is not refused then
          pub not_stopped : {k : Refusal} {place : ℕ} → WholeStopped text k place → ⊥
          not_stopped x = no_ok _ w.reads x.stops

          -- the program
          pub given_program : {m : ℕ} {new : List ℕ} → record_size * n ≤ length old → WholeRead text old m new → Given text old (Ok (record_size * n)) new
          unfolding compiling_of
          given_program h x =
              let long : length (program_of w.reading) ≤ length old = omega (arith, encode_all_length (records w.reading), length_records w.reading, w.count) in
              let e : answer text (length old) ≡ compiled w.reading =
              answer_fitted ∙ simp (le-ltb _ _ (rw w.count at light), le-ltb _ _ (rw w.count at h)) in
              rw (e, again x ∙ sets_start (program_of w.reading) old long, w.count)
