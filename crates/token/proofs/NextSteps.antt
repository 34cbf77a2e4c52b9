-- What the next lexeme from a place on says of the tokens there. Assumes nothing.
use Prim.Native.Nat.{ℕ, suc, ◌+◌, ◌-◌, ◌≤◌, ◌<◌}
use native.Mathlib.Nat.{add-zero, lt_of_not-le}
use native.Mathlib.Numerals.{add-one}
use native.Mathlib.Decide.{dec_le}
use native.Mathlib.Omega.{arith}
use mathlib.Core.Path.{◌≡◌, refl, ap, ◌∙◌}
use mathlib.Core.Bool.{Bool, true, false}
use mathlib.Core.List.{List, [], ◌∷◌, ◌++◌}
use Rattle.std.specs.Prelude.{Some}
use lib.ListN.{length, get_or, take, drop, length-drop, drop_of_length-le}
use lib.Seq.{drop-cons, drop-drop, take_all}
use borrow.Author.Tests.{ne_eqb, le-leb, lt-leb}
use Rattle.octets.specs.Choice.{pick}
use Rattle.token.specs.Texts.{Blank}
use Rattle.token.specs.Tokens.{Token, open', close, bang, word, quoted, Mark, opening, closing, banging, Letter, Stops, at_end, before, placed}
use Rattle.token.specs.Lexer.{ByteSort, blank, quote, letter, mark, byte_sort, tokens, unclosed, between, emit, lex}
use Rattle.token.specs.Next.{lex_from, is_blank, is_letter, is_inner, run, run_end, lexeme, quote_at, start_at, next_at, bytes_of_sort, bytes_in, token_in}
use Rattle.token.specs.declared.Sort.{Sort}
use Rattle.token.specs.declared.Sort.TheVariants.{End, Open, Close, Bang, Word, Quoted, Unclosed}
use Rattle.token.specs.declared.Lexeme.{Lexeme}
use Rattle.token.proofs.ByteSorts.{OfSort, sort_sound}
use Rattle.token.proofs.ByteTests.{blank_sound, blank_not, letter_sound, letter_complete, letter_not, inner_sound, inner_not}
use Rattle.token.proofs.Lexer.{lex_nothing, lex_blank, lex_mark, lex_word, lex_quoted, lex_open}
use Rattle.token.proofs.Runs.{run_every, run_long, run_split, end_on, end_within, end_fails}

-- a token t of the text: these are the tokens from a place on, and its bytes are within what it takes
pub record Takes (text : List ℕ) (at : ℕ) (l : Lexeme) (t : Token) : Type 0 where
  pub is : token_in text l ≡ Some t
  pub lexed : lex_from text at ≡ emit (placed l.start t ∷ []) (lex_from text l.end)
  pub after : at ≤ l.start
  pub ends : l.start < l.end
  pub within : l.end ≤ length text
  pub sized : length (bytes_in text l) + l.start ≤ l.end

-- nothing but blanks up to the end, a quote that isn't closed, or a token
pub data Step (text : List ℕ) (at : ℕ) : Lexeme → Type 0 where
  at_last : lex_from text at ≡ tokens [] → Step text at (lexeme End (length text) (length text))
  opens : {p : ℕ} → lex_from text at ≡ unclosed p → Step text at (lexeme Unclosed p (length text))
  takes : {l : Lexeme} {t : Token} → Takes text at l t → Step text at l

-- the bytes from a place on are the one there and those after it
byte_first : (text : List ℕ) (p : ℕ) → p < length text → drop p text ≡ get_or text p 0 ∷ drop (p + 1) text
byte_first text p h = rw (add-one p) (drop-cons text p 0 h)

-- nothing is left
pub lex_past : (text : List ℕ) (p : ℕ) → length text ≤ p → lex_from text p ≡ tokens []
lex_past text p h = rw (drop_of_length-le text h) (lex_nothing p)

-- ---- blanks

-- blanks are passed
lex_blanks : (n : ℕ) (bs : List ℕ) → lex between n bs ≡ lex between (n + run is_blank bs) (drop (run is_blank bs) bs)
unfolding run
lex_blanks n [] = rw (add-zero n)
lex_blanks n (b ∷ bs) = go (is_blank b) refl (lex_blanks (suc n) bs)
  where
    go : (t : Bool) → is_blank b ≡ t → lex between (suc n) bs ≡ lex between (suc n + run is_blank bs) (drop (run is_blank bs) bs)
        → lex between n (b ∷ bs) ≡ lex between (n + pick t (suc (run is_blank bs)) 0) (drop (pick t (suc (run is_blank bs)) 0) (b ∷ bs))
    go true e f = lex_blank n bs (blank_sound b e) ∙ (f ∙ ap (λ i. lex between i (drop (run is_blank bs) bs)) (omega arith))
    go false e f = rw (add-zero n)

-- from a place on
pub blanks_from : (text : List ℕ) (at : ℕ) → lex_from text at ≡ lex_from text (run_end is_blank text at)
blanks_from text at = lex_blanks at (drop at text) ∙ ap (lex between (run_end is_blank text at)) (drop-drop (run is_blank (drop at text)) at text)

-- ---- what begins at a place with a byte

module _ (text : List ℕ) (p : ℕ) (h : p < length text) where
  -- a mark
  takes_mark : {b : ℕ} {t : Token} (k : Sort) → get_or text p 0 ≡ b → Mark b t
      → token_in text (lexeme k p (p + 1)) ≡ Some t → length (bytes_in text (lexeme k p (p + 1))) ≡ 0 → Takes text p (lexeme k p (p + 1)) t
  takes_mark {b} {t} k e m is z = record {
    is = is;
    lexed = ap (lex between p) (byte_first text p h) ∙ rw (e, add-one p) (lex_mark p (drop (suc p) text) m);
    after = omega arith;
    ends = omega arith;
    within = omega arith;
    sized = omega arith;
  }

  -- a word
  takes_word : Letter (get_or text p 0)
      → Takes text p (lexeme Word p (run_end is_letter text (p + 1))) (word (get_or text p 0 ∷ take (run is_letter (drop (p + 1) text)) (drop (p + 1) text)))
  unfolding bytes_of_sort
  takes_word l =
      let b = get_or text p 0 in
      let n = run is_letter (drop (p + 1) text) in
      let w = take n (drop (p + 1) text) in
      let e = run_end is_letter text (p + 1) in
      let long : length w ≡ n = run_long is_letter (drop (p + 1) text) in
      let size : e - p ≡ suc n = omega arith in
      let bytes : take (e - p) (drop p text) ≡ b ∷ w = rw (size, byte_first text p h) in
      let split : drop p text ≡ b ∷ (w ++ drop e text) = byte_first text p h ∙ ap (λ x. b ∷ x) (run_split is_letter text (p + 1)) in
      record {
        is = ap (λ x. Some (word x)) bytes;
        lexed = ap (lex between p) split
            ∙ (lex_word p l (run_every is_letter letter_sound (drop (p + 1) text)) (word_stops (dec_le (length text) e))
            ∙ ap (λ i. emit (placed p (word (b ∷ w)) ∷ []) (lex between i (drop e text))) (omega arith));
        after = omega arith;
        ends = omega arith;
        within = end_within is_letter text (p + 1) (omega arith);
        sized = rw bytes (omega arith);
      }
    where
      word_stops : Dec (length text ≤ run_end is_letter text (p + 1)) → Stops (drop (run_end is_letter text (p + 1)) text)
      word_stops (yes k) = rw (drop_of_length-le text k) at_end
      word_stops (no k) =
          let i : run_end is_letter text (p + 1) < length text = lt_of_not-le k in
          rw (byte_first text (run_end is_letter text (p + 1)) i) (before (letter_not _ (end_fails is_letter text (p + 1) i)))

  -- a quoted token
  takes_quoted : get_or text p 0 ≡ 39 → run_end is_inner text (p + 1) < length text
      → Takes text p (lexeme Quoted p (run_end is_inner text (p + 1) + 1)) (quoted (take (run is_inner (drop (p + 1) text)) (drop (p + 1) text)))
  unfolding bytes_of_sort
  takes_quoted q i =
      let n = run is_inner (drop (p + 1) text) in
      let w = take n (drop (p + 1) text) in
      let e = run_end is_inner text (p + 1) in
      let long : length w ≡ n = run_long is_inner (drop (p + 1) text) in
      let size : e + 1 - 1 - (p + 1) ≡ n = omega arith in
      let bytes : take (e + 1 - 1 - (p + 1)) (drop (p + 1) text) ≡ w = rw size in
      let split : drop p text ≡ 39 ∷ (w ++ (39 ∷ drop (e + 1) text)) =
      cc (byte_first text p h, run_split is_inner text (p + 1), byte_first text e i, inner_not (get_or text e 0) (end_fails is_inner text (p + 1) i)) in
      record {
        is = ap (λ x. Some (quoted x)) bytes;
        lexed = ap (lex between p) split
            ∙ (lex_quoted p (drop (e + 1) text) (run_every is_inner inner_sound (drop (p + 1) text))
            ∙ ap (λ i. emit (placed p (quoted w) ∷ []) (lex between i (drop (e + 1) text))) (omega arith));
        after = omega arith;
        ends = omega arith;
        within = omega arith;
        sized = rw bytes (omega arith);
      }

  -- a quote that isn't closed
  opens_quote : get_or text p 0 ≡ 39 → length text ≤ run_end is_inner text (p + 1) → Step text p (lexeme Unclosed p (length text))
  opens_quote q k =
      let l = drop (p + 1) text in
      let whole : take (run is_inner l) l ≡ l = take_all (run is_inner l) l (omega (arith, length-drop (p + 1) text)) in
      opens (ap (lex between p) (byte_first text p h ∙ ap (λ b. b ∷ l) q) ∙ lex_open p (rw whole at (run_every is_inner inner_sound l)))

  -- a quote
  steps_quote : get_or text p 0 ≡ 39 → Step text p (quote_at text p)
  unfolding quote_at
  steps_quote q = go (dec_le (length text) (run_end is_inner text (p + 1)))
    where
      go : Dec (length text ≤ run_end is_inner text (p + 1)) → Step text p (quote_at text p)
      go (yes k) = rw (le-leb _ _ k) (opens_quote q k)
      go (no k) = rw (lt-leb _ _ (lt_of_not-le k)) (takes (takes_quoted q (lt_of_not-le k)))

  -- any byte but a blank
  steps_byte : (b : ℕ) → get_or text p 0 ≡ b → (s : ByteSort) → OfSort b s → (Blank b → ⊥) → Step text p (start_at text p)
  unfolding start_at bytes_of_sort
  steps_byte b e blank k n = absurd (n k)
  steps_byte b e (mark t) opening n = rw (lt-leb _ _ h, e) (takes (takes_mark Open e opening refl refl))
  steps_byte b e (mark t) closing n = rw (lt-leb _ _ h, e) (takes (takes_mark Close e closing refl refl))
  steps_byte b e (mark t) banging n = rw (lt-leb _ _ h, e) (takes (takes_mark Bang e banging refl refl))
  steps_byte b e quote k n = rw (lt-leb _ _ h, e ∙ k) (steps_quote (e ∙ k))
  steps_byte b e letter l n =
      let m : Letter (get_or text p 0) = rw e l in
      rw (
        lt-leb _ _ h,
        ne_eqb (get_or text p 0) 40 (λ z. m.no_mark open' (rw z opening)),
        ne_eqb (get_or text p 0) 41 (λ z. m.no_mark close (rw z closing)),
        ne_eqb (get_or text p 0) 33 (λ z. m.no_mark bang (rw z banging)),
        ne_eqb (get_or text p 0) 39 m.no_quote,
        ← end_on is_letter text p h (letter_complete (get_or text p 0) m),
      ) (takes (takes_word m))

-- ---- from any place on

-- what begins where no blank stands
steps_start : (text : List ℕ) (p : ℕ) → (p < length text → Blank (get_or text p 0) → ⊥) → Step text p (start_at text p)
steps_start text p n = go (dec_le (length text) p)
  where
    go : Dec (length text ≤ p) → Step text p (start_at text p)
    go (yes k) = unfold start_at in rw (le-leb _ _ k) (at_last (lex_past text p k))
    go (no k) = steps_byte text p (lt_of_not-le k) (get_or text p 0) refl (byte_sort (get_or text p 0)) (sort_sound (get_or text p 0)) (n (lt_of_not-le k))

-- behind bytes that hold no token
step_behind : {text : List ℕ} {at p : ℕ} {l : Lexeme} → at ≤ p → lex_from text at ≡ lex_from text p → Step text p l → Step text at l
step_behind h e (at_last f) = at_last (e ∙ f)
step_behind h e (opens f) = opens (e ∙ f)
step_behind h e (takes t) = takes (record {
  is = t.is;
  lexed = e ∙ t.lexed;
  after = omega (arith, t.after);
  ends = t.ends;
  within = t.within;
  sized = t.sized;
})

-- the next lexeme is right
pub next_step : (text : List ℕ) (at : ℕ) → Step text at (next_at text at)
next_step text at =
    step_behind (omega arith) (blanks_from text at)
    (steps_start text (run_end is_blank text at) (λ h. blank_not (get_or text (run_end is_blank text at) 0) (end_fails is_blank text at h)))
