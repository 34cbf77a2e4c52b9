-- The steps of the lexer, token by token. Assumes nothing.
use Prim.Native.Nat.{ℕ, suc, ◌+◌}
use native.Mathlib.Omega.{arith}
use native.Mathlib.Nat.{add-zero}
use mathlib.Core.Path.{◌≡◌, refl, sym, ap, ◌∙◌}
use mathlib.Core.List.{List, [], ◌∷◌, ◌++◌, append_assoc, append-nil}
use lib.ListN.{length}
use Rattle.octets.specs.Lists.{Every, every_none, every_more}
use Rattle.token.specs.Texts.{Blank}
use Rattle.token.specs.Tokens.{Word, Token, word, quoted, Mark, Letter, Inner, Stops, at_end, before, Placed, placed}
use Rattle.token.specs.Lexer.{ByteSort, blank, quote, letter, mark, byte_sort, Lexed, tokens, unclosed, Mode, between, in_word, in_quote, eat, emit, lex}
use Rattle.token.proofs.ByteSorts.{OfSort, sort_sound, sort_complete}

-- a byte of a sort
pub lex_eat : (m : Mode) (n b : ℕ) (bs : List ℕ) (k : ByteSort) → OfSort b k → lex m n (b ∷ bs) ≡ emit (eat m n b k).0 (lex (eat m n b k).1 (suc n) bs)
unfolding lex
lex_eat m n b bs k h = ap (λ x. emit (eat m n b x).0 (lex (eat m n b x).1 (suc n) bs)) (sort_complete b k h)

-- none before it
pub emit_none : (l : Lexed) → emit [] l ≡ l
unfolding emit
emit_none (tokens ts) = refl
emit_none (unclosed p) = refl

-- more before it
pub emit_more : (ts us : List Placed) (l : Lexed) → emit ts (emit us l) ≡ emit (ts ++ us) l
unfolding emit
emit_more ts us (tokens vs) = ap tokens (sym (append_assoc ts us vs))
emit_more ts us (unclosed p) = refl

-- ---- runs of bytes

-- a byte in quotes
pub quote_step : (p n : ℕ) (v : Word) (b : ℕ) (bs : List ℕ) → Inner b → lex (in_quote p v) n (b ∷ bs) ≡ lex (in_quote p (v ++ (b ∷ []))) (suc n) bs
unfolding lex eat
quote_step p n v b bs i = by_byte_sort (byte_sort b) (sort_sound b)
  where
    by_byte_sort : (k : ByteSort) → OfSort b k → emit (eat (in_quote p v) n b k).0 (lex (eat (in_quote p v) n b k).1 (suc n) bs) ≡ lex (in_quote p (v ++ (b ∷ []))) (suc n) bs
    by_byte_sort blank h = emit_none (lex (in_quote p (v ++ (b ∷ []))) (suc n) bs)
    by_byte_sort (mark t) h = emit_none (lex (in_quote p (v ++ (b ∷ []))) (suc n) bs)
    by_byte_sort quote h = absurd (i.no_quote h)
    by_byte_sort letter h = emit_none (lex (in_quote p (v ++ (b ∷ []))) (suc n) bs)

-- bytes in quotes
quote_run : (p n : ℕ) (v : Word) {q : Word} (bs : List ℕ) → Every Inner q → lex (in_quote p v) n (q ++ bs) ≡ lex (in_quote p (v ++ q)) (n + length q) bs
quote_run p n v bs every_none = rw (append-nil v, add-zero n)
quote_run p n v bs (every_more {a = b} {xs = q} i a) = quote_step p n v b (q ++ bs) i ∙ (quote_run p (suc n) (v ++ (b ∷ [])) bs a
    ∙ rw (append_assoc v (b ∷ []) q) (ap (λ k. lex (in_quote p (v ++ (b ∷ q))) k bs) (omega arith)))

-- letters of a word
word_run : (p c n : ℕ) (v : Word) {w : Word} (bs : List ℕ) → Every Letter w → lex (in_word p c v) n (w ++ bs) ≡ lex (in_word p c (v ++ w)) (n + length w) bs
unfolding eat
word_run p c n v bs every_none = rw (append-nil v, add-zero n)
word_run p c n v bs (every_more {a = b} {xs = w} i a) = lex_eat (in_word p c v) n b (w ++ bs) letter i ∙ (emit_none _ ∙ (word_run p c (suc n) (v ++ (b ∷ [])) bs a
    ∙ rw (append_assoc v (b ∷ []) w) (ap (λ k. lex (in_word p c (v ++ (b ∷ w))) k bs) (omega arith))))

-- a word ends
pub word_stop : (p c n : ℕ) (w : Word) {bs : List ℕ} → Stops bs → lex (in_word p c w) n bs ≡ emit (placed p (word (c ∷ w)) ∷ []) (lex between n bs)
unfolding lex eat
word_stop p c n w at_end = unfold emit in refl
word_stop p c n w (before {b} {bs} s) = by_byte_sort (byte_sort b) (sort_sound b)
  where
    by_byte_sort : (k : ByteSort) → OfSort b k → emit (eat (in_word p c w) n b k).0 (lex (eat (in_word p c w) n b k).1 (suc n) bs)
        ≡ emit (placed p (word (c ∷ w)) ∷ []) (emit (eat between n b k).0 (lex (eat between n b k).1 (suc n) bs))
    by_byte_sort blank h = sym (emit_more (placed p (word (c ∷ w)) ∷ []) [] (lex between (suc n) bs))
    by_byte_sort (mark t) h = sym (emit_more (placed p (word (c ∷ w)) ∷ []) (placed n t ∷ []) (lex between (suc n) bs))
    by_byte_sort quote h = sym (emit_more (placed p (word (c ∷ w)) ∷ []) [] (lex (in_quote n []) (suc n) bs))
    by_byte_sort letter h = absurd (s h)

-- ---- one token a step, as a lexer in code goes

-- nothing is left
pub lex_nothing : (n : ℕ) → lex between n [] ≡ tokens []
unfolding lex
lex_nothing n = refl

-- a blank is passed
pub lex_blank : (n : ℕ) {b : ℕ} (bs : List ℕ) → Blank b → lex between n (b ∷ bs) ≡ lex between (suc n) bs
unfolding eat
lex_blank n {b} bs k = lex_eat between n b bs blank k ∙ emit_none _

-- a mark is a token
pub lex_mark : (n : ℕ) {b : ℕ} {t : Token} (bs : List ℕ) → Mark b t → lex between n (b ∷ bs) ≡ emit (placed n t ∷ []) (lex between (suc n) bs)
unfolding eat
lex_mark n {b} {t} bs k = lex_eat between n b bs (mark t) k

-- so are letters up to where they end
pub lex_word : (n : ℕ) {b : ℕ} {w : Word} {bs : List ℕ} → Letter b → Every Letter w → Stops bs
    → lex between n (b ∷ (w ++ bs)) ≡ emit (placed n (word (b ∷ w)) ∷ []) (lex between (suc n + length w) bs)
unfolding eat
lex_word n {b} {w} {bs} k a z = lex_eat between n b (w ++ bs) letter k ∙ (emit_none _ ∙ (word_run n b (suc n) [] bs a ∙ word_stop n b (suc n + length w) w z))

-- and bytes between quotes
pub lex_quoted : (n : ℕ) {w : Word} (bs : List ℕ) → Every Inner w
    → lex between n (39 ∷ (w ++ (39 ∷ bs))) ≡ emit (placed n (quoted w) ∷ []) (lex between (suc (suc n + length w)) bs)
unfolding eat
lex_quoted n {w} bs a = lex_eat between n 39 (w ++ (39 ∷ bs)) quote refl ∙ (emit_none _ ∙ (quote_run n (suc n) [] (39 ∷ bs) a
    ∙ lex_eat (in_quote n w) (suc n + length w) 39 bs quote refl))

-- a quote that none follows isn't closed
pub lex_open : (n : ℕ) {w : Word} → Every Inner w → lex between n (39 ∷ w) ≡ unclosed n
unfolding lex eat
lex_open n {w} a = lex_eat between n 39 w quote refl ∙ (emit_none _ ∙ (rw (append-nil w) at (quote_run n (suc n) [] [] a)))
