-- What the lexer answers is so: in every mode, from every place. Assumes nothing.
use Prim.Native.Nat.{ℕ, suc, ◌+◌}
use native.Mathlib.Omega.{arith}
use native.Mathlib.Nat.{add-zero}
use mathlib.Core.Path.{◌≡◌, refl, sym, ap, ◌∙◌}
use mathlib.Core.List.{List, [], ◌∷◌, ◌++◌, append_assoc, append-nil}
use lib.ListN.{length, length-append}
use Rattle.octets.specs.Lists.{Every, every_none, every_more}
use Rattle.octets.proofs.Every.{every_append}
use Rattle.token.specs.Texts.{Blank}
use Rattle.token.specs.Tokens.{Word, Token, word, quoted, Mark, Letter, Inner, Stops, at_end, Placed, placed, Lexes, nothing, blanks, marks, words, quotes}
use Rattle.token.specs.Lexer.{ByteSort, blank, quote, letter, mark, byte_sort, Lexed, tokens, unclosed, Mode, between, in_word, in_quote, eat, emit, lex}
use Rattle.token.proofs.ByteSorts.{OfSort, sort_sound, other_stops, other_inner, stops_front}
use Rattle.token.proofs.Lexer.{lex_eat, emit_none, quote_step, word_stop, lex_blank, lex_mark}

-- an unclosed quote in bytes, the first of them at the place n
pub record UnclosedFrom (n : ℕ) (bs : List ℕ) (p : ℕ) : Type 0 where
  pub front : List ℕ
  pub rest : List ℕ
  pub tokens : List Placed
  pub joined : bs ≡ front ++ (39 ∷ rest)
  pub placed : n + length front ≡ p
  pub lexed : Lexes n front tokens
  pub inner : Every Inner rest

-- an answer is right of these bytes, the first of them at the place n
pub data Right : ℕ → List ℕ → Lexed → Type 0 where
  lexes : {n : ℕ} {bs : List ℕ} {ts : List Placed} → Lexes n bs ts → Right n bs (tokens ts)
  opens : {n : ℕ} {bs : List ℕ} {p : ℕ} → UnclosedFrom n bs p → Right n bs (unclosed p)

-- an unclosed quote behind more bytes
further : (pre : List ℕ) {n i p : ℕ} {bs : List ℕ} {ts : List Placed} (u : UnclosedFrom i bs p) → i ≡ n + length pre → Lexes n (pre ++ u.front) ts
    → UnclosedFrom n (pre ++ bs) p
further pre {n} {i} {p} {bs} {ts} u e d =
    record {
      front = pre ++ u.front;
      rest = u.rest;
      tokens = ts;
      joined = ap (λ l. pre ++ l) u.joined ∙ sym (append_assoc pre u.front (39 ∷ u.rest));
      placed = omega (arith, length-append pre u.front, u.placed);
      lexed = d;
      inner = u.inner;
    }

-- behind a blank
right_blank : {n b : ℕ} {bs : List ℕ} {l : Lexed} → Blank b → Right (suc n) bs l → Right n (b ∷ bs) l
right_blank k (lexes d) = lexes (blanks k d)
right_blank {b = b} k (opens u) = opens (further (b ∷ []) u (omega arith) (blanks k u.lexed))

-- behind a mark
right_mark : {n b : ℕ} {t : Token} {bs : List ℕ} {l : Lexed} → Mark b t → Right (suc n) bs l → Right n (b ∷ bs) (emit (placed n t ∷ []) l)
unfolding emit
right_mark k (lexes d) = lexes (marks k d)
right_mark {b = b} k (opens u) = opens (further (b ∷ []) u (omega arith) (marks k u.lexed))

-- behind a word
right_word : {n b : ℕ} {w : Word} {bs : List ℕ} {l : Lexed} → Letter b → Every Letter w → Stops bs → Right (suc n + length w) bs l
    → Right n (b ∷ (w ++ bs)) (emit (placed n (word (b ∷ w)) ∷ []) l)
unfolding emit
right_word {w = w} k a z (lexes d) = lexes (words w k a z d refl)
right_word {b = b} {w = w} k a z (opens u) =
    opens (further (b ∷ w) u (omega arith) (words w k a (stops_front u.front (39 ∷ u.rest) (rw u.joined at z)) u.lexed refl))

-- behind a quoted token
right_quote : {n : ℕ} {w : Word} {bs : List ℕ} {l : Lexed} → Every Inner w → Right (suc (suc n + length w)) bs l
    → Right n (39 ∷ (w ++ (39 ∷ bs))) (emit (placed n (quoted w) ∷ []) l)
unfolding emit
right_quote {w = w} a (lexes d) = lexes (quotes w a d refl)
right_quote {n} {w} {bs} a (opens {p = p} u) =
    rw (append_assoc w (39 ∷ []) bs) at
    (opens (further (39 ∷ (w ++ (39 ∷ []))) u (omega (arith, length-append w (39 ∷ []))) (quotes w a u.lexed (ap (λ l. 39 ∷ l) (append_assoc w (39 ∷ []) u.front)))))

-- a quote that none follows
right_open : {n : ℕ} {w : Word} → Every Inner w → Right n (39 ∷ w) (unclosed n)
right_open {n} {w} a = opens (record { front = []; rest = w; tokens = []; joined = refl; placed = add-zero n; lexed = nothing; inner = a })

-- of equal answers both are right
same : {n : ℕ} {bs : List ℕ} {l m : Lexed} → l ≡ m → Right n bs m → Right n bs l
same e r = rw e r

-- a mode at a place
abbrev Fits : Mode → ℕ → Type 0
Fits between n = Unit {0}
Fits (in_word p c w) n = Letter c × Every Letter w × (n ≡ suc p + length w)
Fits (in_quote p w) n = Every Inner w × (n ≡ suc p + length w)

-- the bytes of the token that a mode is in, and all after
abbrev Wrote : Mode → ℕ → List ℕ → Lexed → Type 0
Wrote between n bs l = Right n bs l
Wrote (in_word p c w) n bs l = Right p (c ∷ (w ++ bs)) l
Wrote (in_quote p w) n bs l = Right p (39 ∷ (w ++ bs)) l

-- what is read after a byte, in every mode
abbrev Rest : ℕ → List ℕ → Type 0
Rest n bs = (m : Mode) → Fits m (suc n) → Wrote m (suc n) bs (lex m (suc n) bs)

-- a byte between tokens
between_sound : (n b : ℕ) (bs : List ℕ) → Rest n bs → (k : ByteSort) → OfSort b k → Right n (b ∷ bs) (lex between n (b ∷ bs))
unfolding eat
between_sound n b bs g blank h = same (lex_blank n bs h) (right_blank h (g between tt))
between_sound n b bs g (mark t) h = same (lex_mark n bs h) (right_mark h (g between tt))
between_sound n b bs g quote h = same (lex_eat between n b bs quote h ∙ emit_none _) (rw h (g (in_quote n []) (every_none, omega arith)))
between_sound n b bs g letter h = same (lex_eat between n b bs letter h ∙ emit_none _) (g (in_word n b []) (h, every_none, omega arith))

-- a byte that ends a word
word_ends : (p c : ℕ) (w : Word) (b : ℕ) (bs : List ℕ) → Letter c → Every Letter w → Rest (suc p + length w) bs → (k : ByteSort) → OfSort b k → (k ≡ letter → ⊥)
    → Right p (c ∷ (w ++ (b ∷ bs))) (lex (in_word p c w) (suc p + length w) (b ∷ bs))
word_ends p c w b bs l a g k h n =
    let z : Stops (b ∷ bs) = other_stops k h n in
    same (word_stop p c (suc p + length w) w z) (right_word l a z (between_sound (suc p + length w) b bs g k h))

-- a byte in or behind a word
word_sound : (p c : ℕ) (w : Word) (b : ℕ) (bs : List ℕ) → Letter c → Every Letter w → Rest (suc p + length w) bs → (k : ByteSort) → OfSort b k
    → Right p (c ∷ (w ++ (b ∷ bs))) (lex (in_word p c w) (suc p + length w) (b ∷ bs))
unfolding eat
word_sound p c w b bs l a g letter h = same (lex_eat (in_word p c w) (suc p + length w) b bs letter h ∙ emit_none _)
    (rw (append_assoc w (b ∷ []) bs) at (g (in_word p c (w ++ (b ∷ []))) (l, every_append a (every_more h every_none), omega (arith, length-append w (b ∷ [])))))
word_sound p c w b bs l a g blank h = word_ends p c w b bs l a g blank h (λ e. let z : ◌≡◌ {A = ℕ} 0 1 = cc in omega arith)
word_sound p c w b bs l a g (mark t) h = word_ends p c w b bs l a g (mark t) h (λ e. let z : ◌≡◌ {A = ℕ} 0 1 = cc in omega arith)
word_sound p c w b bs l a g quote h = word_ends p c w b bs l a g quote h (λ e. let z : ◌≡◌ {A = ℕ} 0 1 = cc in omega arith)

-- a byte of a quoted token
quote_on : (p : ℕ) (w : Word) (b : ℕ) (bs : List ℕ) → Every Inner w → Rest (suc p + length w) bs → (k : ByteSort) → OfSort b k → (k ≡ quote → ⊥)
    → Right p (39 ∷ (w ++ (b ∷ bs))) (lex (in_quote p w) (suc p + length w) (b ∷ bs))
quote_on p w b bs a g k h n =
    let i : Inner b = other_inner k h n in
    same (quote_step p (suc p + length w) w b bs i)
    (rw (append_assoc w (b ∷ []) bs) at (g (in_quote p (w ++ (b ∷ []))) (every_append a (every_more i every_none), omega (arith, length-append w (b ∷ [])))))

-- a byte behind an opened quote
quote_sound : (p : ℕ) (w : Word) (b : ℕ) (bs : List ℕ) → Every Inner w → Rest (suc p + length w) bs → (k : ByteSort) → OfSort b k
    → Right p (39 ∷ (w ++ (b ∷ bs))) (lex (in_quote p w) (suc p + length w) (b ∷ bs))
unfolding eat
quote_sound p w b bs a g quote h = same (lex_eat (in_quote p w) (suc p + length w) b bs quote h) (rw h (right_quote a (g between tt)))
quote_sound p w b bs a g blank h = quote_on p w b bs a g blank h (λ e. let z : ◌≡◌ {A = ℕ} 0 1 = cc in omega arith)
quote_sound p w b bs a g (mark t) h = quote_on p w b bs a g (mark t) h (λ e. let z : ◌≡◌ {A = ℕ} 0 1 = cc in omega arith)
quote_sound p w b bs a g letter h = quote_on p w b bs a g letter h (λ e. let z : ◌≡◌ {A = ℕ} 0 1 = cc in omega arith)

-- in every mode the answer is right
lex_sound : (bs : List ℕ) (m : Mode) (n : ℕ) → Fits m n → Wrote m n bs (lex m n bs)
lex_sound [] between n f = unfold lex in lexes nothing
lex_sound [] (in_word p c w) n f = unfold lex in lexes (words w f.0 f.1 at_end nothing refl)
lex_sound [] (in_quote p w) n f = unfold lex in rw (append-nil w) (right_open f.0)
lex_sound (b ∷ bs) between n f = between_sound n b bs (λ m. lex_sound bs m (suc n)) (byte_sort b) (sort_sound b)
lex_sound (b ∷ bs) (in_word p c w) n f = rw f.2 (word_sound p c w b bs f.0 f.1 (λ m. lex_sound bs m (suc (suc p + length w))) (byte_sort b) (sort_sound b))
lex_sound (b ∷ bs) (in_quote p w) n f = rw f.1 (quote_sound p w b bs f.0 (λ m. lex_sound bs m (suc (suc p + length w))) (byte_sort b) (sort_sound b))

-- the answer between tokens is right
pub right : (n : ℕ) (bs : List ℕ) → Right n bs (lex between n bs)
right n bs = lex_sound bs between n tt
