-- Each text is written with tokens in exactly one way, or has exactly one unclosed quote; the lexer tells which. Assumes nothing.
use Prim.Native.Nat.{ℕ, ◌+◌, ◌<◌}
use native.Mathlib.Omega.{arith}
use native.Mathlib.Nat.{add-zero, zero-add}
use mathlib.Core.Path.{◌≡◌, sym, ap, ◌∙◌}
use mathlib.Core.List.{List, [], ◌∷◌, ◌++◌, append_assoc, append-nil}
use mathlib.Core.Logic.{◌⊎◌, inl, inr, ◌↔◌}
use lib.ListN.{length, length-append}
use Rattle.token.specs.Tokens.{word, quoted, Stops, at_end, Placed, placed, Lexes, nothing, blanks, marks, words, quotes, Unclosed}
use Rattle.token.specs.Lexer.{Lexed, tokens, unclosed, between, emit, lex, read}
use Rattle.token.proofs.ByteSorts.{quote_stops, stops_append}
use Rattle.token.proofs.Lexer.{emit_none, emit_more, lex_nothing, lex_blank, lex_mark, lex_word, lex_quoted, lex_open}
use Rattle.token.proofs.LexSound.{UnclosedFrom, Right, lexes, opens, right}

-- the tokens of a front, then what is read behind it
lex_front : {n : ℕ} {front : List ℕ} {ts : List Placed} → Lexes n front ts → {rest : List ℕ} → Stops rest
    → lex between n (front ++ rest) ≡ emit ts (lex between (n + length front) rest)
lex_front (nothing {n}) {rest} s = rw (add-zero n) (sym (emit_none _))
lex_front (blanks {n} {ts = ts} k d) {rest} s = lex_blank n _ k ∙ (lex_front d s ∙ ap (λ i. emit ts (lex between i rest)) (omega arith))
lex_front (marks {n} {t = t} {ts = ts} k d) {rest} s = lex_mark n _ k ∙ (ap (emit (placed n t ∷ [])) (lex_front d s)
    ∙ (emit_more (placed n t ∷ []) ts _ ∙ ap (λ i. emit (placed n t ∷ ts) (lex between i rest)) (omega arith)))
lex_front (words {n} {b} w {bs} {l} {ts} k a z d e) {rest} s =
    let t : Placed = placed n (word (b ∷ w)) in
    rw (e, append_assoc w bs rest) (lex_word n k a (stops_append z s) ∙ (ap (emit (t ∷ [])) (lex_front d s)
    ∙ (emit_more (t ∷ []) ts _ ∙ ap (λ i. emit (t ∷ ts) (lex between i rest)) (omega (arith, length-append w bs)))))
lex_front (quotes {n} w {bs} {l} {ts} a d e) {rest} s =
    let t : Placed = placed n (quoted w) in
    rw (e, append_assoc w (39 ∷ bs) rest) (lex_quoted n (bs ++ rest) a ∙ (ap (emit (t ∷ [])) (lex_front d s)
    ∙ (emit_more (t ∷ []) ts _ ∙ ap (λ i. emit (t ∷ ts) (lex between i rest)) (omega (arith, length-append w (39 ∷ bs))))))

-- bytes that are written with tokens are read so
pub lex_complete : {n : ℕ} {bs : List ℕ} {ts : List Placed} → Lexes n bs ts → lex between n bs ≡ tokens ts
unfolding emit
lex_complete {n} {bs} {ts} d = (rw (append-nil bs) at (lex_front d at_end)) ∙ (ap (emit ts) (lex_nothing _) ∙ ap tokens (append-nil ts))

-- and those that are read so are written with them
pub lex_sound : {n : ℕ} {bs : List ℕ} {ts : List Placed} → lex between n bs ≡ tokens ts → Lexes n bs ts
lex_sound {n} {bs} e = go (rw e at (right n bs))
  where
    go : {us : List Placed} → Right n bs (tokens us) → Lexes n bs us
    go (lexes d) = d

-- an unclosed quote is read so
open_complete : {n : ℕ} {bs : List ℕ} {p : ℕ} → UnclosedFrom n bs p → lex between n bs ≡ unclosed p
unfolding emit
open_complete u = rw u.joined (lex_front u.lexed quote_stops ∙ ap (emit u.tokens) (lex_open _ u.inner ∙ ap unclosed u.placed))

-- and what is read so is one
open_sound : {n : ℕ} {bs : List ℕ} {p : ℕ} → lex between n bs ≡ unclosed p → UnclosedFrom n bs p
open_sound {n} {bs} e = go (rw e at (right n bs))
  where
    go : {q : ℕ} → Right n bs (unclosed q) → UnclosedFrom n bs q
    go (opens u) = u

-- for a whole text, in its own words
unclosed_whole : {text : List ℕ} {p : ℕ} → UnclosedFrom 0 text p → Unclosed text p
unclosed_whole u = record { front = u.front; rest = u.rest; tokens = u.tokens; joined = u.joined; placed = sym (zero-add (length u.front)) ∙ u.placed; lexed = u.lexed; inner = u.inner }

-- and back
unclosed_back : {text : List ℕ} {p : ℕ} → Unclosed text p → UnclosedFrom 0 text p
unclosed_back u = record { front = u.front; rest = u.rest; tokens = u.tokens; joined = u.joined; placed = zero-add (length u.front) ∙ u.placed; lexed = u.lexed; inner = u.inner }

-- ---- whole texts

-- the lexer answers with tokens exactly where the text is written with them
pub read_tokens : (text : List ℕ) (ts : List Placed) → (read text ≡ tokens ts) ↔ Lexes 0 text ts
read_tokens text ts = (lex_sound, lex_complete)

-- and with a place exactly where a quote stands there that isn't closed
pub read_unclosed : (text : List ℕ) (p : ℕ) → (read text ≡ unclosed p) ↔ Unclosed text p
read_unclosed text p = (λ e. unclosed_whole (open_sound e), λ u. open_complete (unclosed_back u))

-- a text is written with tokens or has an unclosed quote
pub lexed : (text : List ℕ) → ((ts : List Placed) × Lexes 0 text ts) ⊎ ((p : ℕ) × Unclosed text p)
lexed text = go (right 0 text)
  where
    go : {l : Lexed} → Right 0 text l → ((ts : List Placed) × Lexes 0 text ts) ⊎ ((p : ℕ) × Unclosed text p)
    go (lexes {ts = ts} d) = inl (ts, d)
    go (opens {p = p} u) = inr (p, unclosed_whole u)

-- bytes are written with the same tokens in every way
pub lexes_once : {n : ℕ} {text : List ℕ} {ts us : List Placed} → Lexes n text ts → Lexes n text us → ts ≡ us
lexes_once d e = cc (lex_complete d, lex_complete e)

-- not with tokens, where a quote isn't closed
pub unclosed_none : {text : List ℕ} {p : ℕ} {ts : List Placed} → Unclosed text p → Lexes 0 text ts → ⊥
unclosed_none {text} {p} u d =
    let z : ◌≡◌ {A = ℕ} 0 1 = cc ((read_unclosed text p).1 u, lex_complete d) in
    omega arith

-- the unclosed quote is one
pub unclosed_once : {text : List ℕ} {p q : ℕ} → Unclosed text p → Unclosed text q → p ≡ q
unclosed_once {text} {p} {q} u v = cc ((read_unclosed text p).1 u, (read_unclosed text q).1 v)

-- joined bytes have the tokens of each part, where no word goes on
pub lexes_append : {n : ℕ} {front rest : List ℕ} {ts us : List Placed} → Lexes n front ts → Stops rest → Lexes (n + length front) rest us
    → Lexes n (front ++ rest) (ts ++ us)
unfolding emit
lexes_append {ts = ts} d s e = lex_sound (lex_front d s ∙ ap (emit ts) (lex_complete e))

-- it stands within the text
pub unclosed_within : {text : List ℕ} {p : ℕ} → Unclosed text p → p < length text
unclosed_within u = omega (arith, u.placed, ap length u.joined, length-append u.front (39 ∷ u.rest))
