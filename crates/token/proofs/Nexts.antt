-- What a caller of the lexer cites: from a place on, the next lexeme and the tokens that are left. Assumes nothing.
use Prim.Native.Nat.{ℕ, ◌+◌, ◌≤◌, ◌<◌}
use native.Mathlib.Nat.{le_of_lt}
use native.Mathlib.Omega.{arith}
use mathlib.Core.Path.{◌≡◌, refl, sym, ap, ◌∙◌}
use mathlib.Core.List.{List, [], ◌∷◌}
use mathlib.Core.Logic.{◌⊎◌, inl, inr, ◌↔◌}
use Rattle.std.specs.Prelude.{Some, None}
use lib.ListN.{length}
use Rattle.token.specs.Tokens.{Token, Placed, placed, Lexes, Unclosed}
use Rattle.token.specs.Lexer.{Lexed, tokens, unclosed, emit}
use Rattle.token.specs.Next.{tokens_of, lex_from, left, Closed, next_at, bytes_in, token_of, token_in, unclosed_in, unclosed_at}
use Rattle.token.specs.declared.Sort.{Sort}
use Rattle.token.specs.declared.Sort.TheVariants as sorts
use Rattle.token.specs.declared.Lexeme.{Lexeme}
use Rattle.token.proofs.Lexing.{lex_complete, lex_sound, read_unclosed, lexed, unclosed_within}
use Rattle.token.proofs.NextSteps.{Takes, Step, at_last, opens, takes, lex_past, next_step}

-- ---- places from which on every quote is closed

-- there the lexer answers with the tokens that are left
pub closed_lexed : {text : List ℕ} {at : ℕ} → Closed text at → lex_from text at ≡ tokens (left text at)
closed_lexed c = lex_complete c.lexed

-- a place where the lexer answers with tokens
pub lexed_closed : {text : List ℕ} {at : ℕ} {ts : List Placed} → at ≤ length text → lex_from text at ≡ tokens ts → Closed text at
unfolding tokens_of
lexed_closed {text} {at} h e = record { here = h; lexed = lex_sound (e ∙ ap tokens (sym (ap tokens_of e))) }

-- a text that is written with tokens, from its start on
closed_start : {text : List ℕ} {ts : List Placed} → Lexes 0 text ts → Closed text 0
closed_start d = lexed_closed (omega arith) (lex_complete d)

-- ---- the next lexeme

-- the token of a lexeme, by its sort
pub sort_token : (text : List ℕ) (l : Lexeme) {k : Sort} → l.sort ≡ k → token_in text l ≡ token_of k (bytes_in text l)
sort_token text l e = ap (λ k. token_of k (bytes_in text l)) e

-- a token that is taken: it comes first of those that are left, and the rest is left behind it
pub record Took (text : List ℕ) (at : ℕ) (l : Lexeme) (t : Token) : Type 0 where
  pub left_is : left text at ≡ placed l.start t ∷ left text l.end
  pub closed : Closed text l.end
  pub after : at ≤ l.start
  pub ends : l.start < l.end
  pub within : l.end ≤ length text
  pub sized : length (bytes_in text l) + l.start ≤ l.end

-- no token is of these sorts
none_taken : {text : List ℕ} {at : ℕ} {l : Lexeme} {t : Token} {k : Sort} → Takes text at l t → l.sort ≡ k → token_of k (bytes_in text l) ≡ None → ⊥
none_taken {text} {at} {l} t e n =
    let z : ◌≡◌ {A = ℕ} 0 1 = cc (t.is, sort_token text l e) in
    omega arith

-- at the end no token is left
pub next_end : {text : List ℕ} {at : ℕ} → Closed text at → (next_at text at).sort ≡ sorts.End → (left text at ≡ []) × ((next_at text at).start ≡ length text)
unfolding tokens_of
next_end {text} {at} c k = go (next_step text at) k
  where
    go : {l : Lexeme} → Step text at l → l.sort ≡ sorts.End → (left text at ≡ []) × (l.start ≡ length text)
    go (at_last e) k = (ap tokens_of e, refl)
    go (opens e) k = let z : ◌≡◌ {A = ℕ} 0 1 = cc in absurd (omega arith)
    go (takes t) k = absurd (none_taken t k refl)

-- no quote is met that isn't closed
pub next_closed : {text : List ℕ} {at : ℕ} → Closed text at → (next_at text at).sort ≡ sorts.Unclosed → ⊥
next_closed {text} {at} c k = go (next_step text at) k
  where
    go : {l : Lexeme} → Step text at l → l.sort ≡ sorts.Unclosed → ⊥
    go (at_last e) k = let z : ◌≡◌ {A = ℕ} 0 1 = cc in omega arith
    go (opens e) k = let z : ◌≡◌ {A = ℕ} 0 1 = cc (closed_lexed c) in omega arith
    go (takes t) k = none_taken t k refl

-- tokens behind one
behind : {p : Placed} (l : Lexed) {ts : List Placed} → emit (p ∷ []) l ≡ tokens ts → (l ≡ tokens (tokens_of l)) × (ts ≡ p ∷ tokens_of l)
unfolding emit tokens_of
behind (tokens us) e = (refl, cc)
behind (unclosed p) e = let z : ◌≡◌ {A = ℕ} 0 1 = cc in absurd (omega arith)

-- a token is the first that is left
pub next_token : {text : List ℕ} {at : ℕ} {t : Token} → Closed text at → token_in text (next_at text at) ≡ Some t → Took text at (next_at text at) t
next_token {text} {at} {t} c k = go (next_step text at) k
  where
    took : {l : Lexeme} → Takes text at l t → Took text at l t
    took {l} x =
        let b = behind (lex_from text l.end) (sym x.lexed ∙ closed_lexed c) in
        record {
          left_is = b.1;
          closed = lexed_closed x.within b.0;
          after = x.after;
          ends = x.ends;
          within = x.within;
          sized = x.sized;
        }

    go : {l : Lexeme} → Step text at l → token_in text l ≡ Some t → Took text at l t
    go (at_last e) k = let z : ◌≡◌ {A = ℕ} 0 1 = cc in absurd (omega arith)
    go (opens e) k = let z : ◌≡◌ {A = ℕ} 0 1 = cc in absurd (omega arith)
    go (takes {l} {t = u} x) k =
        let same : u ≡ t = cc x.is in
        took (rw same at x)

-- ---- the quote that isn't closed

-- in a text that is written with tokens there is none
unclosed_length : {text : List ℕ} {ts : List Placed} → Lexes 0 text ts → unclosed_at text ≡ length text
unfolding unclosed_in
unclosed_length {text} d = ap (λ l. unclosed_in l (length text)) (lex_complete d)

-- its place
unclosed_place : {text : List ℕ} {p : ℕ} → Unclosed text p → unclosed_at text ≡ p
unfolding unclosed_in
unclosed_place {text} {p} u = ap (λ l. unclosed_in l (length text)) ((read_unclosed text p).1 u)

-- that place is within the text, or its end
pub unclosed_most : (text : List ℕ) → unclosed_at text ≤ length text
unclosed_most text = go (lexed text)
  where
    go : ((ts : List Placed) × Lexes 0 text ts) ⊎ ((p : ℕ) × Unclosed text p) → unclosed_at text ≤ length text
    go (inl (ts, d)) = rw (unclosed_length d) (omega arith)
    go (inr (p, u)) = rw (unclosed_place u) (le_of_lt (unclosed_within u))

-- where it is the end, every quote is closed
pub unclosed_closed : (text : List ℕ) → unclosed_at text ≡ length text → Closed text 0
unclosed_closed text e = go (lexed text)
  where
    go : ((ts : List Placed) × Lexes 0 text ts) ⊎ ((p : ℕ) × Unclosed text p) → Closed text 0
    go (inl (ts, d)) = closed_start d
    go (inr (p, u)) = absurd (omega (arith, unclosed_place u, unclosed_within u))

-- where it is within, a quote stands there that isn't closed; and only there
pub unclosed_found : (text : List ℕ) → (unclosed_at text < length text) ↔ Unclosed text (unclosed_at text)
unclosed_found text = (λ h. go h (lexed text), unclosed_within)
  where
    go : unclosed_at text < length text → ((ts : List Placed) × Lexes 0 text ts) ⊎ ((p : ℕ) × Unclosed text p) → Unclosed text (unclosed_at text)
    go h (inl (ts, d)) = absurd (omega (arith, unclosed_length d))
    go h (inr (p, u)) = rw (unclosed_place u) u

-- ---- the search for it, lexeme by lexeme

-- a token before makes no difference
emit_unclosed : (ts : List Placed) (l : Lexed) (n : ℕ) → unclosed_in (emit ts l) n ≡ unclosed_in l n
unfolding emit unclosed_in
emit_unclosed ts (tokens us) n = refl
emit_unclosed ts (unclosed p) n = refl

-- how the search goes on behind a lexeme
pub record Searched (text : List ℕ) (at : ℕ) (l : Lexeme) : Type 0 where
  pub same : unclosed_in (lex_from text l.end) (length text) ≡ unclosed_in (lex_from text at) (length text)
  pub further : at < l.end
  pub within : l.end ≤ length text

-- behind any but an unclosed quote
pub search_on : (text : List ℕ) (at : ℕ) → at < length text → ((next_at text at).sort ≡ sorts.Unclosed → ⊥) → Searched text at (next_at text at)
search_on text at h n = go (next_step text at) n
  where
    go : {l : Lexeme} → Step text at l → (l.sort ≡ sorts.Unclosed → ⊥) → Searched text at l
    go (at_last e) n = record { same = ap (λ l. unclosed_in l (length text)) (lex_past text (length text) (omega arith) ∙ sym e); further = h; within = omega arith }
    go (opens e) n = absurd (n refl)
    go (takes {l} x) n = record {
      same = sym (ap (λ l. unclosed_in l (length text)) x.lexed ∙ emit_unclosed _ (lex_from text l.end) (length text));
      further = omega (arith, x.after, x.ends);
      within = x.within;
    }

-- an unclosed quote is what is searched for
pub search_found : (text : List ℕ) (at : ℕ) → (next_at text at).sort ≡ sorts.Unclosed → (next_at text at).start ≡ unclosed_in (lex_from text at) (length text)
unfolding unclosed_in
search_found text at k = go (next_step text at) k
  where
    go : {l : Lexeme} → Step text at l → l.sort ≡ sorts.Unclosed → l.start ≡ unclosed_in (lex_from text at) (length text)
    go (at_last e) k = let z : ◌≡◌ {A = ℕ} 0 1 = cc in absurd (omega arith)
    go (opens e) k = sym (ap (λ l. unclosed_in l (length text)) e)
    go (takes t) k = absurd (none_taken t k refl)

-- at the end of a text there is none
pub search_end : (text : List ℕ) → unclosed_in (lex_from text (length text)) (length text) ≡ length text
unfolding unclosed_in
search_end text = ap (λ l. unclosed_in l (length text)) (lex_past text (length text) (omega arith))
