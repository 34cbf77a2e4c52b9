-- Tokens of bytes 45 to 126, and quoted ones of printed bytes, enough to write every reading: the text that spells them, a space behind each. Assumes nothing.
use Prim.Native.Nat.{ℕ, suc, ◌+◌, ◌*◌, ◌≤◌}
use native.Mathlib.Omega.{arith}
use mathlib.Core.Path.{◌≡◌, refl, sym, ap}
use mathlib.Core.List.{List, [], ◌∷◌, ◌++◌, append_assoc}
use lib.ListN.{length, length-append}
use Rattle.octets.specs.Lists.{Every, every_none, every_more}
use Rattle.octets.proofs.Every.{every_append, every_weaker}
use Rattle.program.specs.Readings.{Reading, weight}
use Rattle.program.specs.Records.{weight_limit}
use Rattle.program.specs.Layout.{record_size}
use Rattle.token.specs.Texts.{text_limit, Blank, space, tab, line_feed, Allowed, printed}
use Rattle.token.specs.Tokens.{Token, open', close, bang, word, quoted, Mark, opening, closing, banging, Letter, Stops, before, Placed, placed, Lexes, nothing, blanks, marks, words, quotes}
use Rattle.filter.specs.Grammar.{expression, Reads}
use Rattle.filter.specs.Levels.{level_limit, open_at}
use Rattle.filter.specs.Answers.{bare, DerivedWithin, compiled, TextAnswers, compiles}
use Rattle.filter.proofs.Counts.{levels, levels_open}

-- a printed byte that is no quote
pub record Plain (b : ℕ) : Type 0 where
  pub low : 32 ≤ b
  pub high : b ≤ 126
  pub no_quote : b ≡ 39 → ⊥

-- a byte of the language's words: `-` or a letter, say
pub record Wordly (b : ℕ) : Type 0 where
  pub low : 45 ≤ b
  pub high : b ≤ 126

-- the bytes of a word are wordly, and there is one; those of a quoted token are plain
abbrev pub Proper : Token → Type 0
Proper open' = Unit {0}
Proper close = Unit {0}
Proper bang = Unit {0}
Proper (word w) = (1 ≤ length w) × Every Wordly w
Proper (quoted v) = Every Plain v

-- the bytes of a token
unfoldable pub spelled : Token → List ℕ
spelled open' = 40 ∷ []
spelled close = 41 ∷ []
spelled bang = 33 ∷ []
spelled (word w) = w
spelled (quoted v) = 39 ∷ (v ++ (39 ∷ []))

-- tokens, a space behind each
unfoldable pub spell : List Token → List ℕ
spell [] = []
spell (t ∷ ts) = spelled t ++ (32 ∷ spell ts)

-- joined tokens are spelled one part after the other
pub spell_append : (ts us : List Token) → spell (ts ++ us) ≡ spell ts ++ spell us
unfolding spell
spell_append [] us = refl
spell_append (t ∷ ts) us = rw (spell_append ts us) (sym (append_assoc (spelled t) (32 ∷ spell ts) (spell us)))

-- their places, the first at n
pub positioned : ℕ → List Token → List Placed
positioned n [] = []
positioned n (t ∷ ts) = placed n t ∷ positioned (suc (n + length (spelled t))) ts

-- a wordly byte is a letter
wordly_letter : (b : ℕ) → Wordly b → Letter b
wordly_letter b w = record { no_blank = by_blank w; no_mark = by_mark w; no_quote = λ e. omega (arith, w.low) }
  where
    by_blank : {c : ℕ} → Wordly c → Blank c → ⊥
    by_blank x space = omega (arith, x.low)
    by_blank x tab = omega (arith, x.low)
    by_blank x line_feed = omega (arith, x.low)

    by_mark : {c : ℕ} → Wordly c → (t : Token) → Mark c t → ⊥
    by_mark x t opening = omega (arith, x.low)
    by_mark x t closing = omega (arith, x.low)
    by_mark x t banging = omega (arith, x.low)

-- ---- tokens

-- a space ends a word
pub space_stops : {bs : List ℕ} → Stops (32 ∷ bs)
space_stops = before (λ l. l.no_blank space)

-- a space before what is written with tokens
spaced : {m : ℕ} (n : ℕ) {bs : List ℕ} {ts : List Placed} → m ≡ suc n → Lexes m bs ts → Lexes n (32 ∷ bs) ts
spaced n e d = blanks space (rw e at d)

-- a token and a space before it
token_lexes : (t : Token) → Proper t → (n : ℕ) {bs : List ℕ} {ts : List Placed} → Lexes (suc (n + length (spelled t))) bs ts
    → Lexes n (spelled t ++ (32 ∷ bs)) (placed n t ∷ ts)
unfolding spelled
token_lexes open' p n d = marks opening (spaced (suc n) (omega arith) d)
token_lexes close p n d = marks closing (spaced (suc n) (omega arith) d)
token_lexes bang p n d = marks banging (spaced (suc n) (omega arith) d)
token_lexes (word []) p n d = absurd (omega (arith, p.0))
token_lexes (word (b ∷ w)) (h, every_more k a) n d =
    words w (wordly_letter b k) (every_weaker wordly_letter a) space_stops (spaced (suc n + length w) (omega arith) d) refl
token_lexes (quoted v) p n {bs} d =
    quotes v (every_weaker (λ b q. record { no_quote = q.no_quote }) p)
    (spaced (suc (suc n + length v)) (omega (arith, length-append v (39 ∷ []))) d)
    (ap (λ (l : List ℕ). 39 ∷ l) (append_assoc v (39 ∷ []) (32 ∷ bs)))

-- a text that is spelled has those tokens
pub spell_lexes : {ts : List Token} → Every Proper ts → (n : ℕ) → Lexes n (spell ts) (positioned n ts)
unfolding spell positioned
spell_lexes every_none n = nothing
spell_lexes (every_more {a = t} p ps) n = token_lexes t p n (spell_lexes ps (suc (n + length (spelled t))))

-- the places come off again
pub bare_positioned : (n : ℕ) (ts : List Token) → bare (positioned n ts) ≡ ts
unfolding bare positioned
bare_positioned n [] = refl
bare_positioned n (t ∷ ts) = ap (λ (us : List Token). t ∷ us) (bare_positioned (suc (n + length (spelled t))) ts)

-- ---- bytes

-- a printed byte may stand in a text
pub seen : (b : ℕ) → 32 ≤ b → b ≤ 126 → Allowed b
seen b l h = printed l h

-- the bytes of a token may
token_allowed : (t : Token) → Proper t → Every Allowed (spelled t)
unfolding spelled
token_allowed open' p = every_more (seen 40 (omega arith) (omega arith)) every_none
token_allowed close p = every_more (seen 41 (omega arith) (omega arith)) every_none
token_allowed bang p = every_more (seen 33 (omega arith) (omega arith)) every_none
token_allowed (word w) p = every_weaker (λ b q. seen b (omega (arith, q.low)) q.high) p.1
token_allowed (quoted v) p =
    every_more (seen 39 (omega arith) (omega arith)) (every_append (every_weaker (λ b q. seen b q.low q.high) p) (every_more (seen 39 (omega arith) (omega arith)) every_none))

-- a text that is spelled has allowed bytes
pub spell_allowed : {ts : List Token} → Every Proper ts → Every Allowed (spell ts)
unfolding spell
spell_allowed every_none = every_none
spell_allowed (every_more {a = t} p ps) = every_append (token_allowed t p) (every_more (seen 32 (omega arith) (omega arith)) (spell_allowed ps))

-- ---- the whole

-- tokens that can be written and are derived: the text that spells them compiles, where size, levels and weight are as allowed
pub spelled_compiles : {ts : List Token} {r : Reading} (d : Reads expression ts r) → levels d ≤ level_limit → Every Proper ts
    → length (spell ts) ≤ text_limit → weight r ≤ weight_limit → TextAnswers (spell ts) (record_size * weight_limit) (compiled r)
spelled_compiles {ts} {r} d l p s w = compiles (record { short = s; allowed = spell_allowed p }) (by_tokens (bare_positioned 0 ts)) w (omega arith)
  where
    with_tokens : (e : Reads expression (bare (positioned 0 ts)) r) × ((n : ℕ) → open_at e n ≤ level_limit) → DerivedWithin (spell ts) r
    with_tokens (e, k) = record { derived = record { tokens = positioned 0 ts; lexed = spell_lexes p 0; reads = e }; within = k }

    by_tokens : bare (positioned 0 ts) ≡ ts → DerivedWithin (spell ts) r
    by_tokens e = with_tokens (rw e (d, (levels_open d level_limit).0 l))
