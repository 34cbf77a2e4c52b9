-- Tokens of a text with their places, by a relation over bytes: no reader.
use Rattle.std.specs.Prelude.{ℕ, suc, ◌+◌, ◌≡◌, List, [], ◌∷◌, ◌++◌, length}
use Rattle.octets.specs.Lists.{Every}
use Rattle.token.specs.Texts.{Blank}

-- a word is its bytes
abbrev pub Word : Type 0
Word = List ℕ

-- a token: `(`, `)`, `!`, a word or a quoted token
pub data Token : Type 0 where
  open' close bang : Token
  word quoted : Word → Token

-- `(`, `)` and `!` are tokens alone
pub data Mark : ℕ → Token → Type 0 where
  opening : Mark 40 open'
  closing : Mark 41 close
  banging : Mark 33 bang

-- a byte of a word: no blank and none of the four characters
pub record Letter (b : ℕ) : Type 0 where
  pub no_blank : Blank b → ⊥
  pub no_mark : (t : Token) → Mark b t → ⊥
  pub no_quote : b ≡ 39 → ⊥

-- a byte of a quoted token: no quote
pub record Inner (b : ℕ) : Type 0 where
  pub no_quote : b ≡ 39 → ⊥

-- a word ends here: at the end, or before a byte that is none of its own
pub data Stops : List ℕ → Type 0 where
  at_end : Stops []
  before : {b : ℕ} {bs : List ℕ} → (Letter b → ⊥) → Stops (b ∷ bs)

-- a token and the place (the paper's term) of its first byte
pub record Placed : Type 0 where
  pub place : ℕ
  pub token : Token

-- a token at a place
abbrev pub placed : ℕ → Token → Placed
placed n t = record { place = n; token = t }

-- these bytes, the first of them at the place n, are written with these tokens
pub data Lexes : ℕ → List ℕ → List Placed → Type 0 where
  nothing : {n : ℕ} → Lexes n [] []
  blanks : {n b : ℕ} {bs : List ℕ} {ts : List Placed} → Blank b → Lexes (suc n) bs ts → Lexes n (b ∷ bs) ts
  marks : {n b : ℕ} {bs : List ℕ} {t : Token} {ts : List Placed} → Mark b t → Lexes (suc n) bs ts → Lexes n (b ∷ bs) (placed n t ∷ ts)
  words : {n b : ℕ} (w : Word) {bs l : List ℕ} {ts : List Placed} → Letter b → Every Letter w → Stops bs → Lexes (suc n + length w) bs ts
      → l ≡ b ∷ (w ++ bs) → Lexes n l (placed n (word (b ∷ w)) ∷ ts)
  quotes : {n : ℕ} (w : Word) {bs l : List ℕ} {ts : List Placed} → Every Inner w → Lexes (suc (suc n + length w)) bs ts
      → l ≡ 39 ∷ (w ++ (39 ∷ bs)) → Lexes n l (placed n (quoted w) ∷ ts)

-- the quote that isn't closed: at its place the tokens before it end, and no quote follows
pub record Unclosed (text : List ℕ) (place : ℕ) : Type 0 where
  pub front : List ℕ
  pub rest : List ℕ
  pub tokens : List Placed
  pub joined : text ≡ front ++ (39 ∷ rest)
  pub placed : length front ≡ place
  pub lexed : Lexes 0 front tokens
  pub inner : Every Inner rest
