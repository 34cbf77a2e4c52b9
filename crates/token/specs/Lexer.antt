-- A lexer, byte by byte: the tokens of a text, or the quote that isn't closed.
use Rattle.std.specs.Prelude.{ℕ, suc, List, [], ◌∷◌, ◌++◌, eqb}
use Rattle.octets.specs.Choice.{pick}
use Rattle.token.specs.Tokens.{Word, Token, open', close, bang, word, quoted, Placed, placed}

-- ---- the tokens of bytes as a function: `unclosed` and `compile` are equal to it; the code goes by places (Next)

-- the sorts of bytes outside quotes
pub data ByteSort : Type 0 where
  blank quote letter : ByteSort
  mark : Token → ByteSort

-- what a byte is outside quotes
unfoldable pub byte_sort : ℕ → ByteSort
byte_sort b =
    pick (eqb b 32) blank (pick (eqb b 9) blank (pick (eqb b 10) blank
    (pick (eqb b 40) (mark open') (pick (eqb b 41) (mark close) (pick (eqb b 33) (mark bang) (pick (eqb b 39) quote letter))))))

-- an answer: the tokens, or the place of the quote that isn't closed
pub data Lexed : Type 0 where
  tokens : List Placed → Lexed
  unclosed : ℕ → Lexed

-- between tokens; in a word or a quoted token that began at a place, with what has been read of it
pub data Mode : Type 0 where
  between : Mode
  in_word : ℕ → ℕ → Word → Mode
  in_quote : ℕ → Word → Mode

-- a byte b of sort k at n: the tokens that it ends or is, and the mode after it
unfoldable pub eat : Mode → ℕ → ℕ → ByteSort → List Placed × Mode
eat between n b blank = ([], between)
eat between n b (mark t) = (placed n t ∷ [], between)
eat between n b quote = ([], in_quote n [])
eat between n b letter = ([], in_word n b [])
eat (in_word p c w) n b blank = (placed p (word (c ∷ w)) ∷ [], between)
eat (in_word p c w) n b (mark t) = (placed p (word (c ∷ w)) ∷ placed n t ∷ [], between)
eat (in_word p c w) n b quote = (placed p (word (c ∷ w)) ∷ [], in_quote n [])
eat (in_word p c w) n b letter = ([], in_word p c (w ++ (b ∷ [])))
eat (in_quote p q) n b blank = ([], in_quote p (q ++ (b ∷ [])))
eat (in_quote p q) n b (mark t) = ([], in_quote p (q ++ (b ∷ [])))
eat (in_quote p q) n b quote = (placed p (quoted q) ∷ [], between)
eat (in_quote p q) n b letter = ([], in_quote p (q ++ (b ∷ [])))

-- tokens before an answer
unfoldable pub emit : List Placed → Lexed → Lexed
emit ts (tokens us) = tokens (ts ++ us)
emit ts (unclosed p) = unclosed p

-- these bytes, the first of them at the place n
unfoldable pub lex : Mode → ℕ → List ℕ → Lexed
unfolding eat emit
lex between n [] = tokens []
lex (in_word p c w) n [] = tokens (placed p (word (c ∷ w)) ∷ [])
lex (in_quote p q) n [] = unclosed p
lex m n (b ∷ bs) = emit (eat m n b (byte_sort b)).0 (lex (eat m n b (byte_sort b)).1 (suc n) bs)

-- the answer for a whole text
abbrev pub read : List ℕ → Lexed
read text = lex between 0 text
