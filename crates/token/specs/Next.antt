-- The next token of a text from a place on, by positions.
use Rattle.std.specs.Prelude.{ℕ, suc, ◌+◌, ◌-◌, ◌≤◌, ◌≡◌, Bool, true, false, not, List, [], ◌∷◌, length, get_or, take, drop, leb, eqb}
use Rattle.std.specs.Prelude.{Option, Some, None}
use Rattle.octets.specs.Choice.{pick}
use Rattle.token.specs.Texts.{allowed}
use Rattle.token.specs.Tokens.{Token, open', close, bang, word, quoted, Placed, Lexes}
use Rattle.token.specs.Lexer.{Lexed, tokens, unclosed, between, lex, read}
use Rattle.token.specs.declared.Sort.{Sort}
use Rattle.token.specs.declared.Sort.TheVariants.{End, Open, Close, Bang, Word, Quoted, Unclosed}
use Rattle.token.specs.declared.Lexeme.{Lexeme}

-- the tokens of an answer, none where a quote isn't closed
unfoldable pub tokens_of : Lexed → List Placed
tokens_of (tokens ts) = ts
tokens_of (unclosed p) = []

-- what a text is written with from a place on
abbrev pub lex_from : List ℕ → ℕ → Lexed
lex_from text at = lex between at (drop at text)

-- the tokens from a place on
abbrev pub left : List ℕ → ℕ → List Placed
left text at = tokens_of (lex_from text at)

-- a place of a text from which on every quote is closed
pub record Closed (text : List ℕ) (at : ℕ) : Type 0 where
  pub here : at ≤ length text
  pub lexed : Lexes at (drop at text) (left text at)

-- ---- what the code computes

-- space, tab or LF
unfoldable pub is_blank : ℕ → Bool
is_blank b = pick (eqb b 32) true (pick (eqb b 9) true (eqb b 10))

-- none of the four characters, and no blank
unfoldable pub is_letter : ℕ → Bool
is_letter b = pick (eqb b 40) false (pick (eqb b 41) false (pick (eqb b 33) false (pick (eqb b 39) false (not (is_blank b)))))

-- no quote
unfoldable pub is_inner : ℕ → Bool
is_inner b = not (eqb b 39)

-- what a function of a byte answers is what a test says
abbrev pub Computes : (ℕ → Bool → Type 0) → (ℕ → Bool) → Type 0
Computes answers test = (b : ℕ) (r : Bool) → answers b r → r ≡ test b

-- how many bytes at the front pass a test, up to the first that doesn't
unfoldable pub run : (ℕ → Bool) → List ℕ → ℕ
run test [] = 0
run test (b ∷ bs) = pick (test b) (suc (run test bs)) 0

-- where such bytes from a place on end
abbrev pub run_end : (ℕ → Bool) → List ℕ → ℕ → ℕ
run_end test text at = at + run test (drop at text)

-- a sort, the place of its first byte and the place behind its last
abbrev pub lexeme : Sort → ℕ → ℕ → Lexeme
lexeme k s e = record { sort = k; start = s; end = e }

-- from a quote up to the one that closes it, or to the end where none does
unfoldable pub quote_at : List ℕ → ℕ → Lexeme
quote_at text p =
    pick (leb (length text) (run_end is_inner text (p + 1))) (lexeme Unclosed p (length text))
    (lexeme Quoted p (run_end is_inner text (p + 1) + 1))

-- what begins at a place where no blank stands
unfoldable pub start_at : List ℕ → ℕ → Lexeme
start_at text p =
    pick (leb (length text) p) (lexeme End (length text) (length text))
    (pick (eqb (get_or text p 0) 40) (lexeme Open p (p + 1))
    (pick (eqb (get_or text p 0) 41) (lexeme Close p (p + 1))
    (pick (eqb (get_or text p 0) 33) (lexeme Bang p (p + 1))
    (pick (eqb (get_or text p 0) 39) (quote_at text p)
    (lexeme Word p (run_end is_letter text p))))))

-- the next token from a place on, behind blanks
abbrev pub next_at : List ℕ → ℕ → Lexeme
next_at text at = start_at text (run_end is_blank text at)

-- what a text holds from a place up to another
abbrev pub part : List ℕ → ℕ → ℕ → List ℕ
part text start end = take (end - start) (drop start text)

-- the bytes of a token by its sort, from a place up to another
unfoldable pub bytes_of_sort : List ℕ → Sort → ℕ → ℕ → List ℕ
bytes_of_sort text End s e = []
bytes_of_sort text Open s e = []
bytes_of_sort text Close s e = []
bytes_of_sort text Bang s e = []
bytes_of_sort text Word s e = part text s e
bytes_of_sort text Quoted s e = part text (s + 1) (e - 1)
bytes_of_sort text Unclosed s e = []

-- the bytes of a word, and those between the quotes of a quoted token
abbrev pub bytes_in : List ℕ → Lexeme → List ℕ
bytes_in text l = bytes_of_sort text l.sort l.start l.end

-- a token of a sort, with its bytes
abbrev pub token_of : Sort → List ℕ → Option Token
token_of End w = None
token_of Open w = Some open'
token_of Close w = Some close
token_of Bang w = Some bang
token_of Word w = Some (word w)
token_of Quoted w = Some (quoted w)
token_of Unclosed w = None

-- the token that a lexeme is
abbrev pub token_in : List ℕ → Lexeme → Option Token
token_in text l = token_of l.sort (bytes_in text l)

-- the place of the first forbidden byte, the length where there is none
abbrev pub allowed_front : List ℕ → ℕ
allowed_front text = run allowed text

-- the place of an answer's unclosed quote, or another place where every quote is closed
unfoldable pub unclosed_in : Lexed → ℕ → ℕ
unclosed_in (tokens ts) n = n
unclosed_in (unclosed p) n = p

-- the place of the quote that isn't closed, the length where there is none
abbrev pub unclosed_at : List ℕ → ℕ
unclosed_at text = unclosed_in (read text) (length text)
