-- The answer for a text and a program buffer, as the code computes it.
use Rattle.std.specs.Prelude.{ℕ, ◌-◌, ◌*◌, List, [], ◌∷◌, length, drop, ltb}
use Rattle.octets.specs.Choice.{pick}
use Rattle.program.specs.Readings.{Reading, weight}
use Rattle.program.specs.Records.{weight_limit}
use Rattle.program.specs.Layout.{record_size}
use Rattle.token.specs.Texts.{text_limit}
use Rattle.filter.specs.Levels.{level_limit}
use Rattle.token.specs.Tokens.{Token, Placed}
use Rattle.token.specs.Lexer.{Lexed, tokens, unclosed}
use Rattle.token.specs.Lexer as lexer
use Rattle.token.specs.Next.{allowed_front}
use Rattle.filter.specs.Answers.{bare, TextOutcome, compiled, refused}
use Rattle.filter.specs.Reader.{Why, bad, broken, deep, ReaderAnswer, read}
use Rattle.filter.specs.Reader as reader
use Rattle.filter.specs.declared.Refusal.{Refusal}
use Rattle.filter.specs.declared.Refusal.TheVariants.{Length, Byte, Quote, Token as aToken, Operand, Level, Weight, Room}

-- the reader's refusals among them
abbrev pub refusal_of : Why → Refusal
refusal_of bad = aToken
refusal_of broken = Operand
refusal_of deep = Level

-- the place of the first token, or the end's
unfoldable pub start_of : ℕ → List Placed → ℕ
start_of end [] = end
start_of end (p ∷ ps) = p.place

-- the place from which on ts is left of ps
unfoldable pub place_of : ℕ → List Placed → List Token → ℕ
place_of end ps ts = start_of end (drop (length ps - length ts) ps)

-- 7 and 8, for a reading
abbrev pub fitted : ℕ → Reading → TextOutcome
fitted room r = pick (ltb weight_limit (weight r)) (refused Weight 0) (pick (ltb room (record_size * weight r)) (refused Room 0) (compiled r))

-- 4 to 6, for tokens in a text that ends at a place
abbrev pub judged : ℕ → List Placed → ℕ → ReaderAnswer → TextOutcome
judged end ps room (reader.ok r) = fitted room r
judged end ps room (reader.refused why left) = refused (refusal_of why) (place_of end ps left)

-- 3
abbrev pub lexed : ℕ → ℕ → Lexed → TextOutcome
lexed end room (tokens ps) = judged end ps room (read level_limit (bare ps))
lexed end room (unclosed p) = refused Quote p

-- the answer for a text and a program buffer of so many bytes
unfoldable pub answer : List ℕ → ℕ → TextOutcome
answer text room =
    pick (ltb text_limit (length text)) (refused Length 0)
    (pick (ltb (allowed_front text) (length text)) (refused Byte (allowed_front text)) (lexed (length text) room (lexer.read text)))
