-- What a text is answered: the paper's words for 1 to 8, with no reader in them.
use Rattle.std.specs.Prelude.{ℕ, suc, ◌*◌, ◌≤◌, ◌<◌, ◌≡◌, List, [], ◌∷◌, ◌++◌, length}
use Rattle.octets.specs.Lists.{Every}
use Rattle.program.specs.Readings.{Test, Reading, weight}
use Rattle.program.specs.Records.{weight_limit}
use Rattle.program.specs.Layout.{record_size}
use Rattle.token.specs.Texts.{text_limit, Allowed, Forbidden}
use Rattle.token.specs.Tokens.{Word, Token, open', bang, word, Placed, placed, Lexes, Unclosed}
use Rattle.filter.specs.Words.{name, Says}
use Rattle.filter.specs.Grammar.{Operand, expression, Reads}
use Rattle.filter.specs.Levels.{level_limit, open_at, Open}
use Rattle.filter.specs.declared.Refusal.{Refusal}
use Rattle.filter.specs.declared.Refusal.TheVariants.{Length, Byte, Quote, Token as BadToken, Operand as BadOperand, Level, Weight, Room}
use Rattle.operand.specs.declared.Name.{Name}
use Rattle.operand.specs.Tests.{StandsFor}

-- the paper's numbers
unfoldable pub number_of : Refusal → ℕ
number_of Length = 1
number_of Byte = 2
number_of Quote = 3
number_of BadToken = 4
number_of BadOperand = 5
number_of Level = 6
number_of Weight = 7
number_of Room = 8

-- some continuation of these tokens is derived: tokens of any number may follow
pub record Alive (ts : List Token) : Type 0 where
  pub more : List Token
  pub reading : Reading
  pub reads : Reads expression (ts ++ more) reading

-- some continuation is derived with at most that many levels open at once: no token so far has 4, 5 or 6 (Refusals `leads_exactly`)
pub record Leads (limit : ℕ) (ts : List Token) : Type 0 where
  pub more : List Token
  pub reading : Reading
  pub reads : Reads expression (ts ++ more) reading
  pub within : (n : ℕ) → open_at reads n ≤ limit

-- after these tokens t stands as an operand: the last of them names a test that has one, where a factor may begin
pub record Stands (ts : List Token) (t : Token) : Type 0 where
  pub before : List Token
  pub named : Word
  pub test : Name
  pub bytes : Word
  pub joined : ts ≡ before ++ (word named ∷ [])
  pub begins : Alive (before ++ (bang ∷ []))
  pub says : Says named (name test)
  pub operand : Operand t bytes

-- a `(` or a `!`
pub data Opener : Token → Type 0 where
  a_group : Opener open'
  a_bang : Opener bang

-- a token after these is refused so, where at most that many levels may be open
pub data Has (limit : ℕ) (ts : List Token) (t : Token) : Refusal → Type 0 where
  -- 4: no continuation allows it, and it is no operand
  bad_token : (Alive (ts ++ (t ∷ [])) → ⊥) → (Stands ts t → ⊥) → Has limit ts t BadToken
  -- 5: operand breaks its test's rule
  bad_operand : (s : Stands ts t) → ((x : Test) → StandsFor s.test s.bytes x → ⊥) → Has limit ts t BadOperand
  -- 6: `(` or `!` opening a level too many
  too_deep : Opener t → Open (ts ++ (t ∷ [])) (suc limit) → Has limit ts t Level

-- tokens without their places
unfoldable pub bare : List Placed → List Token
bare [] = []
bare (p ∷ more) = p.token ∷ bare more

-- size and bytes are as allowed
pub record Fine (text : List ℕ) : Type 0 where
  pub short : length text ≤ text_limit
  pub allowed : Every Allowed text

-- the tokens of a text up to one at a place, and that one; no token before it has 4, 5 or 6
pub record Reaches (text : List ℕ) (before : List Token) (t : Token) (place : ℕ) : Type 0 where
  pub front : List Placed
  pub back : List Placed
  pub lexed : Lexes 0 text (front ++ (placed place t ∷ back))
  pub tokens : bare front ≡ before
  pub leads : Leads level_limit before

-- the grammar derives a text, with this reading
pub record Derived (text : List ℕ) (r : Reading) : Type 0 where
  pub tokens : List Placed
  pub lexed : Lexes 0 text tokens
  pub reads : Reads expression (bare tokens) r

-- the same, and its nesting is as allowed
pub record DerivedWithin (text : List ℕ) (r : Reading) : Type 0 where
  pub derived : Derived text r
  pub within : (n : ℕ) → open_at derived.reads n ≤ level_limit

-- a text compiles to the program of a reading, or is refused
pub data TextOutcome : Type 0 where
  compiled : Reading → TextOutcome
  -- why, and the place
  refused : Refusal → ℕ → TextOutcome

-- the answer for a text and a program buffer of so many bytes
pub data TextAnswers (text : List ℕ) (room : ℕ) : TextOutcome → Type 0 where
  -- 1: text over 4,096 bytes
  too_long : text_limit < length text → TextAnswers text room (refused Length 0)
  -- 2: a forbidden byte, at the first one's place
  forbidden : {p : ℕ} → length text ≤ text_limit → Forbidden text p → TextAnswers text room (refused Byte p)
  -- 3: quote not closed, at its opening
  unclosed : {p : ℕ} → Fine text → Unclosed text p → TextAnswers text room (refused Quote p)
  -- 4, 5 and 6: for the first token that has one
  bad_first : {ts : List Token} {t : Token} {why : Refusal} {p : ℕ} → Fine text → Reaches text ts t p → Has level_limit ts t why
      → TextAnswers text room (refused why p)
  -- 4: the end of the text
  bad_end : (ts : List Placed) → Fine text → Lexes 0 text ts → Leads level_limit (bare ts) → ((r : Reading) → Reads expression (bare ts) r → ⊥)
      → TextAnswers text room (refused BadToken (length text))
  -- 7: weight over 512
  too_heavy : {r : Reading} → Fine text → DerivedWithin text r → weight_limit < weight r → TextAnswers text room (refused Weight 0)
  -- 8: program buffer under 16 x weight bytes
  no_room : {r : Reading} → Fine text → DerivedWithin text r → weight r ≤ weight_limit → room < record_size * weight r
      → TextAnswers text room (refused Room 0)
  compiles : {r : Reading} → Fine text → DerivedWithin text r → weight r ≤ weight_limit → record_size * weight r ≤ room
      → TextAnswers text room (compiled r)
