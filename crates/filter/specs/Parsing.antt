-- What the grammar functions promise, said of the reader: whatever stands around a part, the reader goes on from where the part ends.
use Rattle.std.specs.Prelude.{ℕ, ◌+◌, ◌*◌, ◌≤◌, ◌<◌, ◌≡◌, Bool, true, false, List, [], ◌∷◌, ◌++◌, length, Option, Some, None, Result, Ok, Err}
use Rattle.std.proofs.lemmas.List.Edits.{sets}
use Rattle.program.specs.Readings.{has_loop, has_bogon, and, or, Reading, weight}
use Rattle.program.specs.Layout.{record_size}
use Rattle.program.specs.Compiling.{program_of}
use Rattle.token.specs.Texts.{text_limit}
use Rattle.filter.specs.Levels.{level_limit}
use Rattle.token.specs.Tokens.{Token, open', close, bang, word, quoted, Placed}
use Rattle.token.specs.Next.{left, Closed, next_at}
use Rattle.token.specs.declared.Sort.{Sort}
use Rattle.token.specs.declared.Sort.TheVariants.{End, Open, Close, Bang, Word, Quoted, Unclosed}
use Rattle.token.specs.declared.Lexeme.{Lexeme}
use Rattle.filter.specs.Words.{joins, flag, name, role_of}
use Rattle.filter.specs.Words as words
use Rattle.filter.specs.Grammar.{Part, expression, conjunction, factor}
use Rattle.filter.specs.Answers.{bare}
use Rattle.filter.specs.Reader.{Hole, first, head, depth, ReaderState, want, have, Why, ReaderAnswer, ok, refused}
use Rattle.filter.specs.Reader.{settle, outer, answered, walk, read}
use Rattle.filter.specs.Answering.{refusal_of, start_of, place_of}
use Rattle.filter.specs.declared.Role.{Role}
use Rattle.filter.specs.declared.Role.TheVariants.{And, Or, Loops, Bogons, Named}
use Rattle.filter.specs.declared.Refusal.{Refusal}
use Rattle.filter.specs.declared.Refused.{Refused}
use Rattle.filter.specs.declared.Upto.{Upto}

-- what the code's roles are
abbrev pub role_meant : Role → words.Role
role_meant And = joins and
role_meant Or = joins or
role_meant Loops = flag has_loop
role_meant Bogons = flag has_bogon
role_meant (Named k) = name k

-- what the code's answer says of a word
abbrev pub role_said : Option Role → Option words.Role
role_said (Some r) = Some (role_meant r)
role_said None = None

-- a refusal at a place
abbrev pub refused_at : Refusal → ℕ → Refused
refused_at k q = record { refusal = k; place = q }

-- a word or a quoted token
abbrev pub operand_sort : Sort → Bool
operand_sort End = false
operand_sort Open = false
operand_sort Close = false
operand_sort Bang = false
operand_sort Word = true
operand_sort Quoted = true
operand_sort Unclosed = false

-- `(` or `!`
abbrev pub opens_level : Sort → Bool
opens_level End = false
opens_level Open = true
opens_level Close = false
opens_level Bang = true
opens_level Word = false
opens_level Quoted = false
opens_level Unclosed = false

-- the role of a token, if that is a word
abbrev pub token_role : Token → Option words.Role
token_role open' = None
token_role close = None
token_role bang = None
token_role (word w) = role_of w
token_role (quoted w) = None

abbrev pub role_in : Option Token → Option words.Role
role_in None = None
role_in (Some t) = token_role t

-- the role of the first token
unfoldable pub first_role : List Placed → Option words.Role
first_role [] = None
first_role (p ∷ ps) = token_role p.token

-- the tokens from one on
abbrev pub from : List ℕ → Lexeme → List Placed
from text t = left text t.start

-- the answer for tokens from a state on
unfoldable pub run : ReaderState → List Placed → ReaderAnswer
run s ps = answered (walk level_limit s (bare ps))

-- where the reader begins to read a part in h
unfoldable pub begins : (p : Part) → Hole p → ReaderState
begins expression h = want (head (first h))
begins conjunction h = want (head h)
begins factor h = want h

-- where it stands when the part has been read as r
unfoldable pub Stood : (p : Part) → Reading → Hole p → ReaderState → Type 0
Stood expression r h s = (c : Reading) × (k : Hole conjunction) × (outer c k ≡ (r, h)) × (s ≡ have c k)
Stood conjunction r h s = s ≡ have r h
Stood factor r h s = s ≡ settle r h

-- these tokens don't go on with the part
unfoldable pub Over : Part → List Placed → Type 0
Over expression ps = (first_role ps ≡ Some (joins and) → ⊥) × (first_role ps ≡ Some (joins or) → ⊥)
Over conjunction ps = first_role ps ≡ Some (joins and) → ⊥
Over factor ps = Unit {0}

-- t is the next token at its own place, every quote from there on is closed, and n records stand for what is before it
pub record Ready (text : List ℕ) (t : Lexeme) (n : ℕ) : Type 0 where
  pub short : length text ≤ text_limit
  pub closed : Closed text t.start
  pub here : next_at text t.start ≡ t
  pub few : n ≤ t.start

-- the tokens from t on are some that were passed, and then those from u on
pub record Passed (text : List ℕ) (t u : Lexeme) : Type 0 where
  pub front : List Placed
  pub joined : from text t ≡ front ++ from text u

-- from t up to u a part was read, and its records were laid over the buffer from record n up to m, as far as it reaches
pub record Read (p : Part) (text : List ℕ) (level : ℕ) (t : Lexeme) (n : ℕ) (old : List ℕ) (u : Lexeme) (m : ℕ) (new : List ℕ) : Type 0 where
  pub reading : Reading
  pub runs : (h : Hole p) → depth h ≡ level → (s : ReaderState) × Stood p reading h s × (run (begins p h) (from text t) ≡ run s (from text u))
  pub closed : Closed text u.start
  pub here : next_at text u.start ≡ u
  pub passed : Passed text t u
  pub fewer : length (from text u) < length (from text t)
  pub light : t.start + weight reading ≤ u.start
  pub count : m ≡ n + weight reading
  pub wrote : new ≡ sets old (record_size * n) (program_of reading)

-- from t on a part is refused at a place
pub record Stopped (p : Part) (text : List ℕ) (level : ℕ) (t : Lexeme) (refusal : Refusal) (place : ℕ) : Type 0 where
  pub why : Why
  pub front : List Placed
  pub rest : List Placed
  pub named : refusal_of why ≡ refusal
  pub joined : from text t ≡ front ++ rest
  pub there : start_of (length text) rest ≡ place
  pub stops : (h : Hole p) → depth h ≡ level → run (begins p h) (from text t) ≡ refused why (bare rest)

-- what the function of a part says of its answer: a part was read up to there, and goes on no further; or it is refused
pub record PartSays (p : Part) (text : List ℕ) (level : ℕ) (t : Lexeme) (n : ℕ) (old : List ℕ) (r : Result Upto Refused) (new : List ℕ) : Type 0 where
  pub upto : (u : Upto) → r ≡ Ok u → Read p text level t n old u.next u.n new
  pub over : (u : Upto) → r ≡ Ok u → Over p (from text u.next)
  pub refused : (x : Refused) → r ≡ Err x → Stopped p text level t x.refusal x.place

-- the same for a test, whatever levels are open
pub record TestSays (text : List ℕ) (t : Lexeme) (n : ℕ) (old : List ℕ) (r : Result Upto Refused) (new : List ℕ) : Type 0 where
  pub says : (level : ℕ) → PartSays factor text level t n old r new

-- a whole text is read, and its records were laid over the buffer as far as it reaches
pub record WholeRead (text old : List ℕ) (m : ℕ) (new : List ℕ) : Type 0 where
  pub reading : Reading
  pub reads : read level_limit (bare (left text 0)) ≡ ok reading
  pub count : m ≡ weight reading
  pub light : m ≤ length text
  pub wrote : new ≡ sets old 0 (program_of reading)

-- a whole text is refused at a place
pub record WholeStopped (text : List ℕ) (k : Refusal) (place : ℕ) : Type 0 where
  pub why : Why
  pub rest : List Token
  pub stops : read level_limit (bare (left text 0)) ≡ refused why rest
  pub named : refusal_of why ≡ k
  pub there : place_of (length text) (left text 0) rest ≡ place

-- a whole text: read, or refused
pub record Whole (text : List ℕ) (old : List ℕ) (r : Result ℕ Refused) (new : List ℕ) : Type 0 where
  pub read : (n : ℕ) → r ≡ Ok n → WholeRead text old n new
  pub refused : (x : Refused) → r ≡ Err x → WholeStopped text x.refusal x.place
