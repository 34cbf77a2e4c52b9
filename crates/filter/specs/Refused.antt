-- What a refusal of a text says, in words: its number and its place, and that what is refused is the first.
use Rattle.std.specs.Prelude.{ℕ, suc, ◌≡◌, List, [], ◌∷◌, ◌++◌, length}
use Rattle.program.specs.Readings.{Reading}
use Rattle.token.specs.Tokens.{Token, Placed, Lexes}
use Rattle.filter.specs.Grammar.{expression, Reads}
use Rattle.filter.specs.Levels.{level_limit, Open}
use Rattle.filter.specs.declared.Refusal.{Refusal}
use Rattle.filter.specs.declared.Refusal.TheVariants.{Token as BadToken, Level}
use Rattle.filter.specs.Answers.{number_of, Alive, Leads, Opener, Has, bare, Reaches}

-- t is a token of the text at its place, and ts stand before it: every beginning of these leads on, so none of them is refused
pub record FirstToken (text : List ℕ) (ts : List Token) (t : Token) (place : ℕ) : Type 0 where
  pub reaches : Reaches text ts t place
  pub leads : (xs ys : List Token) → ts ≡ xs ++ ys → Leads level_limit xs

-- every beginning of the text's tokens leads on, but they are no expression
pub record DeadEnd (text : List ℕ) : Type 0 where
  pub tokens : List Placed
  pub lexed : Lexes 0 text tokens
  pub leads : (xs ys : List Token) → bare tokens ≡ xs ++ ys → Leads level_limit xs
  pub unread : (r : Reading) → Reads expression (bare tokens) r → ⊥

-- what 4, 5 and 6 are given for, and where
pub data FirstRefused (text : List ℕ) : ℕ → ℕ → Type 0 where
  -- the first token that no continuation allows: 4, or 5 if it is an operand that breaks its test's rule
  not_allowed : {ts : List Token} {t : Token} {why : Refusal} {p : ℕ} → FirstToken text ts t p → (Alive (ts ++ (t ∷ [])) → ⊥)
      → Has level_limit ts t why → FirstRefused text (number_of why) p
  -- an earlier one that opens a level too many: 6
  level_too_many : {ts : List Token} {t : Token} {p : ℕ} → FirstToken text ts t p → Opener t → Open (ts ++ (t ∷ [])) (suc level_limit)
      → FirstRefused text (number_of Level) p
  -- the end, where there is no such token: 4
  the_end : DeadEnd text → FirstRefused text (number_of BadToken) (length text)
