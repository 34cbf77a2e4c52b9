-- The role of a word: decided, and at most one. The words of the vocabulary differ by one computed test. Assumes nothing.
use Prim.Native.Nat.{ℕ}
use mathlib.Core.Path.{◌≡◌, refl}
use mathlib.Core.Bool.{Bool, true, false}
use Rattle.std.specs.Prelude.{Some, None}
use mathlib.Core.List.{List, [], ◌∷◌, map}
use Rattle.token.specs.Next.{bytes_in, token_of, token_in}
use Rattle.token.specs.declared.Sort.{Sort}
use Rattle.token.specs.declared.Sort.TheVariants.{End, Open, Close, Bang, Word, Quoted, Unclosed}
use Rattle.token.specs.declared.Lexeme.{Lexeme}
use Rattle.program.specs.Readings.{has_loop}
use Rattle.filter.specs.Parsing.{role_meant, role_said, role_in}
use Rattle.filter.specs.Words.{Role, flag, vocabulary, Says, role_of}
use Rattle.octets.specs.Choice.{pick}
use Rattle.octets.specs.Equal.{same}
use Rattle.filter.specs.declared.Role.{Role as Said}
use Rattle.operand.proofs.Holding.{some_once}
use Rattle.names.proofs.Finding.{distinct, found_sound, found_row}
use Rattle.names.specs.Tables.{Row, row, here, there, found}

-- the words of the vocabulary differ
pub words_differ : distinct vocabulary ≡ true
unfolding vocabulary distinct found same
words_differ = refl

-- a role that was found is said
pub says_found : (w : List ℕ) {r : Role} → role_of w ≡ Some r → Says w r
unfolding role_of
says_found w e = found_sound vocabulary w e

-- and none is missed
pub said_role : {w : List ℕ} {r : Role} → Says w r → role_of w ≡ Some r
unfolding role_of
said_role s = found_row words_differ s

-- a word says at most one thing
pub says_once : {w : List ℕ} {r s : Role} → Says w r → Says w s → r ≡ s
says_once p q = some_once (said_role p) (said_role q)

-- `-loops`: a test alone
pub loops_word : List ℕ
loops_word = 45 ∷ 108 ∷ 111 ∷ 111 ∷ 112 ∷ 115 ∷ []

pub loops_said : Says loops_word (flag has_loop)
unfolding vocabulary loops_word
loops_said = there (there here)

-- ---- the code's table

-- its rows, as roles of the words
abbrev pub meant : Row Said → Row Role
meant r = row r.word (role_meant r.value)

-- what is found in it, as a role
pub found_meant : (rows : List (Row Said)) (w : List ℕ) → role_said (found rows w) ≡ found (map meant rows) w
unfolding found
found_meant [] w = refl
found_meant (r ∷ rs) w = go (same w r.word) (found_meant rs w)
  where
    go : (b : Bool) → role_said (found rs w) ≡ found (map meant rs) w
        → role_said (pick b (Some r.value) (found rs w)) ≡ pick b (Some (role_meant r.value)) (found (map meant rs) w)
    go true e = refl
    go false e = e

-- ---- tokens

-- what is no word says nothing
pub no_word : (text : List ℕ) (t : Lexeme) → (t.sort ≡ Word → ⊥) → role_in (token_in text t) ≡ None
no_word text t n = go t.sort n
  where
    go : (k : Sort) → (k ≡ Word → ⊥) → role_in (token_of k (bytes_in text t)) ≡ None
    go End n = refl
    go Open n = refl
    go Close n = refl
    go Bang n = refl
    go Word n = absurd (n refl)
    go Quoted n = refl
    go Unclosed n = refl
