-- Names of a table: what one computed test says of each, and that what is read is no name where no name is read. Assumes nothing.
use Prim.Native.Nat.{ℕ}
use mathlib.Core.Path.{◌≡◌, refl}
use mathlib.Core.Bool.{Bool, true}
use Rattle.std.specs.Prelude.{Option, None, Some}
use mathlib.Core.List.{List}
use Rattle.octets.specs.Lists.{every_passes}
use Rattle.octets.proofs.Choices.{never}
use Rattle.octets.proofs.Every.{all_sound}
use Rattle.names.specs.Tables.{Row, In, found}
use Rattle.names.proofs.Finding.{missing, found_sound, in_each}
use Rattle.operand.proofs.Holding.{AnswerHolds, nothing, held, holds_of}

-- a value that was found is a name's
pub found_holds : (names : List (Row ℕ)) (l : List ℕ) → AnswerHolds (In names l) (found names l)
found_holds names l = holds_of (found names l) (λ c e. found_sound names l e)

-- what every row passes each name passes
pub row_passes : (test : List ℕ → ℕ → Bool) {names : List (Row ℕ)} {w : List ℕ} {c : ℕ} → every_passes (λ (r : Row ℕ). test r.word r.value) names ≡ true → In names w c → test w c ≡ true
row_passes test t x = in_each (λ w c. test w c ≡ true) (all_sound (λ r e. e) t) x

-- no name of a table is read
abbrev pub unread : {A : Type 0} → (List ℕ → Option A) → List (Row ℕ) → Bool
unread reader names = every_passes (λ (r : Row ℕ). missing (reader r.word)) names

-- so what is read is no name
pub found_none : {A : Type 0} (reader : List ℕ → Option A) (names : List (Row ℕ)) (l : List ℕ) {a : A} → unread reader names ≡ true → reader l ≡ Some a → found names l ≡ None
found_none reader names l t e = go (found_holds names l)
  where
    go : {o : Option ℕ} → AnswerHolds (In names l) o → o ≡ None
    go nothing = refl
    go (held x) = never (rw e at (row_passes (λ w c. missing (reader w)) t x))
