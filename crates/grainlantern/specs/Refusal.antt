-- What is written for a bad filter. The paper: "only `refused N at P` and LF".
use Rattle.std.specs.Prelude.{ℕ, ◌≤◌, ◌≡◌, List, [], ◌∷◌, ◌++◌}
use Rattle.octets.specs.Decimal.{decimal}
use Rattle.filter.specs.Functions.{our_compiler}

-- `refused `, the refusal's number, ` at `, its place, LF
abbrev pub refusal_text : ℕ → ℕ → List ℕ
refusal_text number place =
    (114 ∷ 101 ∷ 102 ∷ 117 ∷ 115 ∷ 101 ∷ 100 ∷ 32 ∷ [])
    ++ (decimal number ++ ((32 ∷ 97 ∷ 116 ∷ 32 ∷ []) ++ (decimal place ++ (10 ∷ []))))

-- compiling some text is refused with this number, at this place
pub record RefusedAt (number place : ℕ) : Type 0 where
  pub text : List ℕ
  pub buffer : List ℕ
  pub numbered : (our_compiler text buffer).number ≡ number
  pub refused : 1 ≤ number
  pub placed : (our_compiler text buffer).value ≡ place
