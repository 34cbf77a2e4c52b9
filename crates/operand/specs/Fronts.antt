-- Reading from the front of bytes, as the code goes: what was read, and what is left behind it.
use Rattle.std.specs.Prelude.{ℕ, Bool, true, false, List, [], ◌∷◌, eqb, take, drop, Option, None, Some}
use Rattle.std.specs.Borrow.{Bor}
use Rattle.octets.specs.Choice.{pick, onward}
use Rattle.token.specs.Next.{run}

-- what was read at the front, and what is left behind it
pub record Read (A : Type 0) : Type 0 where
  pub value : A
  pub rest : List ℕ

-- a value that was read, and what is left
abbrev pub read : {A : Type 0} → A → List ℕ → Read A
read a r = record { value = a; rest = r }

-- an answer of the code: a value and the bytes left behind it
abbrev pub said : {A : Type 0} → Option (A × Bor (List ℕ)) → Option (Read A)
said None = None
said (Some r) = Some (read r.0 r.1.now)

-- the same of the bytes alone
abbrev pub left : Option (Bor (List ℕ)) → Option (List ℕ)
left None = None
left (Some r) = Some r.now

-- what was read, if nothing is left
abbrev pub ended : {A : Type 0} → List ℕ → A → Option A
ended [] a = Some a
ended (b ∷ bs) a = None

-- the same of an answer
abbrev pub wholly : {A : Type 0} → Option (Read A) → Option A
wholly o = onward o (λ r. ended r.rest r.value)

-- what is left behind the byte b
unfoldable pub after : ℕ → List ℕ → Option (List ℕ)
after b [] = None
after b (x ∷ xs) = pick (eqb x b) (Some xs) None

-- whether something was taken, and what is left
abbrev pub chosen : List ℕ → Option (List ℕ) → Read Bool
chosen l None = read false l
chosen l (Some r) = read true r

-- whether the byte b stands at the front, and what is left behind it
unfoldable pub optional : ℕ → List ℕ → Read Bool
optional b l = chosen l (after b l)

-- the bytes at the front that pass a test, and what is left behind them
unfoldable pub cut : (ℕ → Bool) → List ℕ → Read (List ℕ)
cut p l = read (take (run p l) l) (drop (run p l) l)
