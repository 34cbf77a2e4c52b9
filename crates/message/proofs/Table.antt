-- Tables of rows: the first row that holds is one, and checks looked at in their order answer with its refusal. Assumes nothing.
use Prim.Native.Nat.{ℕ}
use native.Mathlib.Omega.{arith}
use mathlib.Core.Path.{◌≡◌, refl, subst}
use mathlib.Core.Bool.{Bool, true, false}
use mathlib.Core.List.{List, ◌∷◌}
use Rattle.octets.specs.Choice.{pick}
use Rattle.message.specs.declared.Parts.{Parts}
use Rattle.message.specs.declared.Refusal.{Refusal}
use Rattle.std.specs.Prelude.{Result, Ok, Err}
use Rattle.message.specs.Refusals.{Row, First, here, later, None, next}
use Rattle.message.proofs.Deciding.{Decides, decides_false}

module _ {s : List ℕ} where
  -- the first row that holds has one refusal
  pub first_one : {table : List Row} {r r' : Refusal} → First s table r → First s table r' → r ≡ r'
  first_one (here c) (here d) = refl
  first_one (here c) (later n f) = absurd (n c)
  first_one (later n f) (here c) = absurd (n c)
  first_one (later n f) (later m g) = first_one f g

  -- where a row is the first that holds, it is not so that none holds
  pub first_none : {table : List Row} {r : Refusal} → First s table r → None s table → ⊥
  first_none (here c) (next n m) = n c
  first_none (later n f) (next k m) = first_none f m

-- an answer agrees with a table: a refusal is that of the first row that holds, and where something is read no row holds
pub record RowAnswers (s : List ℕ) (table : List Row) (d : Result Parts Refusal) : Type 1 where
  pub refused : {r : Refusal} → d ≡ Err r → First s table r
  pub read : {p : Parts} → d ≡ Ok p → None s table

module _ {s : List ℕ} where
  -- where no row holds, what is read agrees
  pub answers_read : {table : List Row} (p : Parts) → None s table → RowAnswers s table (Ok p)
  answers_read p n = record {
    refused = λ e. absurd (let z : ◌≡◌ {A = ℕ} 0 1 = cc in omega arith);
    read = λ e. n;
  }

  -- a check that decides its row, and after it an answer that agrees with the rows below
  pub answers_row : {r : Row} {more : List Row} {b : Bool} {d : Result Parts Refusal} → Decides b (r.condition s) → (b ≡ false → RowAnswers s more d)
      → RowAnswers s (r ∷ more) (pick b (Err r.refusal) d)
  answers_row {r = r} {more = more} {b = true} c f = record {
    refused = λ {r = x} e. let q : r.refusal ≡ x = cc in subst (λ (y : Refusal). First s (r ∷ more) y) q (here (c.sound refl));
    read = λ e. absurd (let z : ◌≡◌ {A = ℕ} 0 1 = cc in omega arith);
  }
  answers_row {b = false} c f = record {
    refused = λ e. later (decides_false c refl) ((f refl).refused e);
    read = λ e. next (decides_false c refl) ((f refl).read e);
  }

  -- the answer that agrees with a table is the first row's refusal
  pub first_refused : {table : List Row} (d : Result Parts Refusal) {r : Refusal} → RowAnswers s table d → First s table r → d ≡ Err r
  first_refused (Ok p) a f = absurd (first_none f (a.read refl))
  first_refused (Err x) a f = let q = first_one (a.refused refl) f in cc

  -- and where no row holds, it reads something
  pub none_read : {table : List Row} (d : Result Parts Refusal) → RowAnswers s table d → None s table → (p : Parts) × (d ≡ Ok p)
  none_read (Ok p) a n = (p, refl)
  none_read (Err x) a n = absurd (first_none (a.refused refl) n)
