-- What a grammar function says of a part: what was read, or what was refused. Assumes nothing.
use Prim.Native.Nat.{ℕ}
use native.Mathlib.Omega.{arith}
use mathlib.Core.Path.{◌≡◌, sym, ap, ◌∙◌}
use Rattle.std.specs.Prelude.{Result, Ok, Err}
use Rattle.std.specs.Result.{IsErrAnd}
use Rattle.std.proofs.lemmas.Result.{err_from_is_err_and}
use mathlib.Core.List.{List, ◌++◌, append_assoc}
use Rattle.token.specs.declared.Lexeme.{Lexeme}
use Rattle.filter.specs.Grammar.{Part}
use Rattle.filter.specs.Answers.{bare}
use Rattle.filter.specs.Reader.{Hole, depth, refused}
use Rattle.filter.specs.Parsing.{from, run, begins, Over, Ready, Passed, Read, Stopped, PartSays}
use Rattle.filter.specs.declared.Refusal.{Refusal}
use Rattle.filter.specs.declared.Refused.{Refused}
use Rattle.filter.specs.declared.Upto.{Upto}

-- behind a part the next token is ready
pub read_ready : {p : Part} {text old new : List ℕ} {lv n m : ℕ} {t u : Lexeme} → Ready text t n → Read p text lv t n old u m new → Ready text u m
read_ready ready r = record { short = ready.short; closed = r.closed; here = r.here; few = omega (arith, ready.few, r.light, r.count) }

-- a part is refused where one in it is, behind tokens that were passed
pub stopped_in : (p q : Part) {text : List ℕ} {lv in_lv place : ℕ} {t u : Lexeme} {k : Refusal} → Passed text t u → Stopped q text in_lv u k place
    → ((h : Hole p) → depth h ≡ lv → (g : Hole q) × (depth g ≡ in_lv) × (run (begins p h) (from text t) ≡ run (begins q g) (from text u)))
    → Stopped p text lv t k place
stopped_in p q {text} {lv} {in_lv} {place} {t} {u} x s f = record {
  why = s.why;
  front = x.front ++ s.front;
  rest = s.rest;
  named = s.named;
  joined = x.joined ∙ rw s.joined (sym (append_assoc x.front s.front s.rest));
  there = s.there;
  stops = λ h d. by_hole h (f h d);
}
  where
    by_hole : (h : Hole p) → (g : Hole q) × (depth g ≡ in_lv) × (run (begins p h) (from text t) ≡ run (begins q g) (from text u))
        → run (begins p h) (from text t) ≡ refused s.why (bare s.rest)
    by_hole h (g, d, e) = e ∙ s.stops g d

module _ {p : Part} {text old new : List ℕ} {lv n : ℕ} {t : Lexeme} where
  -- an answer for what was read
  pub says_read : {u : Upto} → Read p text lv t n old u.next u.n new → Over p (from text u.next) → PartSays p text lv t n old (Ok u) new
  says_read {u} r o = record {
    upto = λ v e. let x : u ≡ v = cc in rw (← x) r;
    over = λ v e. let x : u ≡ v = cc in rw (← x) o;
    refused = λ x e. let z : ◌≡◌ {A = ℕ} 0 1 = cc in absurd (omega arith);
  }

  -- for what was refused
  pub says_stopped : {x : Refused} → Stopped p text lv t x.refusal x.place → PartSays p text lv t n old (Err x) new
  says_stopped {x} s = record {
    upto = λ v e. let z : ◌≡◌ {A = ℕ} 0 1 = cc in absurd (omega arith);
    over = λ v e. let z : ◌≡◌ {A = ℕ} 0 1 = cc in absurd (omega arith);
    refused = λ y e. let z : x ≡ y = cc in rw (← z) s;
  }

-- what `?` hands on is the refusal that it met
pub handed_on : {A : Type 0} {r : Result A Refused} {x : Refused} → IsErrAnd r (λ y. y ≡ x) → r ≡ Err x
handed_on {r = r} {x} e = go (err_from_is_err_and r e)
  where
    go : (y : Refused) × (r ≡ Err y) × (y ≡ x) → r ≡ Err x
    go (y, p, q) = rw p (ap (λ z. Err z) q)
