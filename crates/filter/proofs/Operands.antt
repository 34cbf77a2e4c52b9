-- A token that stands as an operand: it is allowed exactly when it keeps its test's rule. Assumes nothing.
use Prim.Native.Nat.{ℕ, ◌≤◌, max}
use native.Mathlib.Omega.{arith}
use mathlib.Core.Path.{◌≡◌, refl, ap, ◌∙◌, sym}
use Rattle.std.specs.Prelude.{Option, None, Some}
use mathlib.Core.List.{List, [], ◌∷◌, ◌++◌}
use mathlib.Core.Logic.{◌↔◌}
use lib.Dec.{ltb}
use Rattle.program.specs.Readings.{Test}
use Rattle.token.specs.Tokens.{Word, Token, bang, word}
use Rattle.filter.specs.Grammar.{Operand, factor}
use Rattle.filter.specs.Levels.{Open}
use Rattle.filter.specs.Answers.{Alive, Leads, Stands}
use Rattle.filter.specs.Reader.{Hole, ReaderState, want, operand, have, level, broken, stuck, came, fill, admit, follow, start, move, step, walk}
use Rattle.filter.proofs.Walks.{no_came, walk_stop, walk_takes, walk_join, walk_split, wider}
use Rattle.filter.proofs.Complete.{name_moves, operand_fills, operand_moves}
use Rattle.filter.proofs.Counts.{levels, levels_open}
use Rattle.filter.proofs.Agree.{reached}
use Rattle.filter.proofs.Endings.{leads}
use Rattle.operand.specs.declared.Name.{Name}
use Rattle.operand.specs.Tests.{StandsFor, meaning}
use Rattle.operand.proofs.Meanings.{meaning_sound}

-- what leads on within a limit is allowed
pub leads_alive : {L : ℕ} {ts : List Token} → Leads L ts → Alive ts
leads_alive l = record { more = l.more; reading = l.reading; reads = l.reads }

-- what has levels open is allowed
pub open_alive : {ts : List Token} {n : ℕ} → Open ts n → Alive ts
open_alive o = record { more = o.more; reading = o.reading; reads = o.reads }

-- an operand that comes is taken, or breaks its test's rule
fill_moves : (h : Hole factor) (x : Option Test) → fill h x ≡ stuck → ⊥
unfolding fill
fill_moves h None e = let z : ◌≡◌ {A = ℕ} 0 1 = cc in omega arith
fill_moves h (Some x) e = let z : ◌≡◌ {A = ℕ} 0 1 = cc in omega arith

-- the state after tokens that are allowed, for some limit
pub alive_reached : (L : ℕ) (ts : List Token) → Alive ts → (M : ℕ) × (s : ReaderState) × (L ≤ M) × (walk M start ts ≡ came s)
alive_reached L ts a =
    let M : ℕ = max L (levels a.reads) in
    let (s, e) = reached M ts a.more a.reads (omega arith) in
    (M, s, omega arith, e)

-- the state after tokens that lead on
pub leads_reached : (L : ℕ) (ts : List Token) → Leads L ts → (s : ReaderState) × (walk L start ts ≡ came s)
leads_reached L ts l = reached L ts l.more l.reads ((levels_open l.reads L).1 l.within)

-- only where a factor is wanted does `!` go on
wanted : (M : ℕ) (s x : ReaderState) → walk M s (bang ∷ []) ≡ came x → (h : Hole factor) × (s ≡ want h)
unfolding walk follow step admit move
wanted M (want h) x e = (h, refl)
wanted M (operand k h) x e = no_came _ e refl
wanted M (have r h) x e = no_came _ e refl

-- where an operand is wanted, none is stuck
pub operand_unstuck : (k : Name) (h : Hole factor) {t : Token} {v : Word} → Operand t v → move (operand k h) t ≡ stuck → ⊥
operand_unstuck k h {v = v} o e = fill_moves h (meaning k v) (sym (operand_fills h k o) ∙ e)

-- where an operand is wanted, one that is let in keeps its test's rule
operand_kept : (M : ℕ) (k : Name) (h : Hole factor) {t : Token} {v : Word} → Operand t v → (s : ReaderState) → walk M (operand k h) (t ∷ []) ≡ came s
    → (x : Test) × StandsFor k v x
unfolding step admit fill
operand_kept M k h {t} {v} o s e = by_meaning (meaning k v) refl
  where
    by_meaning : (m : Option Test) → meaning k v ≡ m → (x : Test) × StandsFor k v x
    by_meaning (Some x) p = (x, meaning_sound k v p)
    by_meaning None p =
        no_came _ e (walk_stop M (operand k h) broken t [] (ap (admit (ltb (level (operand k h)) M)) (operand_fills h k o ∙ ap (fill h) p)))

-- a walk with a limit of L or more comes to a test's operand
abbrev ToOperand : ℕ → List Token → Name → Type 0
ToOperand L ts k = (M : ℕ) × (h : Hole factor) × (L ≤ M) × (walk M start ts ≡ came (operand k h))

-- where t stands as an operand, a walk comes there
stands_reached : (L : ℕ) {ts : List Token} {t : Token} (st : Stands ts t) → ToOperand L ts st.test
unfolding walk
stands_reached L {ts} st = by_bang (alive_reached L (st.before ++ (bang ∷ [])) st.begins)
  where
    by_want : (M : ℕ) (y : ReaderState) → L ≤ M → walk M start st.before ≡ came y → (h : Hole factor) × (y ≡ want h)
        → ToOperand L ts st.test
    by_want M y l f (h, p) =
        let a : walk M start st.before ≡ came (want h) = f ∙ ap came p in
        let b : walk M start (st.before ++ (word st.named ∷ [])) ≡ came (operand st.test h) =
        walk_join M start st.before (word st.named ∷ []) (want h) a
        ∙ walk_takes M (want h) (operand st.test h) (word st.named) [] (name_moves h st.says) in
        (M, h, l, rw st.joined b)

    by_split : (M : ℕ) (x : ReaderState) → L ≤ M → (y : ReaderState) × (walk M start st.before ≡ came y) × (walk M y (bang ∷ []) ≡ came x)
        → ToOperand L ts st.test
    by_split M x l (y, f, g) = by_want M y l f (wanted M y x g)

    by_bang : (M : ℕ) × (s : ReaderState) × (L ≤ M) × (walk M start (st.before ++ (bang ∷ [])) ≡ came s)
        → ToOperand L ts st.test
    by_bang (M, x, l, e) = by_split M x l (walk_split M start st.before (bang ∷ []) x e)

-- a token that stands as an operand is allowed exactly when it keeps its test's rule
operand_alive : {ts : List Token} {t : Token} (st : Stands ts t) → Alive (ts ++ (t ∷ [])) ↔ ((x : Test) × StandsFor st.test st.bytes x)
unfolding walk
operand_alive {ts} {t} st = (λ a. forth a (stands_reached 0 st), λ x. back x (stands_reached 0 st))
  where
    by_walk : (M N : ℕ) (h : Hole factor) (s : ReaderState) → M ≤ N → walk M start ts ≡ came (operand st.test h) → walk N start (ts ++ (t ∷ [])) ≡ came s
        → (x : Test) × StandsFor st.test st.bytes x
    by_walk M N h s l f e =
        operand_kept N st.test h st.operand s (sym (walk_join N start ts (t ∷ []) _ (wider M N l start ts _ f)) ∙ e)

    forth : Alive (ts ++ (t ∷ [])) → ToOperand 0 ts st.test → (x : Test) × StandsFor st.test st.bytes x
    forth a (M, h, z, f) = let (N, s, l, e) = alive_reached M (ts ++ (t ∷ [])) a in by_walk M N h s l f e

    back : (x : Test) × StandsFor st.test st.bytes x → ToOperand 0 ts st.test → Alive (ts ++ (t ∷ []))
    back (x, m) (M, h, z, f) =
        leads_alive (leads M (ts ++ (t ∷ [])) _ (walk_join M start ts (t ∷ []) _ f ∙ walk_takes M (operand st.test h) _ t [] (operand_moves h st.operand m)))

-- so no continuation allows one that breaks it
pub broken_dead : {ts : List Token} {t : Token} (st : Stands ts t) → ((x : Test) → StandsFor st.test st.bytes x → ⊥) → Alive (ts ++ (t ∷ [])) → ⊥
broken_dead st n a = let (x, m) = (operand_alive st).0 a in n x m

module _ (L : ℕ) (ts : List Token) (s : ReaderState) (came_to : walk L start ts ≡ came s) where
  -- where t stands as an operand, the walk has come to its test's operand
  pub operand_there : {t : Token} (st : Stands ts t) → (h : Hole factor) × (s ≡ operand st.test h)
  operand_there st =
      let (M, h, l, f) = stands_reached L st in
      let d : walk M start ts ≡ came s = wider L M l start ts s came_to in
      (h, cc)
