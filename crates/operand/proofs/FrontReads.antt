-- Reading a text from the front: what is read and what is left. Assumes nothing.
use Prim.Native.Nat.{ℕ, suc}
use mathlib.Core.Path.{◌≡◌, refl, sym, ap, ◌∙◌}
use mathlib.Core.Bool.{Bool, true, false}
use Rattle.std.specs.Prelude.{Option, Some}
use mathlib.Core.List.{List, [], ◌∷◌, ◌++◌, append-nil}
use lib.Dec.{eqb}
use lib.ListN.{length, get_or, drop, take-append-drop}
use lib.Seq.{take_at, drop_at}
use borrow.Author.Tests.{eqb-true, eq-eqb}
use Rattle.octets.specs.Choice.{pick}
use Rattle.octets.specs.Lists.{Every, every_none, every_more}
use Rattle.octets.proofs.Choices.{never}
use Rattle.token.specs.Next.{run}
use Rattle.token.proofs.Runs.{run_every}
use Rattle.operand.proofs.Holding.{AnswerHolds, nothing, held, holds_onward, holds_pick}
use Rattle.operand.specs.Fronts.{Read, read, ended, wholly, after, chosen, optional, cut}

-- the text in front of what is left says the value
pub record Got {A : Type 0} (R : List ℕ → A → Type 0) (l : List ℕ) (r : Read A) : Type 0 where
  pub text : List ℕ
  pub joined : l ≡ text ++ r.rest
  pub says : R text r.value

-- a choice of what stands at the front stands there
pub got_pick : {A : Type 0} {R : List ℕ → A → Type 0} {l : List ℕ} (b : Bool) {x y : Read A} → (b ≡ true → Got R l x) → (b ≡ false → Got R l y) → Got R l (pick b x y)
got_pick true f g = f refl
got_pick false f g = g refl

-- what was read and has nothing behind it is what the whole says
ended_sound : {A : Type 0} {R : List ℕ → A → Type 0} {l : List ℕ} {r : Read A} → Got R l r → AnswerHolds (R l) (ended r.rest r.value)
ended_sound {A} {R} {l} {r} g = go r.rest g.joined
  where
    go : (rest : List ℕ) → l ≡ g.text ++ rest → AnswerHolds (R l) (ended rest r.value)
    go [] e = held {a = r.value} (rw (e, append-nil g.text) g.says)
    go (b ∷ bs) e = nothing

-- the same of an answer
pub wholly_sound : {A : Type 0} {R : List ℕ → A → Type 0} {l : List ℕ} {o : Option (Read A)} → AnswerHolds (Got R l) o → AnswerHolds (R l) (wholly o)
wholly_sound h = holds_onward h (λ r g. ended_sound g)

-- and what is read with nothing behind it is what the whole says
pub wholly_complete : {A : Type 0} (reader : List ℕ → Option (Read A)) (l : List ℕ) {x : A} → reader (l ++ []) ≡ Some (read x []) → wholly (reader l) ≡ Some x
wholly_complete reader l {x} h =
    let e : reader l ≡ Some (read x []) = rw (append-nil l) at h in
    rw e

-- ---- one byte

-- the byte stood at the front
pub after_sound : (b : ℕ) (l : List ℕ) → AnswerHolds (λ (r : List ℕ). l ≡ b ∷ r) (after b l)
unfolding after
after_sound b [] = nothing
after_sound b (x ∷ xs) = holds_pick (eqb x b) (λ e. held (ap (λ (y : ℕ). y ∷ xs) (eqb-true x b e))) (λ e. nothing)

-- and is taken where it stands
pub after_complete : (b : ℕ) (r : List ℕ) → after b (b ∷ r) ≡ Some r
unfolding after
after_complete b r = rw (eq-eqb b b refl)

-- the byte stood at the front, or nothing was taken
pub optional_sound : (b : ℕ) (l : List ℕ) → l ≡ pick (optional b l).value (b ∷ []) [] ++ (optional b l).rest
unfolding optional
optional_sound b l = go (after_sound b l)
  where
    go : {o : Option (List ℕ)} → AnswerHolds (λ (r : List ℕ). l ≡ b ∷ r) o → l ≡ pick (chosen l o).value (b ∷ []) [] ++ (chosen l o).rest
    go nothing = refl
    go (held e) = e

-- a byte that stands at the front is taken
pub optional_yes : (b : ℕ) (r : List ℕ) → optional b (b ∷ r) ≡ read true r
unfolding optional
optional_yes b r = rw (after_complete b r)

-- where it does not stand nothing is taken
pub optional_not : (b : ℕ) {l : List ℕ} → ((r : List ℕ) → l ≡ b ∷ r → ⊥) → optional b l ≡ read false l
unfolding optional
optional_not b {l} f = go (after_sound b l)
  where
    go : {o : Option (List ℕ)} → AnswerHolds (λ (r : List ℕ). l ≡ b ∷ r) o → chosen l o ≡ read false l
    go nothing = refl
    go (held {a} e) = absurd (f a e)

-- ---- the longest run of bytes that pass a test

-- the front byte, if any, does not pass
pub data Stops (p : ℕ → Bool) : List ℕ → Type 0 where
  end : Stops p []
  other : {b : ℕ} {bs : List ℕ} → p b ≡ false → Stops p (b ∷ bs)

-- another byte is at the front, where 0 stands past the end
pub first_other : (b : ℕ) {l : List ℕ} → eqb 0 b ≡ false → Stops (λ (x : ℕ). eqb x b) l → eqb (get_or l 0 0) b ≡ false
first_other b z end = z
first_other b z (other e) = e

-- a first byte that is b stands at the front
pub first_is : (b : ℕ) (l : List ℕ) → eqb 0 b ≡ false → eqb (get_or l 0 0) b ≡ true → l ≡ b ∷ drop 1 l
first_is b [] z e = never (sym z ∙ e)
first_is b (x ∷ xs) z e = ap (λ (y : ℕ). y ∷ xs) (eqb-true x b e)

-- what stops a run stops a narrower one
pub stops_narrower : (p q : ℕ → Bool) → ((b : ℕ) → q b ≡ true → p b ≡ true) → {l : List ℕ} → Stops p l → Stops q l
stops_narrower p q f end = end
stops_narrower p q f (other {b} e) = other (go (q b) (f b))
  where
    go : (t : Bool) → (t ≡ true → p b ≡ true) → t ≡ false
    go true g = never (sym e ∙ g refl)
    go false g = refl

-- each byte passes
abbrev pub Run : (ℕ → Bool) → List ℕ → Type 0
Run p l = Every (λ (b : ℕ). p b ≡ true) l

module _ (p : ℕ → Bool) where
  -- a run and what is left are the whole
  pub cut_joined : (l : List ℕ) → l ≡ (cut p l).value ++ (cut p l).rest
  unfolding cut
  cut_joined l = sym (take-append-drop (run p l) l)

  -- the run passes
  pub cut_run : (l : List ℕ) → Run p (cut p l).value
  unfolding cut
  cut_run l = run_every p (λ b e. e) l

  -- no byte is taken where a run stops
  run_stop : {l : List ℕ} → Stops p l → run p l ≡ 0
  unfolding run
  run_stop end = refl
  run_stop (other e) = rw e

  -- bytes that pass are taken before one that does not
  run_exact : {xs ys : List ℕ} → Run p xs → Stops p ys → run p (xs ++ ys) ≡ length xs
  unfolding run
  run_exact every_none s = run_stop s
  run_exact (every_more e es) s = rw (e, run_exact es s)

  -- and are the run
  pub cut_exact : {xs ys : List ℕ} → Run p xs → Stops p ys → cut p (xs ++ ys) ≡ read xs ys
  unfolding cut
  cut_exact {xs} {ys} r s = rw (run_exact r s, take_at xs ys (length xs) refl, drop_at xs ys (length xs) refl)

  -- a run stops at what is left
  cut_stops : (l : List ℕ) → Stops p (drop (run p l) l)
  unfolding run
  cut_stops [] = end
  cut_stops (b ∷ bs) = go (p b) refl (cut_stops bs)
    where
      go : (t : Bool) → p b ≡ t → Stops p (drop (run p bs) bs) → Stops p (drop (pick t (suc (run p bs)) 0) (b ∷ bs))
      go true e h = h
      go false e h = other e

  -- so no other starts there
  pub cut_again : (l : List ℕ) → (cut p (cut p l).rest).rest ≡ (cut p l).rest
  unfolding cut
  cut_again l = rw (run_stop (cut_stops l))
