-- What is parted by blanks, with something made of each: it is read as what it is made of. Assumes nothing.
use Prim.Native.Nat.{ℕ, zero, suc, ◌≤◌}
use mathlib.Core.Path.{◌≡◌, refl}
use Rattle.std.specs.Prelude.{Option, None, Some}
use mathlib.Core.List.{List, [], ◌∷◌, ◌++◌, map}
use lib.ListN.{length}
use Rattle.octets.specs.Choice.{onward}
use Rattle.token.specs.Next.{is_blank}
use Rattle.operand.specs.Fronts.{Read, read, cut}
use Rattle.operand.specs.Parted.{followed, from_first, parted_read}
use Rattle.operand.proofs.Holding.{AnswerHolds, held, holds_onward}
use Rattle.operand.proofs.FrontReads.{Got, Stops}
use Rattle.operand.proofs.PartedLaws.{ReadsOne}

-- it is written as what it is made of
pub data Made {A B : Type 0} (f : A → B) (R : List ℕ → A → Type 0) : List ℕ → B → Type 0 where
  made : {l : List ℕ} {a : A} → R l a → Made f R l (f a)

module _ {A B : Type 0} (f : A → B) where
  -- what was read with something made of it
  abbrev pub makes : Option (Read A) → Option (Read B)
  makes o = onward o (λ r. Some (read (f r.value) r.rest))

  -- the same of many
  abbrev pub makes_all : Read (List A) → Read (List B)
  makes_all r = read (map f r.value) r.rest

  module _ {R : List ℕ → A → Type 0} {one : List ℕ → Option (Read A)} {Behind : List ℕ → Type 0} (k : ReadsOne R one Behind) where
    made_sound : (l : List ℕ) → AnswerHolds (Got (Made f R) l) (makes (one l))
    made_sound l = holds_onward (k.sound l) (λ r g. held (record { text = g.text; joined = g.joined; says = made g.says }))

    made_complete : {text rest : List ℕ} {x : B} → Made f R text x → Behind rest → makes (one (text ++ rest)) ≡ Some (read x rest)
    made_complete (made t) b = rw (k.complete t b)

    made_some : {text : List ℕ} {x : B} → Made f R text x → 1 ≤ length text
    made_some (made t) = k.some_byte t

    made_front : {text : List ℕ} {x : B} → Made f R text x → (rest : List ℕ) → Stops is_blank (text ++ rest)
    made_front (made t) rest = k.front t rest

    -- its reader
    pub made_reads : ReadsOne (Made f R) (λ l. makes (one l)) Behind
    made_reads = record { sound = made_sound; complete = made_complete; some_byte = made_some; front = made_front; gap_behind = k.gap_behind }

  -- all of them
  pub parted_made : (one : List ℕ → Option (Read A)) (n : ℕ) (l : List ℕ) → parted_read (λ m. makes (one m)) n l ≡ makes_all (parted_read one n l)
  unfolding parted_read
  parted_made one zero l = refl
  parted_made one (suc n) l = first (parted_made one n) (one l)
    where
      next : ((m : List ℕ) → parted_read (λ m. makes (one m)) n m ≡ makes_all (parted_read one n m)) → (x : A) (gap tail : List ℕ)
          → followed (parted_read (λ m. makes (one m)) n) (f x) gap tail ≡ makes_all (followed (parted_read one n) x gap tail)
      next ih x [] tail = refl
      next ih x (g ∷ gs) tail = rw (ih tail)

      first : ((m : List ℕ) → parted_read (λ m. makes (one m)) n m ≡ makes_all (parted_read one n m)) → (o : Option (Read A))
          → from_first (parted_read (λ m. makes (one m)) n) l (makes o) ≡ makes_all (from_first (parted_read one n) l o)
      first ih None = refl
      first ih (Some r) = next ih r.value (cut is_blank r.rest).value (cut is_blank r.rest).rest
