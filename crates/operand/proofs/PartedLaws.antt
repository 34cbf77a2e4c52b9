-- What is parted by blanks: decided, and at most one list. Assumes nothing.
use Prim.Native.Nat.{ℕ, zero, suc, ◌+◌, ◌≤◌, ◌<◌}
use native.Mathlib.Omega.{arith}
use mathlib.Core.Path.{◌≡◌, refl, sym, ap, ◌∙◌}
use mathlib.Core.Bool.{Bool}
use Rattle.std.specs.Prelude.{Option, None, Some}
use mathlib.Core.List.{List, [], ◌∷◌, ◌++◌, append_assoc, append-nil}
use lib.ListN.{length, length-append}
use Rattle.octets.specs.Lists.{Every, every_none, every_more}
use Rattle.octets.proofs.Every.{every_append}
use Rattle.token.specs.Texts.{Blank}
use Rattle.token.specs.Next.{is_blank}
use Rattle.operand.specs.Fronts.{Read, read, cut}
use Rattle.operand.specs.Parted.{PartedText, empty, last, more, followed, from_first, parted_read, all_parted}
use Rattle.operand.proofs.Holding.{AnswerHolds, nothing, held, holds_map}
use Rattle.operand.proofs.FrontReads.{Got, Run, Stops, cut_joined, cut_run, cut_exact}
use Rattle.operand.proofs.Blanks.{blanks_sound, blanks_complete}

-- what the reader of one satisfies: what it reads is written so, and what is written so is read before all that may stand behind one
pub record ReadsOne {A : Type 0} (R : List ℕ → A → Type 0) (one : List ℕ → Option (Read A)) (Behind : List ℕ → Type 0) : Type 0 where
  pub sound : (l : List ℕ) → AnswerHolds (Got R l) (one l)
  pub complete : {text rest : List ℕ} {x : A} → R text x → Behind rest → one (text ++ rest) ≡ Some (read x rest)
  -- one has a byte or more, and starts with no blank
  pub some_byte : {text : List ℕ} {x : A} → R text x → 1 ≤ length text
  pub front : {text : List ℕ} {x : A} → R text x → (rest : List ℕ) → Stops is_blank (text ++ rest)
  -- blanks may stand behind it
  pub gap_behind : {gap : List ℕ} → Every Blank gap → 1 ≤ length gap → (rest : List ℕ) → Behind (gap ++ rest)

-- what may stand behind all of them and blanks: no blank, nothing that the last goes on with, and no further one
pub record Closes {A : Type 0} (one : List ℕ → Option (Read A)) (Behind : List ℕ → Type 0) (l : List ℕ) : Type 0 where
  pub no_blank : Stops is_blank l
  pub behind : Behind l
  pub no_more : one l ≡ None

-- they and blanks stand at the front
pub record Listed {A : Type 0} (R : List ℕ → A → Type 0) (l : List ℕ) (r : Read (List A)) : Type 0 where
  pub text : List ℕ
  pub behind : List ℕ
  pub joined : l ≡ text ++ (behind ++ r.rest)
  pub says : PartedText R text r.value
  pub blank : Every Blank behind

-- what is left behind a run is no longer
pub cut_shorter : (p : ℕ → Bool) (l : List ℕ) → length (cut p l).value + length (cut p l).rest ≡ length l
cut_shorter p l = sym (ap length (cut_joined p l) ∙ length-append (cut p l).value _)

-- none has no bytes
none_empty : {A : Type 0} {R : List ℕ → A → Type 0} {text : List ℕ} → PartedText R text [] → text ≡ []
none_empty empty = refl

-- what holds of one at all places holds of each
pub every_parted : {A : Type 0} {R : List ℕ → A → Type 0} {P : A → Type 0} {l : List ℕ} {xs : List A} → ((bs : List ℕ) (x : A) → R bs x → P x) → PartedText R l xs → Every P xs
every_parted f empty = every_none
every_parted f (last t) = every_more (f _ _ t) every_none
every_parted f (more t g h x e) = every_more (f _ _ t) (every_parted f x)

-- what holds of every text that ends with one holds of a text that ends with the last
pub parted_end : {A : Type 0} {R : List ℕ → A → Type 0} (P : List ℕ → Type 0) → ((front bs : List ℕ) (x : A) → R bs x → P (front ++ bs)) → {l : List ℕ} {x : A} {xs : List A} → PartedText R l (x ∷ xs) → P l
parted_end P f (last t) = f [] _ _ t
parted_end P f (more {bs} {gap} t g h x e) = rw e (parted_end (λ m. P (bs ++ (gap ++ m))) (λ front cs y r. rw (append_assoc bs (gap ++ front) cs, append_assoc gap front cs) at (f (bs ++ (gap ++ front)) cs y r)) x)

module _ {A : Type 0} {R : List ℕ → A → Type 0} {one : List ℕ → Option (Read A)} {Behind : List ℕ → Type 0} (k : ReadsOne R one Behind) where
  -- they start with no blank
  parted_front : {text : List ℕ} {x : A} {xs : List A} → PartedText R text (x ∷ xs) → (rest : List ℕ) → Stops is_blank (text ++ rest)
  parted_front (last t) rest = k.front t rest
  parted_front (more {bs} t g h x e) rest = rw (e, append_assoc bs) (k.front t _)

  -- there are no more than bytes
  pub parted_short : {text : List ℕ} {xs : List A} → PartedText R text xs → length xs ≤ length text
  parted_short empty = omega arith
  parted_short (last t) = omega (arith, k.some_byte t)
  parted_short (more {bs} {gap} {rest} t g h x e) = rw (e, length-append bs, length-append gap) (omega (arith, k.some_byte t, parted_short x))

  -- ---- those that were read stand at the front

  -- one, a gap and what is listed behind it
  extend : {l tail : List ℕ} {r : Read A} → Got R l r → (gap : List ℕ) → 1 ≤ length gap → Run is_blank gap → r.rest ≡ gap ++ tail
      → {text : List ℕ} {v : List A} → PartedText R text v → (behind rest : List ℕ) → Every Blank behind → tail ≡ text ++ (behind ++ rest) → Listed R l (read (r.value ∷ v) rest)
  extend {r = r} g gap h b e {text} {v = []} x behind rest q j =
      let z : text ≡ [] = none_empty x in
      record { text = g.text; behind = gap ++ behind; joined = g.joined ∙ rw (e, j, z) (simp append_assoc); says = last g.says; blank = every_append (blanks_sound b) q }
  extend {r = r} g gap h b e {text} {v = y ∷ ys} x behind rest q j =
      record { text = g.text ++ (gap ++ text); behind = behind; joined = g.joined ∙ rw (e, j) (simp append_assoc); says = more g.says (blanks_sound b) h x refl; blank = q }

  pub parted_sound : (f : ℕ) (l : List ℕ) → Listed R l (parted_read one f l)
  unfolding parted_read
  parted_sound zero l = record { text = []; behind = []; joined = refl; says = empty; blank = every_none }
  parted_sound (suc f) l = first (parted_sound f) (k.sound l)
    where
      next : ((m : List ℕ) → Listed R m (parted_read one f m)) → (r : Read A) → Got R l r → (gap tail : List ℕ) → Run is_blank gap → r.rest ≡ gap ++ tail
          → Listed R l (followed (parted_read one f) r.value gap tail)
      next ih r g [] tail b e = record { text = g.text; behind = []; joined = rw (← e) g.joined; says = last g.says; blank = every_none }
      next ih r g (y ∷ ys) tail b e =
          let x = ih tail in
          extend {r = r} g (y ∷ ys) (omega arith) b e x.says x.behind _ x.blank x.joined

      first : ((m : List ℕ) → Listed R m (parted_read one f m)) → {o : Option (Read A)} → AnswerHolds (Got R l) o → Listed R l (from_first (parted_read one f) l o)
      first ih nothing = record { text = []; behind = []; joined = refl; says = empty; blank = every_none }
      first ih (held {a = r} g) = next ih r g (cut is_blank r.rest).value (cut is_blank r.rest).rest (cut_run is_blank r.rest) (cut_joined is_blank r.rest)

  -- ---- the bound on their number

  -- what is left behind one is shorter
  pub one_shorter : (l : List ℕ) → AnswerHolds (λ (r : Read A). length r.rest < length l) (one l)
  one_shorter l = holds_map go (k.sound l)
    where
      go : (r : Read A) → Got R l r → length r.rest < length l
      go r g = rw (g.joined, length-append g.text) (omega (arith, k.some_byte g.says))

  -- none is in no bytes
  none_in : (rec : List ℕ → Read (List A)) (l : List ℕ) {o : Option (Read A)} → length l ≤ 0 → AnswerHolds (λ (r : Read A). length r.rest < length l) o → from_first rec l o ≡ read [] l
  none_in rec l h nothing = refl
  none_in rec l h (held x) = absurd (omega arith)

  -- the bound makes no difference where it is at least the number of bytes
  pub parted_fuel : (f g : ℕ) (l : List ℕ) → length l ≤ f → length l ≤ g → parted_read one f l ≡ parted_read one g l
  unfolding parted_read
  parted_fuel zero zero l h j = refl
  parted_fuel zero (suc g) l h j = sym (none_in (parted_read one g) l h (one_shorter l))
  parted_fuel (suc f) zero l h j = none_in (parted_read one f) l j (one_shorter l)
  parted_fuel (suc f) (suc g) l h j = first (parted_fuel f g) (one_shorter l)
    where
      next : ((m : List ℕ) → length m ≤ f → length m ≤ g → parted_read one f m ≡ parted_read one g m) → (i : A) (gap tail : List ℕ) → length tail < length l
          → followed (parted_read one f) i gap tail ≡ followed (parted_read one g) i gap tail
      next ih i [] tail x = refl
      next ih i (y ∷ ys) tail x = rw (ih tail (omega arith) (omega arith))

      first : ((m : List ℕ) → length m ≤ f → length m ≤ g → parted_read one f m ≡ parted_read one g m) → {o : Option (Read A)} → AnswerHolds (λ (r : Read A). length r.rest < length l) o
          → from_first (parted_read one f) l o ≡ from_first (parted_read one g) l o
      first ih nothing = refl
      first ih (held {a = r} x) = next ih r.value (cut is_blank r.rest).value (cut is_blank r.rest).rest (omega (arith, cut_shorter is_blank r.rest))

  -- ---- none is missed

  -- none stands at what closes them
  closes_none : (f : ℕ) {l : List ℕ} → Closes one Behind l → parted_read one f l ≡ read [] l
  unfolding parted_read
  closes_none zero x = refl
  closes_none (suc f) x = rw x.no_more

  -- and so may blanks before what closes them
  gap_closes : {gap rest : List ℕ} → Every Blank gap → Closes one Behind rest → Behind (gap ++ rest)
  gap_closes every_none w = w.behind
  gap_closes {rest = rest} (every_more b bs) w = k.gap_behind (every_more b bs) (omega arith) rest

  -- they are read behind blanks
  parted_bounded : (f : ℕ) {before text behind rest : List ℕ} {xs : List A} → Every Blank before → PartedText R text xs → Every Blank behind → Closes one Behind rest → length xs ≤ f
      → parted_read one f (cut is_blank (before ++ (text ++ (behind ++ rest)))).rest ≡ read xs rest
  unfolding parted_read
  parted_bounded f {before} {behind = behind} {rest = rest} b empty q w h =
      rw (← (append_assoc before behind rest), cut_exact is_blank (blanks_complete (every_append b q)) w.no_blank) (closes_none f w)
  parted_bounded zero b (last t) q w h = absurd (omega arith)
  parted_bounded zero b (more t g s x e) q w h = absurd (omega arith)
  parted_bounded (suc f) {before} {text} {behind} {rest} b (last {x = i} t) q w h =
      rw (cut_exact is_blank {ys = text ++ (behind ++ rest)} (blanks_complete b) (k.front t (behind ++ rest)), k.complete t (gap_closes q w), cut_exact is_blank (blanks_complete q) w.no_blank)
      (go q)
    where
      go : {gap : List ℕ} → Every Blank gap → followed (parted_read one f) i gap rest ≡ read (i ∷ []) rest
      go every_none = refl
      go (every_more p ps) = rw (closes_none f w)
  parted_bounded (suc f) {before} {text} {behind} {rest} b (more {bs} {gap} {rest = next} {x = i} t g s x e) q w h =
      let m = next ++ (behind ++ rest) in
      let z : text ++ (behind ++ rest) ≡ bs ++ (gap ++ m) = rw e (simp append_assoc) in
      let c : cut is_blank (gap ++ m) ≡ read gap m = cut_exact is_blank (blanks_complete g) (parted_front x (behind ++ rest)) in
      rw (z, cut_exact is_blank {ys = bs ++ (gap ++ m)} (blanks_complete b) (k.front t (gap ++ m)), k.complete t (k.gap_behind g s m), c)
      (go m g s (rw c at (parted_bounded f g x q w (omega arith))))
    where
      go : {gap : List ℕ} (m : List ℕ) {xs : List A} → Every Blank gap → 1 ≤ length gap → parted_read one f m ≡ read xs rest → followed (parted_read one f) i gap m ≡ read (i ∷ xs) rest
      go m every_none h ih = absurd (omega arith)
      go m (every_more p ps) h ih = rw ih

  -- so are all of them
  pub parted_complete : {before text behind rest : List ℕ} {xs : List A} → Every Blank before → PartedText R text xs → Every Blank behind → Closes one Behind rest
      → all_parted one (cut is_blank (before ++ (text ++ (behind ++ rest)))).rest ≡ read xs rest
  parted_complete {before} {text} {behind} {rest} {xs} b x q w =
      let m = (cut is_blank (before ++ (text ++ (behind ++ rest)))).rest in
      parted_fuel (length m) (length m + length xs) m (omega arith) (omega arith) ∙ parted_bounded (length m + length xs) b x q w (omega arith)

  -- and those of a text that is nothing else
  pub parted_whole : {text : List ℕ} {x : A} {xs : List A} → PartedText R text (x ∷ xs) → Closes one Behind [] → all_parted one text ≡ read (x ∷ xs) []
  parted_whole {text} {x} {xs} t w =
      let c : cut is_blank (text ++ []) ≡ read [] (text ++ []) = cut_exact is_blank every_none (parted_front t []) in
      let e : all_parted one (cut is_blank (text ++ [])).rest ≡ read (x ∷ xs) [] = parted_complete every_none t every_none w in
      rw (c, append-nil text) at e
