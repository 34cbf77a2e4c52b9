-- Laws of single steps: which case holds at a place, that the next place keeps a bound, where a record or a rest stands, and that the walk stays after done and cut. Assumes nothing.
use Prim.Native.Nat.{ℕ, zero, suc, ◌+◌, ◌-◌, ◌≤◌, ◌<◌}
use native.Mathlib.Nat.{add-zero, add-suc, lt_of_not-le}
use native.Mathlib.Decide.{dec_le}
use native.Mathlib.Omega.{arith}
use mathlib.Core.Path.{◌≡◌, refl, sym, ap, ◌∙◌}
use mathlib.Core.List.{List, [], ◌∷◌, ◌++◌}
use lib.ListN.{length, length-append}
use lib.Seq.{take-append_seam, drop-append_seam}
use borrow.Author.Tests.{le-leb, lt-leb, le-ltb, lt-ltb}
use Rattle.header.specs.Header.{header_size, length_at}
use Rattle.octets.proofs.Numbers.{number_front, number_after}
use Rattle.walk.specs.declared.Step.{Step}
use Rattle.walk.specs.declared.Step.TheVariants.{Record, Done, Cut}
use Rattle.walk.specs.Split.{IsRecord, Rest, nothing, short, overrun}
use Rattle.walk.specs.Steps.{step_at, record_of, place_after, place_of, step_of, closing_of}

-- ---- the cases of a step

-- from the end on nothing is left
pub step_past : (s : List ℕ) (at : ℕ) → length s ≤ at → step_at s at ≡ Done
unfolding step_at
step_past s at h = simp (le-leb _ _ h)

-- too few bytes are left for a header
pub step_short : (s : List ℕ) (at : ℕ) → at < length s → length s - at < header_size → step_at s at ≡ Cut (length s - at)
unfolding step_at
step_short s at h k = simp (lt-leb _ _ h, lt-ltb _ _ k)

-- too few bytes are left for the body that the header announces
pub step_overrun : (s : List ℕ) (at : ℕ)
    → header_size ≤ length s - at → length s - at < header_size + length_at s at → step_at s at ≡ Cut (length s - at)
unfolding step_at
step_overrun s at h k =
    let i : at < length s = omega arith in
    let j : length s - at - header_size < length_at s at = omega arith in
    simp (lt-leb _ _ i, le-ltb _ _ h, lt-ltb _ _ j)

-- a whole record is left
pub step_whole : (s : List ℕ) (at : ℕ)
    → header_size + length_at s at ≤ length s - at → step_at s at ≡ Record at (header_size + length_at s at)
unfolding step_at
step_whole s at h =
    let i : at < length s = omega arith in
    let j : header_size ≤ length s - at = omega arith in
    let k : length_at s at ≤ length s - at - header_size = omega arith in
    simp (lt-leb _ _ i, le-ltb _ _ j, le-ltb _ _ k)

-- a step from below a bound that the bytes keep goes on below it
pub place_below : (s : List ℕ) (at n : ℕ) → length s < n → at < n → place_after (step_at s at) at < n
place_below s at n h k = go (dec_le (length s) at) (dec_le header_size (length s - at)) (dec_le (header_size + length_at s at) (length s - at))
  where
    go : Dec (length s ≤ at) → Dec (header_size ≤ length s - at) → Dec (header_size + length_at s at ≤ length s - at) → place_after (step_at s at) at < n
    go (yes i) d f = rw (step_past s at i) k
    go (no i) (no j) f = rw (step_short s at (lt_of_not-le i) (lt_of_not-le j)) k
    go (no i) (yes j) (no l) = rw (step_overrun s at j (lt_of_not-le l)) k
    go (no i) (yes j) (yes l) = rw (step_whole s at l) (omega arith)

-- ---- where a record or a rest stands

-- bytes that are left close a walk with cut
closing_cut : (rest : List ℕ) → 0 < length rest → closing_of rest ≡ Cut (length rest)
closing_cut [] h = absurd (omega arith)
closing_cut (b ∷ rest) h = refl

module _ (before : List ℕ) where
  -- what is left past the front
  left : (tail : List ℕ) → length (before ++ tail) - length before ≡ length tail
  left tail = omega (arith, length-append before tail)

  -- where a record stands the step is that record
  pub step_stands : {r : List ℕ} → IsRecord r r → (after : List ℕ)
      → step_at (before ++ (r ++ after)) (length before) ≡ Record (length before) (length r)
  step_stands {r} w after =
      let s : List ℕ = before ++ (r ++ after) in
      let e : header_size + length_at s (length before) ≡ length r =
      ap (λ (n : ℕ). header_size + n) (number_after before (r ++ after) 8 4 ∙ number_front r after 8 4 (omega (arith, w.headed))) ∙ sym w.sized in
      step_whole s (length before) (omega (arith, left (r ++ after), length-append r after)) ∙ ap (Record (length before)) e

  -- and its bytes are the record's
  pub record_stands : (r after : List ℕ) → record_of (before ++ (r ++ after)) (Record (length before) (length r)) ≡ r
  record_stands r after = rw (drop-append_seam before (r ++ after)) (take-append_seam r after)

  -- where the rest stands the step is the closing answer
  pub step_closes : {rest : List ℕ} → Rest rest → step_at (before ++ rest) (length before) ≡ closing_of rest
  step_closes nothing = step_past (before ++ []) (length before) (omega (arith, length-append before []))
  step_closes {rest} (short h k) =
      step_short (before ++ rest) (length before) (omega (arith, left rest)) (omega (arith, left rest))
      ∙ ap Cut (left rest) ∙ sym (closing_cut rest h)
  step_closes {rest} (overrun h k) =
      step_overrun (before ++ rest) (length before) (omega (arith, left rest)) (omega (arith, left rest, number_after before rest 8 4))
      ∙ ap Cut (left rest) ∙ sym (closing_cut rest (omega arith))

-- ---- after done or cut

-- the answer is no record
abbrev pub Stopped : Step → Type 0
Stopped (Record start len) = ⊥
Stopped Done = Unit {0}
Stopped (Cut left) = Unit {0}

-- after such an answer the walk stays
pub stays : (t : Step) (at : ℕ) → Stopped t → place_after t at ≡ at
stays (Record start len) at h = absurd h
stays Done at h = refl
stays (Cut left) at h = refl

-- the answer that closes a walk is such
pub closing_stopped : (rest : List ℕ) → Stopped (closing_of rest)
closing_stopped [] = tt
closing_stopped (b ∷ rest) = tt

-- and so does the place of every further step
place_same : (s : List ℕ) (k n : ℕ) → Stopped (step_of s k) → place_of s (k + n) ≡ place_of s k
unfolding place_of
place_same s k zero h = rw add-zero refl
place_same s k (suc n) h = rw (add-suc, place_of, place_same s k n h) (stays (step_of s k) (place_of s k) h)

-- every further step answers the same
pub step_same : (s : List ℕ) (k n : ℕ) → k ≤ n → Stopped (step_of s k) → step_of s n ≡ step_of s k
step_same s k n h w =
    let e : k + (n - k) ≡ n = omega arith in
    ap (step_at s) (rw e at (place_same s k (n - k) w))
