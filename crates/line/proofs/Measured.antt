-- Laws of a text at the start of a buffer: known to fit there, or measured on an empty part first. Assumes nothing.
use Prim.Native.Nat.{ℕ, ◌≤◌, ◌<◌}
use native.Mathlib.Nat.{zero-add, lt_of_not-le}
use native.Mathlib.Decide.{dec_le}
use native.Mathlib.Omega.{arith}
use mathlib.Core.Path.{◌≡◌, sym, ap, ◌∙◌}
use mathlib.Core.List.{List, [], ◌++◌}
use lib.ListN.{length}
use borrow.Author.Tests.{lt-leb, le-leb}
use Rattle.octets.specs.Writes.{last_place, up_to, Written}
use Rattle.octets.proofs.Writes.{up_to_in, up_to_out, sets_past, sets_start}
use Rattle.std.specs.Prelude.{Result, Ok, Err}
use Rattle.line.specs.declared.Short.{Short}
use Rattle.line.specs.Answer.{writing_of, writing}

-- an answer and a buffer are as writing a text over a buffer asks
abbrev Answers : List ℕ → List ℕ → Result ℕ Short → List ℕ → Type 0
Answers text old r new = writing_of r new ≡ writing text old

-- a text that fits is written
pub fitting : {text old new : List ℕ} {r : ℕ} → length text ≤ length old → Written old 0 text new r → Answers text old (Ok r) new
fitting {text} {old} {new} {r} h w =
    let e : r ≡ length text = w.place ∙ ap up_to (zero-add (length text)) ∙ up_to_in (length text) (omega (arith, w.sized)) in
    rw (le-leb _ _ h, e, w.laid ∙ sets_start text old h)

-- a run on an empty part
module _ {text part : List ℕ} {need : ℕ} (v : Written [] 0 text part need) where
  -- leaves it as it was
  untouched : part ≡ []
  untouched = v.laid ∙ sets_past text [] 0 (omega arith)

  -- measures the text, or says that it passes every place
  measured : Dec (length text ≤ last_place) → (need ≤ length text) × (need < last_place → need ≡ length text)
  measured (yes h) =
      let e : need ≡ length text = v.place ∙ ap up_to (zero-add (length text)) ∙ up_to_in (length text) h in
      (omega arith, λ k. e)
  measured (no h) =
      let e : need ≡ last_place = v.place ∙ ap up_to (zero-add (length text)) ∙ up_to_out (length text) (lt_of_not-le h) in
      (omega (arith, lt_of_not-le h), λ k. absurd (omega arith))

  -- a buffer that is shorter stays as it is
  pub too_short : {short : Short} (old : List ℕ) → length (part ++ old) < need → Answers text old (Err short) (part ++ old)
  too_short old h =
      let k : length old < need = rw untouched at h in
      let g : length old < length text = omega (arith, (measured (dec_le (length text) last_place)).0) in
      rw (lt-leb _ _ g, untouched)

  -- any other has the text written
  pub long_enough : (old : List ℕ) {new : List ℕ} {r : ℕ} → length old < last_place → need ≤ length (part ++ old) → Written (part ++ old) 0 text new r
      → Answers text old (Ok need) new
  long_enough old {new} {r} s h w =
      let k : need ≤ length old = rw untouched at h in
      let e : need ≡ length text = (measured (dec_le (length text) last_place)).1 (omega arith) in
      let u : Written old 0 text new r = rw untouched at w in
      rw (v.place ∙ sym u.place) (fitting (omega arith) u)
