-- Laws of places: bytes joined are found at their places, and bytes cut at places are joined again. Assumes nothing.
use Prim.Native.Nat.{ℕ, ◌+◌, ◌≤◌}
use native.Mathlib.Omega.{arith}
use mathlib.Core.Path.{◌≡◌, refl, sym, ap, ◌∙◌}
use mathlib.Core.List.{List, ◌++◌}
use lib.ListN.{length, take, drop, length-drop, take-append-drop}
use lib.Seq.{take_at, drop-drop, drop-append_seam}
use Rattle.octets.specs.Numbers.{Octets, Free, Field, number_at}
use Rattle.octets.proofs.Bytes.{octets_drop}
use Rattle.octets.proofs.Numbers.{number_here}
use Rattle.octets.proofs.Fields.{field_sound, field_same}

-- at a place of a list stand some bytes, and the rest after them
pub record Stands (s : List ℕ) (at : ℕ) (bytes rest : List ℕ) : Type 0 where
  pub cut : drop at s ≡ bytes ++ rest

-- where the bytes of a field stand, its number is read
pub field_here : {s bytes rest : List ℕ} {at w n : ℕ} → Stands s at bytes rest → Field w n bytes → number_at s at w ≡ n
field_here {s} {bytes} {rest} {at} {w} x f =
    sym (number_here s at w) ∙ ap (λ (l : List ℕ). number_at l 0 w) x.cut ∙ field_same w f rest

-- bytes that stand at a place are taken from it
pub here : {s bytes rest : List ℕ} {at : ℕ} → Stands s at bytes rest → (n : ℕ) → length bytes ≡ n → take n (drop at s) ≡ bytes
here {s} {bytes} {rest} {at} x n e = ap (take n) x.cut ∙ take_at bytes rest n e

-- and the rest stands after them
pub after : {s bytes rest : List ℕ} {at : ℕ} → Stands s at bytes rest → (place : ℕ) → at + length bytes ≡ place → drop place s ≡ rest
after {s} {bytes} {rest} {at} x place e =
    sym (drop-drop (length bytes) at s ∙ ap (λ (n : ℕ). drop n s) e)
    ∙ ap (λ (l : List ℕ). drop (length bytes) l) x.cut ∙ drop-append_seam bytes rest

-- what is left at a place is the next w bytes and what is left after them
pub cut : (s : List ℕ) (at w place : ℕ) {rest : List ℕ} → at + w ≡ place → drop place s ≡ rest → drop at s ≡ take w (drop at s) ++ rest
cut s at w place {rest} e r =
    sym (take-append-drop w (drop at s))
    ∙ ap (λ (l : List ℕ). take w (drop at s) ++ l) (drop-drop w at s ∙ ap (λ (n : ℕ). drop n s) e ∙ r)

-- the w bytes at a place are a field, where there are so many
field_cut : {s : List ℕ} → Octets s → (at w : ℕ) → at + w ≤ length s → Field w (number_at s at w) (take w (drop at s))
field_cut {s} o at w h =
    let f = field_sound w (drop at s) (octets_drop at o) (simp length-drop (omega arith)) in
    record { long = f.long; octets = f.octets; value = f.value ∙ number_here s at w }

-- and the number in it is the one that is read there
pub field_of : {s : List ℕ} {n : ℕ} → Octets s → (at w : ℕ) → at + w ≤ length s → number_at s at w ≡ n → Field w n (take w (drop at s))
field_of o at w h e = let f = field_cut o at w h in record { long = f.long; octets = f.octets; value = f.value ∙ e }

-- and so they are w bytes of any value
pub free_cut : {s : List ℕ} → Octets s → (at w : ℕ) → at + w ≤ length s → Free w (take w (drop at s))
free_cut o at w h = let f = field_cut o at w h in record { long = f.long; octets = f.octets; value = refl }
