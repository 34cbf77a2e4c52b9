-- A refusal's text: 33 bytes hold the whole. Assumes nothing.
use Prim.Native.Nat.{ℕ, ◌≤◌}
use native.Mathlib.Nat.{zero-add}
use native.Mathlib.Omega.{arith}
use mathlib.Core.Path.{◌≡◌, sym, ap, ◌∙◌}
use mathlib.Core.List.{List}
use lib.ListN.{length, take, drop, length-append}
use lib.Seq.{take_at}
use Rattle.octets.specs.Writes.{up_to, Written}
use Rattle.octets.proofs.Decimal.{digits_length}
use Rattle.octets.proofs.Writes.{up_to_in, sets_start}
use Rattle.grainlantern.specs.Refusal.{refusal_text}

-- it is the first bytes of the buffer after it is written
pub refusal_written : {old new : List ℕ} {r : ℕ} (number place : ℕ) → 33 ≤ length old → Written old 0 (refusal_text number place) new r
    → take r new ≡ refusal_text number place
refusal_written {old} {new} {r} number place h w =
    let text = refusal_text number place in
    let short : length text ≤ 33 = simp length-append (omega (arith, digits_length 10 number, digits_length 10 place)) in
    let e : r ≡ length text = w.place ∙ ap up_to (zero-add (length text)) ∙ up_to_in (length text) (omega (arith, w.sized)) in
    rw (w.laid, sets_start text old (omega arith)) (take_at text (drop (length text) old) r (sym e))
