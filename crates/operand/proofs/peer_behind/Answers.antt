-- `operand::peer_behind` meets its contract: nothing, or blanks and a number. Assumes nothing.
use Prim.Native.Nat.{ℕ}
use native.Mathlib.Omega.{arith}
use mathlib.Core.Path.{◌≡◌, sym, ◌∙◌}
use mathlib.Core.Bool.{true, false}
use mathlib.Core.List.{List, ◌∷◌}
use Rattle.std.specs.Prelude.{None, Some}
use lib.ListN.{get_or}
use Rattle.octets.specs.Choice.{pick, onward}
use Rattle.program.specs.Readings.{by_both}
use Rattle.program.specs.Layout.{head_fields}
use Rattle.program.specs.Compiling.{head_of, items_of}
use Rattle.operand.specs.Fronts.{cut}
use Rattle.token.specs.Next.{is_blank}
use Rattle.operand.specs.AsNumbers.{as_numeral}
use Rattle.operand.specs.Peers.{behind_address}
use Rattle.operand.proofs.Said.{front_cons, no_front}
use Rattle.operand.proofs.peer_behind.Goals as goal

-- by the byte behind the address
behind_by : (a : ℕ) {x : ℕ} {s r p : List ℕ} → s ≡ x ∷ r → p ≡ (cut is_blank r).rest
    → behind_address a s ≡ pick (is_blank x) (onward (as_numeral p) (λ n. Some (by_both a n))) None
unfolding behind_address
behind_by a e f = rw (e, f)

pub returns-in_default : goal.returns-in_default
unfolding behind_address head_fields head_of items_of
returns-in_default c = rw (c.lone_head.ensures, no_front c.args.s.now (omega arith))

pub returns-then-not-is_blank : goal.returns-then-not-is_blank
unfolding behind_address
returns-then-not-is_blank c = let s = c.args.s.now in
    let b : is_blank (get_or s 0 0) ≡ false = sym c.is_blank.ensures ∙ c.if-not-is_blank.true in
    rw (front_cons s (omega arith), b)

pub returns-in_err-value : goal.returns-in_err-value
returns-in_err-value c = let s = c.args.s.now in
    let b : is_blank (get_or s 0 0) ≡ true = sym c.is_blank.ensures ∙ c.if-not-is_blank.false in
    rw (c.from_residual.ensures, behind_by c.args.address (front_cons s (omega arith)) c.past_blanks.ensures, b, sym c.as_numeral.ensures ∙ c.in_err-value.was)

pub returns : goal.returns
unfolding head_fields head_of items_of
returns c = let s = c.args.s.now in
    let b : is_blank (get_or s 0 0) ≡ true = sym c.is_blank.ensures ∙ c.if-not-is_blank.false in
    rw (c.lone_head-2.ensures, behind_by c.args.address (front_cons s (omega arith)) c.past_blanks.ensures, b, sym c.as_numeral.ensures ∙ c.in_ok-value.was)
