-- Peers: an AS number, an address, or both; decided, and at most one. Assumes nothing.
use Prim.Native.Nat.{ℕ, ◌≤◌}
use native.Mathlib.Omega.{arith}
use mathlib.Core.Path.{◌≡◌, refl, ◌∙◌}
use Rattle.std.specs.Prelude.{Option, None, Some}
use mathlib.Core.Bool.{Bool, true}
use mathlib.Core.List.{List, [], ◌∷◌, ◌++◌, append_assoc, append-nil}
use lib.ListN.{length}
use Rattle.octets.specs.Lists.{Every, every_none, every_more}
use Rattle.octets.proofs.Choices.{never}
use Rattle.program.specs.Readings.{Peer, by_both}
use Rattle.token.specs.Texts.{Blank}
use Rattle.operand.specs.Fronts.{Read, read, cut}
use Rattle.token.specs.Next.{is_blank}
use Rattle.operand.specs.Decimals.{is_digit}
use Rattle.operand.specs.Addresses.{Address, address_read}
use Rattle.operand.specs.Peers.{PeerOperand, as_only, address_only, address_and_as, behind_address, peer_by, peer_operand}
use Rattle.operand.proofs.Holding.{AnswerHolds, nothing, held, holds_onward, holds_pick}
use Rattle.operand.proofs.FrontReads.{Got, Run, end, cut_joined, cut_run, cut_exact}
use Rattle.operand.specs.AsNumbers.{plain}
use Rattle.operand.proofs.Decimals.{decimal_run}
use Rattle.operand.proofs.AsNumberLaws.{as_stops, as_numeral_sound, as_numeral_complete}
use Rattle.token.proofs.ByteTests.{blank_sound, blank_complete}
use Rattle.operand.proofs.Blanks.{blanks_sound, blanks_complete, digit_no_blank, blank_stops}
use Rattle.operand.proofs.OperandAddresses.{address_sound, address_complete}

-- a peer that was read is meant
pub peer_sound : (l : List ℕ) → AnswerHolds (PeerOperand l) (peer_operand l)
unfolding peer_operand behind_address
peer_sound l = go (address_sound l)
  where
    behind : (a : ℕ) (text rest : List ℕ) → l ≡ text ++ rest → Address text a → AnswerHolds (PeerOperand l) (behind_address a rest)
    behind a text [] j x = held (address_only {bs = l} {a = a} (rw (j, append-nil text) x))
    behind a text (b ∷ bs) j x =
        holds_pick (is_blank b)
        (λ e. holds_onward (as_numeral_sound (cut is_blank bs).rest)
        (λ n c. held (address_and_as x (every_more (blank_sound b e) (blanks_sound (cut_run is_blank bs))) (omega arith) c (rw (← (cut_joined is_blank bs)) j))))
        (λ e. nothing)

    go : {o : Option (Read ℕ)} → AnswerHolds (Got Address l) o → AnswerHolds (PeerOperand l) (peer_by l o)
    go nothing = holds_onward (as_numeral_sound l) (λ n b. held (as_only b))
    go (held {a} g) = behind a.value g.text a.rest g.joined g.says

-- a byte of a run passes
run_at : (p : ℕ → Bool) (xs ys : List ℕ) {b : ℕ} → Run p (xs ++ (b ∷ ys)) → p b ≡ true
run_at p [] ys (every_more e es) = e
run_at p (x ∷ xs) ys (every_more e es) = run_at p xs ys es

-- digits alone are no address
no_address : {l : List ℕ} → Run is_digit l → address_read l ≡ None
unfolding is_digit
no_address {l} h = go (address_sound l)
  where
    go : {o : Option (Read ℕ)} → AnswerHolds (Got Address l) o → o ≡ None
    go nothing = refl
    go (held {a} g) =
        let x = g.says in
        let j : l ≡ x.aText ++ (46 ∷ ((x.bText ++ (46 ∷ (x.cText ++ (46 ∷ x.dText)))) ++ a.rest)) = g.joined ∙ rw x.joined (simp append_assoc) in
        never (run_at is_digit x.aText _ (rw j at h))

-- no peer is missed
pub peer_complete : {l : List ℕ} {p : Peer} → PeerOperand l p → peer_operand l ≡ Some p
unfolding peer_operand behind_address
peer_complete (as_only (plain b)) = rw (no_address (decimal_run b.decimal), as_numeral_complete (plain b))
peer_complete (address_only {bs} {a} x) =
    let e : address_read bs ≡ Some (read a []) = rw (append-nil bs) at (address_complete x end) in
    rw e
peer_complete (address_and_as {bs} {gap} {cs} {l} {a} {n} x g h b e) = rw (e, address_complete x (blank_stops g h cs)) (go g h)
  where
    go : {blanks : List ℕ} → Every Blank blanks → 1 ≤ length blanks → behind_address a (blanks ++ cs) ≡ Some (by_both a n)
    go every_none h = absurd (omega arith)
    go (every_more {a = y} {xs = ys} p ps) h =
        let s = rw (append-nil cs) at (as_stops is_blank digit_no_blank b []) in
        rw (blank_complete p, cut_exact is_blank (blanks_complete ps) s, as_numeral_complete b)
