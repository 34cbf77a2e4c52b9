-- The next token, looked for from its own first byte, is the same one. Assumes nothing.
use Prim.Native.Nat.{ℕ, ◌+◌, ◌≤◌}
use native.Mathlib.Omega.{arith}
use native.Mathlib.Decide.{dec_le}
use native.Mathlib.Nat.{lt_of_not-le}
use mathlib.Core.Path.{◌≡◌, refl, sym, ap, ◌∙◌}
use mathlib.Core.Bool.{Bool, true, false}
use mathlib.Core.List.{List}
use lib.ListN.{length, get_or}
use lib.Dec.{leb, eqb}
use borrow.Author.Tests.{leb-true}
use Rattle.octets.specs.Choice.{pick}
use Rattle.token.specs.declared.Lexeme.{Lexeme}
use Rattle.token.specs.Next.{tokens_of, left, Closed, is_blank, is_inner, run_end, quote_at, start_at, next_at}
use Rattle.token.proofs.Runs.{end_off, end_past, end_within, end_fails}
use Rattle.token.proofs.NextSteps.{blanks_from}
use Rattle.token.proofs.Nexts.{closed_lexed, lexed_closed}

-- a lexeme starts at a place
record StartsAt (p : ℕ) (l : Lexeme) : Type 0 where
  here : l.start ≡ p

-- a choice of lexemes that do
picked : (b : Bool) (l m : Lexeme) {p : ℕ} → (b ≡ true → StartsAt p l) → StartsAt p m → StartsAt p (pick b l m)
picked true l m f g = f refl
picked false l m f g = g

-- what begins at a place starts there
start_here : (text : List ℕ) (p : ℕ) → p ≤ length text → StartsAt p (start_at text p)
unfolding start_at quote_at
start_here text p h =
    picked (leb (length text) p) _ _ (λ e. record { here = omega (arith, leb-true (length text) p e) })
    (picked (eqb (get_or text p 0) 40) _ _ (λ e. record { here = refl })
    (picked (eqb (get_or text p 0) 41) _ _ (λ e. record { here = refl })
    (picked (eqb (get_or text p 0) 33) _ _ (λ e. record { here = refl })
    (picked (eqb (get_or text p 0) 39) _ _ (λ e. picked (leb (length text) (run_end is_inner text (p + 1))) _ _ (λ f. record { here = refl }) (record { here = refl })) (record { here = refl })))))

-- behind the blanks of a place no more of them stand
blanks_once : (text : List ℕ) (at : ℕ) → run_end is_blank text (run_end is_blank text at) ≡ run_end is_blank text at
blanks_once text at = go (dec_le (length text) (run_end is_blank text at))
  where
    go : Dec (length text ≤ run_end is_blank text at) → run_end is_blank text (run_end is_blank text at) ≡ run_end is_blank text at
    go (yes h) = end_past is_blank text (run_end is_blank text at) h
    go (no h) = end_off is_blank text (run_end is_blank text at) (lt_of_not-le h) (end_fails is_blank text at (lt_of_not-le h))

module _ {text : List ℕ} {at : ℕ} (closed : Closed text at) where
  -- the next token starts behind the blanks
  next_start : (next_at text at).start ≡ run_end is_blank text at
  next_start = (start_here text (run_end is_blank text at) (end_within is_blank text at closed.here)).here

  -- from there on it is the next one
  pub next_again : next_at text (next_at text at).start ≡ next_at text at
  next_again = ap (next_at text) next_start ∙ ap (start_at text) (blanks_once text at)

  -- the same tokens are left there
  pub left_again : left text (next_at text at).start ≡ left text at
  left_again = ap (left text) next_start ∙ ap tokens_of (sym (blanks_from text at))

  -- and every quote is closed
  pub closed_again : Closed text (next_at text at).start
  closed_again = rw next_start (lexed_closed (end_within is_blank text at closed.here) (sym (blanks_from text at) ∙ closed_lexed closed))

  -- it starts at the place or after it
  pub next_after : at ≤ (next_at text at).start
  next_after = rw next_start (omega arith)
