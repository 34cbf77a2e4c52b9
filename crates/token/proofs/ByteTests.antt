-- The tests of bytes that the code makes agree with the words. Assumes nothing.
use Prim.Native.Nat.{ℕ}
use mathlib.Core.Path.{◌≡◌, refl, sym, ◌∙◌}
use mathlib.Core.Bool.{true, false}
use borrow.Author.Tests.{eqb-true, eqb-false, ne_eqb, not-true, not-false}
use Rattle.octets.proofs.Choices.{never}
use Rattle.token.specs.Texts.{Blank, space, tab, line_feed}
use Rattle.token.specs.Tokens.{open', close, bang, opening, closing, banging, Letter, Inner}
use Rattle.token.specs.Lexer.{ByteSort, blank, quote, letter, mark, byte_sort}
use Rattle.token.specs.Next.{is_blank, is_letter, is_inner}
use Rattle.token.proofs.ByteSorts.{OfSort, sort_sound}

-- a blank passes
pub blank_complete : {b : ℕ} → Blank b → is_blank b ≡ true
unfolding is_blank
blank_complete space = refl
blank_complete tab = refl
blank_complete line_feed = refl

-- what is no blank doesn't
pub letter_blank : (b : ℕ) → Letter b → is_blank b ≡ false
unfolding is_blank
letter_blank b l = rw (
  ne_eqb b 32 (λ e. l.no_blank (rw e space)),
  ne_eqb b 9 (λ e. l.no_blank (rw e tab)),
  ne_eqb b 10 (λ e. l.no_blank (rw e line_feed)),
)

-- what passes is a blank
pub blank_sound : (b : ℕ) → is_blank b ≡ true → Blank b
unfolding is_blank
blank_sound b = go b (byte_sort b) (sort_sound b)
  where
    go : (b : ℕ) (s : ByteSort) → OfSort b s → is_blank b ≡ true → Blank b
    go b blank k e = k
    go b (mark t) opening e = never e
    go b (mark t) closing e = never e
    go b (mark t) banging e = never e
    go b quote k e = never (rw k at e)
    go b letter l e = never (sym (letter_blank b l) ∙ e)

-- and what doesn't is none
pub blank_not : (b : ℕ) → is_blank b ≡ false → Blank b → ⊥
blank_not b e k = never (sym e ∙ blank_complete k)

-- a letter passes
pub letter_complete : (b : ℕ) → Letter b → is_letter b ≡ true
unfolding is_letter
letter_complete b l = rw (
  ne_eqb b 40 (λ e. l.no_mark open' (rw e opening)),
  ne_eqb b 41 (λ e. l.no_mark close (rw e closing)),
  ne_eqb b 33 (λ e. l.no_mark bang (rw e banging)),
  ne_eqb b 39 l.no_quote,
  letter_blank b l,
)

-- what passes is a letter
pub letter_sound : (b : ℕ) → is_letter b ≡ true → Letter b
unfolding is_letter is_blank
letter_sound b = go b (byte_sort b) (sort_sound b)
  where
    go : (b : ℕ) (s : ByteSort) → OfSort b s → is_letter b ≡ true → Letter b
    go b blank space e = never e
    go b blank tab e = never e
    go b blank line_feed e = never e
    go b (mark t) opening e = never e
    go b (mark t) closing e = never e
    go b (mark t) banging e = never e
    go b quote k e = never (rw k at e)
    go b letter l e = l

-- and what doesn't is none
pub letter_not : (b : ℕ) → is_letter b ≡ false → Letter b → ⊥
letter_not b e l = never (sym e ∙ letter_complete b l)

-- what passes is no quote
pub inner_sound : (b : ℕ) → is_inner b ≡ true → Inner b
unfolding is_inner
inner_sound b e = record { no_quote = eqb-false b 39 (not-true _ e) }

-- and what doesn't is one
pub inner_not : (b : ℕ) → is_inner b ≡ false → b ≡ 39
unfolding is_inner
inner_not b e = eqb-true b 39 (not-false _ e)
