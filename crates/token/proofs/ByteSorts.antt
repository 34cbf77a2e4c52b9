-- The sort of a byte outside quotes agrees with the words; laws of lists of such bytes. Assumes nothing.
use Prim.Native.Nat.{ℕ}
use mathlib.Core.Path.{◌≡◌, refl, sym, ◌∙◌}
use mathlib.Core.Bool.{Bool, true, false}
use mathlib.Core.List.{List, [], ◌∷◌, ◌++◌}
use lib.Dec.{eqb}
use borrow.Author.Tests.{eqb-true, eqb-false, ne_eqb}
use Rattle.octets.specs.Choice.{pick}
use Rattle.token.specs.Texts.{Blank, space, tab, line_feed}
use Rattle.token.specs.Tokens.{Token, open', close, bang, Mark, opening, closing, banging, Letter, Inner, Stops, at_end, before}
use Rattle.token.specs.Lexer.{ByteSort, blank, quote, letter, mark, byte_sort}

-- what a sort says of a byte, in words
abbrev pub OfSort : ℕ → ByteSort → Type 0
OfSort b blank = Blank b
OfSort b (mark t) = Mark b t
OfSort b quote = b ≡ 39
OfSort b letter = Letter b

-- a byte that is none of the three is no blank
no_blanks : {b : ℕ} → (b ≡ 32 → ⊥) → (b ≡ 9 → ⊥) → (b ≡ 10 → ⊥) → Blank b → ⊥
no_blanks s t l space = s refl
no_blanks s t l tab = t refl
no_blanks s t l line_feed = l refl

-- a byte that is none of the three is no mark
no_marks : {b : ℕ} → (b ≡ 40 → ⊥) → (b ≡ 41 → ⊥) → (b ≡ 33 → ⊥) → (t : Token) → Mark b t → ⊥
no_marks o c k t opening = o refl
no_marks o c k t closing = c refl
no_marks o c k t banging = k refl

-- a test tells whether a byte is this one
abbrev Tells : ℕ → Bool → ℕ → Type 0
Tells b t n = (t ≡ true → b ≡ n) × (t ≡ false → b ≡ n → ⊥)

-- as a comparison does
tells : (b n : ℕ) → Tells b (eqb b n) n
tells b n = (eqb-true b n, eqb-false b n)

-- the sort of a byte is told rightly
pub sort_sound : (b : ℕ) → OfSort b (byte_sort b)
unfolding byte_sort
sort_sound b = go (eqb b 32) (eqb b 9) (eqb b 10) (eqb b 40) (eqb b 41) (eqb b 33) (eqb b 39)
    (tells b 32) (tells b 9) (tells b 10) (tells b 40) (tells b 41) (tells b 33) (tells b 39)
  where
    go : (s t l o c k q : Bool) → Tells b s 32 → Tells b t 9 → Tells b l 10 → Tells b o 40 → Tells b c 41 → Tells b k 33 → Tells b q 39
        → OfSort b (pick s blank (pick t blank (pick l blank (pick o (mark open') (pick c (mark close) (pick k (mark bang) (pick q quote letter)))))))
    go true t l o c k q es et el eo ec ek eq = rw (es.0 refl) space
    go false true l o c k q es et el eo ec ek eq = rw (et.0 refl) tab
    go false false true o c k q es et el eo ec ek eq = rw (el.0 refl) line_feed
    go false false false true c k q es et el eo ec ek eq = rw (eo.0 refl) opening
    go false false false false true k q es et el eo ec ek eq = rw (ec.0 refl) closing
    go false false false false false true q es et el eo ec ek eq = rw (ek.0 refl) banging
    go false false false false false false true es et el eo ec ek eq = eq.0 refl
    go false false false false false false false es et el eo ec ek eq =
        record { no_blank = no_blanks (es.1 refl) (et.1 refl) (el.1 refl); no_mark = no_marks (eo.1 refl) (ec.1 refl) (ek.1 refl); no_quote = eq.1 refl }

-- and a byte has no other sort
pub sort_complete : (b : ℕ) (k : ByteSort) → OfSort b k → byte_sort b ≡ k
unfolding byte_sort
sort_complete b blank space = refl
sort_complete b blank tab = refl
sort_complete b blank line_feed = refl
sort_complete b (mark t) opening = refl
sort_complete b (mark t) closing = refl
sort_complete b (mark t) banging = refl
sort_complete b quote e = rw e
sort_complete b letter l =
    simp (
      ne_eqb b 32 (λ e. l.no_blank (rw e space)),
      ne_eqb b 9 (λ e. l.no_blank (rw e tab)),
      ne_eqb b 10 (λ e. l.no_blank (rw e line_feed)),
      ne_eqb b 40 (λ e. l.no_mark open' (rw e opening)),
      ne_eqb b 41 (λ e. l.no_mark close (rw e closing)),
      ne_eqb b 33 (λ e. l.no_mark bang (rw e banging)),
      ne_eqb b 39 l.no_quote,
    )

-- a quote is no letter
pub quote_stops : {bs : List ℕ} → Stops (39 ∷ bs)
quote_stops = before (λ l. l.no_quote refl)

-- a byte that isn't a letter ends a word
pub other_stops : {b : ℕ} {bs : List ℕ} (k : ByteSort) → OfSort b k → (k ≡ letter → ⊥) → Stops (b ∷ bs)
other_stops {b} k h n = before (λ l. n (sym (sort_complete b k h) ∙ sort_complete b letter l))

-- a byte of another sort than a quote is one of a quoted token
pub other_inner : {b : ℕ} (k : ByteSort) → OfSort b k → (k ≡ quote → ⊥) → Inner b
other_inner {b} k h n = record { no_quote = λ e. n (sym (sort_complete b k h) ∙ sort_complete b quote e) }

-- where a word ends in the front of bytes, it ends there
pub stops_front : (xs ys : List ℕ) → Stops (xs ++ ys) → Stops xs
stops_front [] ys s = at_end
stops_front (x ∷ xs) ys (before n) = before n

-- it ends before more bytes where it ends before each part
pub stops_append : {xs ys : List ℕ} → Stops xs → Stops ys → Stops (xs ++ ys)
stops_append at_end t = t
stops_append (before n) t = before n
