-- The computed answer is one that the words give, and they give no other. Assumes nothing.
use Prim.Native.Nat.{ℕ, ◌*◌, ◌≤◌}
use native.Mathlib.Omega.{arith}
use native.Mathlib.Decide.{dec_le}
use native.Mathlib.Nat.{lt_of_not-le}
use mathlib.Core.Path.{◌≡◌, refl, sym, ap, ◌∙◌}
use mathlib.Core.List.{List}
use lib.ListN.{length}
use borrow.Author.Tests.{lt-ltb, le-ltb}
use Rattle.program.specs.Readings.{Reading, weight}
use Rattle.program.specs.Records.{weight_limit}
use Rattle.program.specs.Layout.{record_size}
use Rattle.token.specs.Texts.{text_limit, Forbidden}
use Rattle.filter.specs.Levels.{level_limit}
use Rattle.token.specs.Tokens.{Token, Placed, Lexes}
use Rattle.token.specs.Lexer.{Lexed, tokens, unclosed}
use Rattle.token.specs.Lexer as lexer
use Rattle.token.specs.Next.{allowed_front}
use Rattle.token.proofs.AllowedBytes.{forbidden_once, forbidden_none, front_most, allowed_front_lem, front_forbidden}
use Rattle.token.proofs.Lexing.{read_tokens, read_unclosed}
use Rattle.filter.specs.Answers.{Has, bare, Fine, Reaches, DerivedWithin, TextOutcome, refused, TextAnswers}
use Rattle.filter.specs.Answers as words
use Rattle.filter.specs.Reader.{Why, ReaderAnswer, read}
use Rattle.filter.specs.Reader as reader
use Rattle.filter.specs.Answering.{refusal_of, fitted, judged, lexed, answer}
use Rattle.filter.specs.declared.Refusal.{Refusal}
use Rattle.filter.proofs.Sound.{sound}
use Rattle.filter.proofs.Complete.{complete}
use Rattle.filter.proofs.Refusals.{has_why, bad_end, only}
use Rattle.filter.proofs.Refusals as refusals
use Rattle.filter.proofs.Places.{place_end, refused_answers, read_derived, tokens_of, reader_stops, place_reached}

-- ---- the words give the computed answer

module _ (text : List ℕ) (room : ℕ) where
  -- 7 and 8, or compiled
  fitted_answers : (r : Reading) → Fine text → DerivedWithin text r → TextAnswers text room (fitted room r)
  fitted_answers r f d = by_weight (dec_le (weight r) weight_limit) (dec_le (record_size * weight r) room)
    where
      by_weight : Dec (weight r ≤ weight_limit) → Dec (record_size * weight r ≤ room) → TextAnswers text room (fitted room r)
      by_weight (no h) k = rw (lt-ltb weight_limit (weight r) (lt_of_not-le h)) (words.too_heavy f d (lt_of_not-le h))
      by_weight (yes h) (no k) =
          rw (le-ltb weight_limit (weight r) h, lt-ltb room (record_size * weight r) (lt_of_not-le k)) (words.no_room f d h (lt_of_not-le k))
      by_weight (yes h) (yes k) = rw (le-ltb weight_limit (weight r) h, le-ltb room (record_size * weight r) k) (words.compiles f d h k)

  -- 4 to 6, or a reading
  judged_answers : (ps : List Placed) → Fine text → Lexes 0 text ps → (a : ReaderAnswer) → read level_limit (bare ps) ≡ a → TextAnswers text room (judged (length text) ps room a)
  judged_answers ps f l (reader.ok r) e = let (d, w) = sound level_limit (bare ps) e in fitted_answers r f (read_derived ps l d w)
  judged_answers ps f l (reader.refused w us) e = refused_answers ps f l (rw e at (refusals.judged level_limit (bare ps)))

  -- 3, or tokens
  lexed_answers : Fine text → (l : Lexed) → lexer.read text ≡ l → TextAnswers text room (lexed (length text) room l)
  lexed_answers f (tokens ps) e = let d : Lexes 0 text ps = (read_tokens text ps).0 e in judged_answers ps f d (read level_limit (bare ps)) refl
  lexed_answers f (unclosed p) e = words.unclosed f ((read_unclosed text p).0 e)

  -- the computed answer is one that the words give
  pub answer_given : TextAnswers text room (answer text room)
  unfolding answer
  answer_given = by_size (dec_le (length text) text_limit) (dec_le (length text) (allowed_front text))
    where
      by_size : Dec (length text ≤ text_limit) → Dec (length text ≤ allowed_front text) → TextAnswers text room (answer text room)
      by_size (no h) k = rw (lt-ltb text_limit (length text) (lt_of_not-le h)) (words.too_long (lt_of_not-le h))
      by_size (yes h) (no k) =
          rw (le-ltb text_limit (length text) h, lt-ltb (allowed_front text) (length text) (lt_of_not-le k))
          (words.forbidden h ((front_forbidden text).0 (lt_of_not-le k)))
      by_size (yes h) (yes k) =
          let f : Fine text = record { short = h; allowed = (allowed_front_lem text).0 (omega (arith, front_most text)) } in
          rw (le-ltb text_limit (length text) h, le-ltb (allowed_front text) (length text) k) (lexed_answers f (lexer.read text) refl)

-- ---- and no other

module _ (text : List ℕ) (room : ℕ) where
  -- size and bytes are passed
  fine_answer : Fine text → answer text room ≡ lexed (length text) room (lexer.read text)
  unfolding answer
  fine_answer f =
      let e : allowed_front text ≡ length text = (allowed_front_lem text).1 f.allowed in
      rw (le-ltb text_limit (length text) f.short, le-ltb (allowed_front text) (length text) (omega arith))

  -- tokens, and what the reader makes of them
  tokens_answer : (ps : List Placed) → Fine text → Lexes 0 text ps → {a : ReaderAnswer} → read level_limit (bare ps) ≡ a → answer text room ≡ judged (length text) ps room a
  tokens_answer ps f d e = fine_answer f ∙ (ap (lexed (length text) room) ((read_tokens text ps).1 d) ∙ ap (judged (length text) ps room) e)

  -- a text that is derived
  derived_answer : {r : Reading} → Fine text → DerivedWithin text r → answer text room ≡ fitted room r
  derived_answer f d = let x = d.derived in tokens_answer x.tokens f x.lexed (complete level_limit x.reads d.within)

  -- 4 to 6, for a token
  token_answer : {ts : List Token} {t : Token} {k : Refusal} {p : ℕ} → Fine text → Reaches text ts t p → Has level_limit ts t k
      → answer text room ≡ refused k p
  token_answer {k = k} {p} f x h = by_why (has_why h)
    where
      by_why : (w : Why) × (refusal_of w ≡ k) → answer text room ≡ refused k p
      by_why (w, e) = tokens_answer (tokens_of x) f x.lexed (reader_stops x w (rw e h)) ∙ rw (e, place_reached x)

  -- a forbidden byte that is the first is found
  first_forbidden : {p : ℕ} → Forbidden text p → allowed_front text ≡ p
  first_forbidden {p} x = by_front (dec_le (length text) (allowed_front text))
    where
      by_front : Dec (length text ≤ allowed_front text) → allowed_front text ≡ p
      by_front (yes h) = absurd (forbidden_none x ((allowed_front_lem text).0 (omega (arith, front_most text))))
      by_front (no h) = forbidden_once ((front_forbidden text).0 (lt_of_not-le h)) x

  -- what the words give is the computed answer
  pub only_answer : {o : TextOutcome} → TextAnswers text room o → answer text room ≡ o
  unfolding answer
  only_answer (words.too_long h) = rw (lt-ltb text_limit (length text) h)
  only_answer (words.forbidden {p} h x) = rw (le-ltb text_limit (length text) h, first_forbidden x, lt-ltb p (length text) x.within)
  only_answer (words.unclosed {p} f u) = fine_answer f ∙ ap (lexed (length text) room) ((read_unclosed text p).1 u)
  only_answer (words.bad_first f x h) = token_answer f x h
  only_answer (words.bad_end ts f l w n) = tokens_answer ts f l (only level_limit (bad_end w n)) ∙ rw (place_end (length text) ts)
  only_answer (words.too_heavy {r} f d h) = derived_answer f d ∙ rw (lt-ltb weight_limit (weight r) h)
  only_answer (words.no_room {r} f d h k) = derived_answer f d ∙ rw (le-ltb weight_limit (weight r) h, lt-ltb room (record_size * weight r) k)
  only_answer (words.compiles {r} f d h k) = derived_answer f d ∙ rw (le-ltb weight_limit (weight r) h, le-ltb room (record_size * weight r) k)

  -- so the words give one answer
  pub answers_once : {o p : TextOutcome} → TextAnswers text room o → TextAnswers text room p → o ≡ p
  answers_once a b = sym (only_answer a) ∙ only_answer b
