-- Refusals of a text: the number and the place, and that what is refused is the first. Assumes nothing.
use Prim.Native.Nat.{ℕ, ◌<◌}
use native.Mathlib.Omega.{arith}
use mathlib.Core.List.{List}
use lib.ListN.{length}
use Rattle.program.specs.Readings.{Reading}
use Rattle.token.specs.Tokens.{Token, Placed, placed, Lexes}
use Rattle.token.proofs.AllowedBytes.{forbidden_none}
use Rattle.token.proofs.Lexing.{unclosed_none}
use Rattle.filter.specs.Levels.{level_limit}
use Rattle.filter.specs.declared.Refusal.{Refusal}
use Rattle.filter.specs.Answers.{number_of, Has, bad_token, bad_operand, too_deep, Fine, Reaches, Derived, TextOutcome, TextAnswers, too_long, forbidden, unclosed, bad_first, bad_end, too_heavy, no_room, compiles}
use Rattle.filter.specs.Refused.{FirstToken, FirstRefused, not_allowed, level_too_many, the_end}
use Rattle.filter.specs.Functions.{compiling}
use Rattle.filter.proofs.Operands.{broken_dead}
use Rattle.filter.proofs.Refusals.{earlier}
use Rattle.filter.proofs.TokenBytes.{Stood, lexes_stood, every_one, stood_within}

-- the bytes of a token that the text reaches stand at its place
reaches_stood : {text : List ℕ} {ts : List Token} {t : Token} {p : ℕ} → Reaches text ts t p → Stood 0 text (placed p t)
reaches_stood {t = t} {p} x = every_one x.front (placed p t) x.back (lexes_stood x.lexed)

-- and so it lies within
pub reaches_within : {text : List ℕ} {ts : List Token} {t : Token} {p : ℕ} → Reaches text ts t p → p < length text
reaches_within x = stood_within (reaches_stood x)

-- of what stands before a token that the text reaches, every beginning leads on
first_token : {text : List ℕ} {ts : List Token} {t : Token} {p : ℕ} → Reaches text ts t p → FirstToken text ts t p
first_token x = record { reaches = x; leads = λ xs ys e. earlier xs ys (rw e at x.leads) }

-- a token that the text reaches is refused: no continuation allows it, or it opens a level too many
token_refused : {text : List ℕ} {ts : List Token} {t : Token} {why : Refusal} {p : ℕ} → Reaches text ts t p → Has level_limit ts t why
    → FirstRefused text (number_of why) p
token_refused x (bad_token a s) = not_allowed (first_token x) a (bad_token a s)
token_refused x (bad_operand s f) = not_allowed (first_token x) (broken_dead s f) (bad_operand s f)
token_refused x (too_deep t o) = level_too_many (first_token x) t o

-- a text that could be derived by its size, bytes and quotes, and isn't: what it is answered is the first refusal
pub first_refused : {text : List ℕ} {room : ℕ} {o : TextOutcome} {tokens : List Placed} (buffer : List ℕ) → TextAnswers text room o → Fine text
    → Lexes 0 text tokens → ((r : Reading) → Derived text r → ⊥) → FirstRefused text (compiling o buffer).number (compiling o buffer).value
first_refused buffer (too_long h) f l n = absurd (omega (arith, f.short))
first_refused buffer (forbidden h x) f l n = absurd (forbidden_none x f.allowed)
first_refused buffer (unclosed g u) f l n = absurd (unclosed_none u l)
first_refused buffer (bad_first g x h) f l n = token_refused x h
first_refused buffer (bad_end ts g k w h) f l n =
    the_end (record { tokens = ts; lexed = k; leads = λ xs ys e. earlier xs ys (rw e at w); unread = h })
first_refused buffer (too_heavy {r} g d w) f l n = absurd (n r d.derived)
first_refused buffer (no_room {r} g d w k) f l n = absurd (n r d.derived)
first_refused buffer (compiles {r} g d w k) f l n = absurd (n r d.derived)
