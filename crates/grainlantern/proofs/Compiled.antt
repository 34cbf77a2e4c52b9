-- What the program goes on with after compiling: a refusal, whose place fits 32 bits, or the reported bytes. Assumes nothing.
use Prim.Native.Nat.{ℕ, ◌^◌, ◌<◌}
use native.Mathlib.Omega.{arith}
use mathlib.Core.Path.{◌≡◌, sym, ap, ◌∙◌}
use mathlib.Core.List.{List}
use lib.ListN.{length, take}
use Rattle.token.proofs.Lexing.{unclosed_within}
use Rattle.std.specs.Prelude.{Result, Ok, Err}
use Rattle.filter.specs.declared.Refused.{Refused}
use Rattle.filter.specs.Answers.{number_of, TextOutcome, TextAnswers, too_long, forbidden, unclosed, bad_first, bad_end, too_heavy, no_room, compiles}
use Rattle.filter.specs.Functions.{Compiling, reported, compiling_of, compiling, our_compiler}
use Rattle.filter.proofs.Answered.{answer_given}
use Rattle.filter.proofs.Numbers.{number_between}
use Rattle.filter.proofs.RefusedTexts.{reaches_within}
use Rattle.grainlantern.specs.Refusal.{RefusedAt}
use Rattle.grainlantern.specs.Output.{Lent}

-- a place or a program's bytes
value_fits : {text : List ℕ} {room : ℕ} {o : TextOutcome} → TextAnswers text room o → (old : List ℕ) → length text < 2 ^ 32
    → (compiling o old).value < 2 ^ 32
value_fits (too_long h) old l = omega arith
value_fits (forbidden h f) old l = omega (arith, f.within)
value_fits (unclosed f u) old l = omega (arith, unclosed_within u)
value_fits (bad_first f x h) old l = omega (arith, reaches_within x)
value_fits (bad_end ts f x d n) old l = l
value_fits (too_heavy f d w) old l = omega arith
value_fits (no_room f d w r) old l = omega arith
value_fits (compiles f d w r) old l = omega arith

-- new is the program buffer afterwards
module _ (text buffer : List ℕ) (c : Result ℕ Refused) (new : List ℕ) (e : compiling_of c new ≡ our_compiler text buffer) where
  module _ {r : Refused} (g : c ≡ Err r) where
    says : compiling_of (Err r) new ≡ our_compiler text buffer
    says = rw g at e

    pub place_fits : length text < 2 ^ 32 → r.place < 2 ^ 32
    unfolding compiling_of
    place_fits l = omega (arith, ap (λ (x : Compiling). x.value) says, value_fits (answer_given text (length buffer)) buffer l)

    pub refused_at : {n : ℕ} → n ≡ number_of r.refusal → RefusedAt n r.place
    unfolding compiling_of
    refused_at h = record {
      text = text;
      buffer = buffer;
      numbered = ap (λ (x : Compiling). x.number) (sym says) ∙ sym h;
      refused = rw h (number_between r.refusal).0;
      placed = ap (λ (x : Compiling). x.value) (sym says);
    }

  pub lent : {size : ℕ} → c ≡ Ok size → {bytes : List ℕ} → bytes ≡ take size new → Lent bytes
  unfolding compiling_of
  lent {size} g h =
      let s : compiling_of (Ok size) new ≡ our_compiler text buffer = rw g at e in
      record { text = text; buffer = buffer; compiles = ap (λ (x : Compiling). x.number) (sym s); is = h ∙ ap reported s }
