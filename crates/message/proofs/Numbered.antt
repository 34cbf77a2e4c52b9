-- What decoding answers tells the code's answer. Assumes nothing.
use Prim.Native.Nat.{ℕ, ◌-◌}
use mathlib.Core.Path.{◌≡◌, refl, sym, ap, ◌∙◌}
use lib.ListN.{get_or}
use Rattle.message.specs.declared.Parts.{Parts}
use Rattle.message.specs.declared.Refusal.{Refusal}
use Rattle.message.specs.declared.Refusal.TheVariants.{Size}
use Rattle.std.specs.Prelude.{Option, Some, None, Result, Ok, Err}
use Rattle.message.specs.Decode.{Decoding, decoding_of}
use Rattle.message.proofs.Refused.{refusals, number_place}

-- the refusal that has a number
abbrev pub refusal_of : ℕ → Refusal
refusal_of n = get_or refusals (n - 11) Size

-- the code's answer that has a number and parts or none
abbrev decoded_of : ℕ → Option Parts → Result Parts Refusal
decoded_of n (Some parts) = Ok parts
decoded_of n None = Err (refusal_of n)

decoded_back : (d : Result Parts Refusal) → decoded_of (decoding_of d).number (decoding_of d).parts ≡ d
decoded_back (Ok parts) = refl
decoded_back (Err why) = ap Err (number_place why)

-- so answers that say the same are the same
pub decoding_one : (a b : Result Parts Refusal) → decoding_of a ≡ decoding_of b → a ≡ b
decoding_one a b e = sym (decoded_back a) ∙ ap (λ (d : Decoding). decoded_of d.number d.parts) e ∙ decoded_back b
