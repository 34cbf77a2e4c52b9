-- Addresses: decided, and by places. Assumes nothing.
use Prim.Native.Nat.{ℕ, ◌<◌}
use mathlib.Core.Path.{◌≡◌, refl, ◌∙◌}
use Rattle.std.specs.Prelude.{Some}
use mathlib.Core.List.{List, ◌∷◌, ◌++◌, append_assoc}
use Rattle.operand.specs.Decimals.{byte_limit, Below, is_digit}
use Rattle.operand.proofs.Holding.{AnswerHolds, held, holds_onward, holds_some}
use Rattle.operand.proofs.FrontReads.{Got, Stops, other, after_sound, after_complete}
use Rattle.operand.proofs.Decimals.{number_sound, number_complete}
use Rattle.operand.specs.Addresses.{Address, part_read, address_read}
use Rattle.operand.specs.Fronts.{Read, read}

-- ---- a part of an address and its dot

record Parted (l : List ℕ) (r : Read ℕ) : Type 0 where
  text : List ℕ
  joined : l ≡ text ++ (46 ∷ r.rest)
  says : Below byte_limit text r.value

-- a part that was read stands at the front
part_sound : (l : List ℕ) → AnswerHolds (Parted l) (part_read l)
unfolding part_read
part_sound l = holds_onward (number_sound byte_limit l) (λ n g. holds_onward (after_sound 46 n.rest) (λ r e. held (record { text = g.text; joined = rw (← e) g.joined; says = g.says })))

-- a part that was read is that of a byte
pub part_below : (l : List ℕ) {r : Read ℕ} → part_read l ≡ Some r → r.value < byte_limit
part_below l e = (holds_some (part_sound l) e).says.below

-- and every part is read
part_complete : {text : List ℕ} {n : ℕ} → Below byte_limit text n → (rest : List ℕ) → part_read (text ++ (46 ∷ rest)) ≡ Some (read n rest)
unfolding part_read is_digit
part_complete {text} {n} x rest = rw (number_complete {rest = 46 ∷ rest} x (other refl), after_complete 46 rest)

-- ---- addresses

-- an address that was read stands at the front
pub address_sound : (l : List ℕ) → AnswerHolds (Got Address l) (address_read l)
unfolding address_read
address_sound l =
    holds_onward (part_sound l) (λ a x. holds_onward (part_sound a.rest) (λ b y. holds_onward (part_sound b.rest) (λ c z.
    holds_onward (number_sound byte_limit c.rest) (λ d w. held (record {
      text = x.text ++ (46 ∷ (y.text ++ (46 ∷ (z.text ++ (46 ∷ w.text)))));
      joined = x.joined ∙ rw (y.joined, z.joined, w.joined) (simp append_assoc);
      says = record {
        a = a.value;
        b = b.value;
        c = c.value;
        d = d.value;
        aText = x.text;
        bText = y.text;
        cText = z.text;
        dText = w.text;
        joined = refl;
        a_is = x.says;
        b_is = y.says;
        c_is = z.says;
        d_is = w.says;
        value = refl;
      };
    })))))

-- and every address before no digit is read
pub address_complete : {text rest : List ℕ} {n : ℕ} → Address text n → Stops is_digit rest → address_read (text ++ rest) ≡ Some (read n rest)
unfolding address_read
address_complete {text} {rest} x s =
    let e : text ++ rest ≡ x.aText ++ (46 ∷ (x.bText ++ (46 ∷ (x.cText ++ (46 ∷ (x.dText ++ rest)))))) = rw x.joined (simp append_assoc) in
    rw (e, x.value, part_complete x.a_is, part_complete x.b_is, part_complete x.c_is, number_complete x.d_is s)
