-- Each check of an UPDATE's body decides the condition of its row. Assumes nothing.
use Prim.Native.Nat.{ℕ, ◌+◌, ◌<◌}
use native.Mathlib.Omega.{arith}
use mathlib.Core.Path.{◌≡◌, ap}
use mathlib.Core.Bool.{true, false, not}
use mathlib.Core.List.{List}
use lib.ListN.{length}
use borrow.Author.Tests.{ltb-true, not-true, not-false, lt-ltb}
use Rattle.octets.specs.Numbers.{Octets}
use Rattle.octets.specs.Rows.{Joined, whole}
use Rattle.octets.proofs.Choices.{either, each}
use Rattle.octets.proofs.Rows.{Reads, joined_whole, joined_items, whole_joined}
use Rattle.network.specs.Networks.{address_bits, Network}
use Rattle.network.specs.Wire.{PrefixBytes, prefix_size}
use Rattle.network.proofs.Prefixes.{prefix_reads}
use Rattle.aspath.specs.declared.Width.{Width}
use Rattle.aspath.specs.Wire.{width_bytes}
use Rattle.attributes.specs.Wire.{attribute_size, raws_of}
use Rattle.attributes.proofs.RawReads.{raw_reads}
use Rattle.attributes.proofs.MeaningCodes.{twice_sound, twice_complete}
use Rattle.attributes.proofs.MeaningBodies.{raws_octets, wrong_sound, wrong_complete}
use Rattle.message.specs.Fields.{withdrawn_size}
use Rattle.message.specs.Refusals.{WrongSections, WrongAttributes, WrongBody, WrongPrefix}
use Rattle.message.specs.Decode.{wrong_sections, wrong_attributes, wrong_body, wrong_prefix}
use Rattle.message.proofs.Deciding.{Decides, decides_false, decides_not, settled, unless, not_both}

-- row 15
pub sections_decides : (b : List ℕ) → Decides (wrong_sections b) (WrongSections b)
unfolding wrong_sections
sections_decides b = record { sound = sound; complete = complete }
  where
    sound : wrong_sections b ≡ true → WrongSections b
    sound e = either _ _ e (λ h. WrongSections.long_withdrawn (ltb-true _ _ h)) (λ h. WrongSections.long_attributes (ltb-true _ _ h))

    complete : WrongSections b → wrong_sections b ≡ true
    complete (WrongSections.short h) = let k : length b < 4 + withdrawn_size b = omega arith in simp (lt-ltb _ _ k)
    complete (WrongSections.long_withdrawn h) = simp (lt-ltb _ _ h)
    complete (WrongSections.long_attributes h) = simp (lt-ltb _ _ h, settled)

-- bytes are items to their end just where some items make them up
whole_decides : {A : Type 0} {R : A → List ℕ → Type 0} {size : List ℕ → ℕ} {item : List ℕ → A} → Reads R size item
    → {l : List ℕ} → Octets l → Decides (whole size l) ((xs : List A) × Joined R xs l)
whole_decides r o = record {
  sound = λ e. (_, whole_joined r o e);
  complete = λ x. joined_whole r x.1;
}

-- row 16
pub attributes_decides : {l : List ℕ} → Octets l → Decides (wrong_attributes l) (WrongAttributes l)
unfolding wrong_attributes
attributes_decides {l} o = record { sound = sound; complete = complete }
  where
    sound : wrong_attributes l ≡ true → WrongAttributes l
    sound e =
        not_both _ _ (not-true _ e)
        (λ h. WrongAttributes.overrun (λ raws j. decides_false (whole_decides raw_reads o) h (raws, j)))
        (λ h d. WrongAttributes.repeated (whole_joined raw_reads o h) (twice_sound _ d))

    complete : WrongAttributes l → wrong_attributes l ≡ true
    complete (WrongAttributes.overrun n) = simp (decides_not (whole_decides raw_reads o) (λ x. n x.0 x.1))
    complete (WrongAttributes.repeated j t) = simp (joined_whole raw_reads j, joined_items raw_reads j, twice_complete t)

-- where row 16 doesn't hold, the section is attributes to its end
pub attributes_whole : (l : List ℕ) → wrong_attributes l ≡ false → whole attribute_size l ≡ true
unfolding wrong_attributes
attributes_whole l e = (each _ _ (not-false _ e)).0

-- row 17, looked at only where the section is attributes to its end
pub body_decides : (w : Width) {l : List ℕ} → Octets l → whole attribute_size l ≡ true → Decides (wrong_body w l) (WrongBody (width_bytes w) l)
unfolding wrong_body
body_decides w {l} o h = record { sound = sound; complete = complete }
  where
    sound : wrong_body w l ≡ true → WrongBody (width_bytes w) l
    sound e = record {
      raws = raws_of l;
      joined = whole_joined raw_reads o h;
      wrong = wrong_sound (width_bytes w) (raws_of l) (not-true _ e);
    }

    complete : WrongBody (width_bytes w) l → wrong_body w l ≡ true
    complete x =
        let e = joined_items raw_reads x.joined in
        ap not (wrong_complete (width_bytes w) (raws_octets o) (rw e x.wrong))

-- row 18
pub prefix_decides : {withdrawn announced : List ℕ} → Octets withdrawn → Octets announced → Decides (wrong_prefix withdrawn announced) (WrongPrefix withdrawn announced)
unfolding wrong_prefix
prefix_decides {withdrawn} {announced} o p = record { sound = sound; complete = complete }
  where
    prefixes : {l : List ℕ} → Octets l → Decides (whole (prefix_size address_bits) l) ((ns : List Network) × Joined (PrefixBytes address_bits) ns l)
    prefixes o = whole_decides (prefix_reads address_bits) o

    sound : wrong_prefix withdrawn announced ≡ true → WrongPrefix withdrawn announced
    sound e =
        unless _ _ e
        (λ h. WrongPrefix.in_withdrawn (λ ns j. decides_false (prefixes o) h (ns, j)))
        (λ h. WrongPrefix.in_announced (λ ns j. decides_false (prefixes p) (not-true _ h) (ns, j)))

    complete : WrongPrefix withdrawn announced → wrong_prefix withdrawn announced ≡ true
    complete (WrongPrefix.in_withdrawn n) = simp (decides_not (prefixes o) (λ x. n x.0 x.1))
    complete (WrongPrefix.in_announced n) = simp (decides_not (prefixes p) (λ x. n x.0 x.1), settled)
