-- The body of an UPDATE: its sections are read back, and those read are what the bytes say. Assumes nothing.
use Prim.Native.Nat.{ℕ, ◌+◌}
use mathlib.Core.Path.{◌≡◌, refl, sym, ◌∙◌}
use mathlib.Core.Bool.{Bool, true, false}
use mathlib.Core.List.{List}
use Rattle.octets.specs.Numbers.{Octets}
use Rattle.octets.specs.Rows.{Joined, whole}
use Rattle.octets.proofs.Bytes.{octets_take, octets_drop}
use Rattle.octets.proofs.Choices.{never}
use Rattle.octets.proofs.Rows.{joined_whole, joined_items, whole_joined}
use Rattle.network.specs.Networks.{address_bits, Network}
use Rattle.network.specs.Wire.{PrefixBytes, prefix_size}
use Rattle.network.proofs.Prefixes.{prefix_reads}
use Rattle.aspath.specs.Wire.{width_bytes}
use Rattle.attributes.specs.Bodies.{AttributeBytes, attributes_of}
use Rattle.attributes.specs.Codes.{Twice, distinct}
use Rattle.attributes.proofs.MeaningCodes.{twice_sound, twice_complete}
use Rattle.attributes.proofs.MeaningSections.{attributes_joined, joined_raws}
use Rattle.message.specs.Message.{Message}
use Rattle.message.specs.Fields.{withdrawn_size, attributes_size, withdrawn_in, attributes_in, announced_in}
use Rattle.message.specs.Decode.{networks_of}
use Rattle.message.proofs.Checks.{RightUpdate}
use Rattle.message.proofs.UpdateFields.{UpdateFields}

-- the checks of the body pass, and what is read of its sections is the message's
pub record UpdateReads (m : Message) (b : List ℕ) : Type 0 where
  pub right : RightUpdate m.width b
  pub withdrawn : networks_of (withdrawn_in b) ≡ m.withdrawn
  pub attributes : attributes_of (width_bytes m.width) (attributes_in b) ≡ m.attributes
  pub announced : networks_of (announced_in b) ≡ m.announced

-- where no code stands at two places, the codes are distinct
once_distinct : (cs : List ℕ) → (Twice cs → ⊥) → distinct cs ≡ true
once_distinct cs f = go (distinct cs) refl
  where
    go : (b : Bool) → distinct cs ≡ b → distinct cs ≡ true
    go true e = e
    go false e = absurd (f (twice_sound cs e))

-- sections at their places are read back
pub update_reads : {m : Message} {b : List ℕ} → UpdateFields m b → UpdateReads m b
update_reads {m} {b} f =
    let t = joined_raws (width_bytes m.width) f.attributes_are in
    record {
      right = record {
        fits = f.fits;
        attributes_whole = t.to_end;
        attributes_once = once_distinct _ (rw t.coded f.once);
        attributes_right = t.right;
        withdrawn_whole = joined_whole (prefix_reads address_bits) f.withdrawn_are;
        announced_whole = joined_whole (prefix_reads address_bits) f.announced_are;
      };
      withdrawn = joined_items (prefix_reads address_bits) f.withdrawn_are;
      attributes = t.same;
      announced = joined_items (prefix_reads address_bits) f.announced_are;
    }

-- a section of whole prefixes is the networks read, joined
section_networks : {l : List ℕ} {ns : List Network} → Octets l → whole (prefix_size address_bits) l ≡ true → networks_of l ≡ ns → Joined (PrefixBytes address_bits) ns l
section_networks o h e = rw e at (whole_joined (prefix_reads address_bits) o h)

-- what is read of sections is at their places
pub reads_update : {m : Message} {b : List ℕ} → Octets b → UpdateReads m b → UpdateFields m b
reads_update {m} {b} o r =
    let w = width_bytes m.width in
    let n = withdrawn_size b in
    let k = attributes_size b in
    let x = r.right in
    let j : Joined (AttributeBytes w) m.attributes (attributes_in b)
    = rw r.attributes at (attributes_joined w (octets_take k (octets_drop (4 + n) o)) x.attributes_whole x.attributes_right) in
    record {
      fits = x.fits;
      withdrawn_are = section_networks (octets_take n (octets_drop 2 o)) x.withdrawn_whole r.withdrawn;
      attributes_are = j;
      once = λ t. never (sym (twice_complete (rw (← (joined_raws w j).coded) at t)) ∙ x.attributes_once);
      announced_are = section_networks (octets_drop (4 + n + k) o) x.announced_whole r.announced;
    }
