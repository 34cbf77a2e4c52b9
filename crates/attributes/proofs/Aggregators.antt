-- The body of an AGGREGATOR, over the width: what is read of it is what it says, and just what fits has one. Assumes nothing.
use Prim.Native.Nat.{ℕ, ◌+◌, ◌^◌, ◌<◌}
use native.Mathlib.Omega.{arith}
use mathlib.Core.Path.{◌≡◌, refl, sym, ap, ◌∙◌}
use mathlib.Core.List.{List, ◌++◌}
use lib.ListN.{length, take, drop, length-append, length-drop, take-append-drop}
use Rattle.octets.specs.Numbers.{Octets, number_at, bytes_of}
use Rattle.octets.proofs.Bytes.{octets_drop, octets_append}
use Rattle.octets.proofs.Encode.{bytes_field}
use Rattle.octets.proofs.Fields.{field_sound, field_same}
use Rattle.octets.proofs.Numbers.{number_here, number_after}
use Rattle.network.specs.Networks.{address_bits, address_size}
use Rattle.attributes.specs.Attribute.{Aggregator}
use Rattle.attributes.specs.Bodies.{AggregatorBytes, aggregator_of}

module _ (w : ℕ) where
  -- bytes that are long enough say what is read of them
  pub aggregator_sound : {body : List ℕ} → Octets body → length body ≡ w + address_size → AggregatorBytes w (aggregator_of w body) body
  unfolding aggregator_of
  aggregator_sound {body} o e = record {
    number = take w body;
    address = drop w body;
    joined = sym (take-append-drop w body);
    number_is = field_sound w body o (omega arith);
    address_is = record { long = simp length-drop (omega arith); octets = octets_drop w o; value = number_here body w address_size };
  }

  module _ {a : Aggregator} {body : List ℕ} (x : AggregatorBytes w a body) where
    -- they are as long
    pub aggregator_long : length body ≡ w + address_size
    aggregator_long = ap length x.joined ∙ simp length-append (omega (arith, x.number_is.long, x.address_is.long))

    -- what they say is read back
    pub aggregator_same : aggregator_of w body ≡ a
    unfolding aggregator_of
    aggregator_same =
        let e : w ≡ length x.number + 0 = omega (arith, x.number_is.long) in
        let n : number_at body 0 w ≡ a.number = rw x.joined (field_same w x.number_is x.address) in
        let d : number_at body w address_size ≡ a.address
        = rw x.joined (ap (λ (at : ℕ). number_at (x.number ++ x.address) at address_size) e ∙ number_after x.number x.address 0 address_size ∙ x.address_is.value) in
        λ i. record { number = n i; address = d i }

    -- and they are bytes
    pub aggregator_octets : Octets body
    aggregator_octets = rw x.joined (octets_append x.number_is.octets x.address_is.octets)

  -- a number and an address that fit have such bytes
  pub aggregator_exists : (a : Aggregator) → a.number < 256 ^ w → a.address < 2 ^ address_bits → (body : List ℕ) × AggregatorBytes w a body
  aggregator_exists a h k = (
    bytes_of w a.number ++ bytes_of address_size a.address,
    record {
      number = bytes_of w a.number;
      address = bytes_of address_size a.address;
      joined = refl;
      number_is = bytes_field w a.number h;
      address_is = bytes_field address_size a.address k;
    },
  )
