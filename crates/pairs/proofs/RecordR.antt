-- Record R's bytes are R's message. Assumes nothing.
use Prim.Native.Nat.{ℕ, zero, suc, ◌<◌}
use native.Mathlib.Omega.{arith}
use mathlib.Core.Path.{◌≡◌, refl}
use mathlib.Core.Bool.{Bool, true, false}
use mathlib.Core.List.{List, [], ◌∷◌}
use lib.ListN.{get_or}
use lib.Dec.{ltb}
use borrow.Author.Tests.{ltb-true}
use Rattle.octets.specs.Choice.{pick}
use Rattle.octets.specs.Numbers.{Octets, number_at}
use Rattle.octets.specs.Rows.{whole_in, items_in}
use Rattle.octets.proofs.Choices.{each}
use Rattle.network.specs.Networks.{cleared}
use Rattle.network.specs.Wire.{prefix_size, network_of}
use Rattle.aspath.specs.declared.Width.TheVariants.{Four}
use Rattle.aspath.specs.Wire.{segment_size, numbers_in, segment_of}
use Rattle.attributes.specs.Wire.{length_width, attribute_header, body_size, attribute_size, raw_of}
use Rattle.attributes.specs.Codes.{elem, distinct}
use Rattle.attributes.specs.Bodies.{body_right, all_right, said}
use Rattle.std.specs.Prelude.{Ok}
use Rattle.message.specs.Represents.{Represents}
use Rattle.message.specs.Decode.{wrong_size, wrong_mrt_type, wrong_peer, ones, wrong_frame, wrong_sections, wrong_attributes, wrong_body, wrong_prefix, update_parts, update_of, message_of, decode_of, message_at}
use Rattle.message.proofs.RecordReads.{read_represents}
use Rattle.pairs.specs.RecordR.{record_r, message_r}

-- every member is below 256, as a test
small : List ℕ → Bool
small [] = true
small (b ∷ bs) = pick (ltb b 256) (small bs) false

small_octets : (l : List ℕ) → small l ≡ true → Octets l
unfolding small
small_octets l e = record { below = go l e }
  where
    go : (l : List ℕ) → small l ≡ true → (i : ℕ) → get_or l i 0 < 256
    go [] e i = omega arith
    go (b ∷ bs) e zero = ltb-true _ _ (each (ltb b 256) (small bs) e).0
    go (b ∷ bs) e (suc i) = go bs (each (ltb b 256) (small bs) e).1 i

-- R is bytes
record_octets : Octets record_r
unfolding small record_r
record_octets = small_octets record_r refl

-- its parts, by computation
record_decoded : decode_of record_r ≡ Ok (update_parts Four record_r)
unfolding
    record_r decode_of wrong_size wrong_mrt_type message_of wrong_peer wrong_frame ones update_of wrong_sections wrong_attributes wrong_body wrong_prefix
    number_at whole_in items_in prefix_size segment_size length_width attribute_header body_size attribute_size raw_of elem distinct body_right all_right
record_decoded = refl

-- what they stand for, by computation
record_message : message_at record_r (update_parts Four record_r) ≡ message_r
unfolding
    record_r message_r message_at update_parts number_at items_in prefix_size network_of cleared segment_size segment_of numbers_in
    length_width attribute_header body_size attribute_size raw_of said
record_message = refl

-- R's bytes are R's message
pub record_represents : Represents message_r record_r
record_represents = rw record_message at (read_represents record_octets record_decoded)
