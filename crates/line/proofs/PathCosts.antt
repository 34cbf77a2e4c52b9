-- A path as text is short: a number of two bytes has 5 digits at most, one of four bytes 10, and a segment's type and count leave
-- room for its braces and its space. Assumes nothing.
use Prim.Native.Nat.{ℕ, zero, suc, ◌+◌, ◌*◌, ◌^◌, ◌≤◌, ◌<◌}
use native.Mathlib.Omega.{arith}
use mathlib.Core.List.{List, map}
use lib.ListN.{length, get_or, length-append}
use Rattle.octets.specs.Numbers.{Octets}
use Rattle.octets.specs.Decimal.{decimal}
use Rattle.octets.specs.Lists.{Every, every_none, every_more}
use Rattle.octets.proofs.Bytes.{octets_drop}
use Rattle.octets.proofs.Numbers.{number_lt}
use Rattle.octets.proofs.Decimal.{digits_length, digits_few}
use Rattle.octets.proofs.Every.{total_same}
use Rattle.octets.proofs.Items.{items_every}
use Rattle.aspath.specs.declared.Width.{Width}
use Rattle.aspath.specs.declared.Width.TheVariants.{Two, Four}
use Rattle.aspath.specs.Members.{SegmentType, set, sequence, Segment}
use Rattle.aspath.specs.Wire.{width_bytes, numbers_in, segment_size, segment_of, segments_of}
use Rattle.aspath.specs.Encodable.{segment_cost}
use Rattle.aspath.proofs.SegmentReads.{members_count}
use Rattle.line.specs.Text.{space, separated, numbers_text, segment_text, path_text}
use Rattle.line.proofs.Costs.{text_cost, separated_length, total_every}

-- a number has with a separator at most 3 bytes of text for each of w bytes
record Brief (w n : ℕ) : Type 0 where
  brief : text_cost decimal n ≤ 3 * w

-- a number of a path's width is brief
number_brief : (width : Width) (n : ℕ) → n < 256 ^ width_bytes width → Brief (width_bytes width) n
number_brief Two n h = record { brief = omega (arith, digits_few 4 9 n (omega arith)) }
number_brief Four n h = record { brief = omega (arith, digits_length 10 n) }

-- the numbers read of bytes are brief
numbers_brief : (width : Width) (n : ℕ) {l : List ℕ} → Octets l → Every (Brief (width_bytes width)) (numbers_in (width_bytes width) n l)
unfolding numbers_in
numbers_brief width zero o = every_none
numbers_brief width (suc n) {l} o =
    every_more (number_brief width _ (number_lt l 0 (width_bytes width) o.below)) (numbers_brief width n (octets_drop (width_bytes width) o))

-- brief numbers with a separator between have at most 3 bytes of text for each of w bytes each
numbers_short : (w separator : ℕ) {ns : List ℕ} → Every (Brief w) ns → length (separated separator (map decimal ns)) ≤ 3 * (length ns * w)
numbers_short w separator {ns} h =
    omega (arith, separated_length separator decimal ns, total_every (text_cost decimal) (λ n. w) 3 (λ n b. b.brief) h, total_same w ns)

-- a segment of brief numbers has with a space at most 3 bytes of text for each of its own
segment_short : (w : ℕ) (s : Segment) → Every (Brief w) s.numbers → text_cost segment_text s ≤ 3 * segment_cost w s
segment_short w s h = go s.type
  where
    go : (k : SegmentType) → 1 + length (numbers_text k s.numbers) ≤ 3 * segment_cost w s
    go sequence = unfold numbers_text in omega (arith, numbers_short w space h)
    go set = unfold numbers_text in simp length-append (omega (arith, numbers_short w 44 h))

-- a path as text has at most 3 bytes for each of its own
pub path_short : (width : Width) {l : List ℕ} → Octets l → length (path_text (segments_of (width_bytes width) l)) ≤ 3 * length l
path_short width {l} o =
    let w = width_bytes width in
    let each : (l : List ℕ) → Octets l → Every (Brief w) (segment_of w l).numbers = λ l o. unfold segment_of in numbers_brief width (get_or l 1 0) (octets_drop 2 o) in
    omega (
      arith,
      separated_length space segment_text (segments_of w l),
      total_every (text_cost segment_text) (segment_cost w) 3 (segment_short w) (items_every (segment_size w) (segment_of w) each o),
      members_count w l,
    )
