-- The body of an AS_PATH (RFC 4271, section 4.3), over the width w of an AS number in bytes.
use Rattle.std.specs.Prelude.{ℕ, zero, suc, ◌+◌, ◌*◌, ◌≤◌, ◌<◌, ◌≡◌, Bool, true, List, [], ◌∷◌, length, get_or, drop, ltb, eqb}
use Rattle.octets.specs.Choice.{pick}
use Rattle.octets.specs.Numbers.{number_at, Field}
use Rattle.octets.specs.Rows.{Joined, items}
use Rattle.aspath.specs.declared.Width.{Width}
use Rattle.aspath.specs.declared.Width.TheVariants.{Two, Four}
use Rattle.aspath.specs.Members.{SegmentType, set, sequence, Segment, Member, members}

-- AS numbers are of two bytes or four
abbrev pub width_bytes : Width → ℕ
width_bytes Two = 2
width_bytes Four = 4

-- no AS number has more
abbrev pub widest : ℕ
widest = width_bytes Four

-- the type of a segment
abbrev pub type_code : SegmentType → ℕ
type_code set = 1
type_code sequence = 2

-- the bytes before its numbers: the type and the count
abbrev pub segment_header : ℕ
segment_header = 2

-- these bytes are a segment: its type, the count of its numbers, which is 1 or more, and the numbers
pub record SegmentBytes (w : ℕ) (s : Segment) (bytes : List ℕ) : Type 0 where
  pub some : 1 ≤ length s.numbers
  pub few : length s.numbers < 256
  pub body : List ℕ
  pub joined : bytes ≡ type_code s.type ∷ length s.numbers ∷ body
  pub numbers : Joined (Field w) s.numbers body

-- ---- what the code computes

abbrev pub known : ℕ → Bool
known t = pick (eqb t (type_code set)) true (eqb t (type_code sequence))

-- the bytes of the segment at the front, 0 where no whole one stands there
unfoldable pub segment_size : ℕ → List ℕ → ℕ
segment_size w l =
    pick (ltb (length l) segment_header) 0
    (pick (known (get_or l 0 0))
    (pick (eqb (get_or l 1 0) 0) 0
    (pick (ltb (length l) (segment_header + get_or l 1 0 * w)) 0 (segment_header + get_or l 1 0 * w)))
    0)

-- as many numbers as asked for, from the front
unfoldable pub numbers_in : ℕ → ℕ → List ℕ → List ℕ
numbers_in w zero l = []
numbers_in w (suc n) l = number_at l 0 w ∷ numbers_in w n (drop w l)

-- the segment at the front
unfoldable pub segment_of : ℕ → List ℕ → Segment
segment_of w l = record {
  type = pick (eqb (get_or l 0 0) (type_code set)) set sequence;
  numbers = numbers_in w (get_or l 1 0) (drop segment_header l);
}

-- the segments of a body, and its members
abbrev pub segments_of : ℕ → List ℕ → List Segment
segments_of w l = items (segment_size w) (segment_of w) l

abbrev pub members_of : ℕ → List ℕ → List Member
members_of w l = members (segments_of w l)
