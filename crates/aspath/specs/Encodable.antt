-- Which segments have bytes, over the width w of an AS number in bytes, and how many.
use Rattle.std.specs.Prelude.{ℕ, ◌+◌, ◌*◌, ◌^◌, ◌≤◌, ◌<◌, length}
use Rattle.octets.specs.Lists.{Every}
use Rattle.aspath.specs.Members.{Segment}
use Rattle.aspath.specs.Wire.{segment_header}

-- the bytes of a segment: its type, its count and its numbers
abbrev pub segment_cost : ℕ → Segment → ℕ
segment_cost w s = segment_header + length s.numbers * w

-- a segment that has bytes: its numbers are 1 to 255, and each fits w bytes
pub record EncodableSegment (w : ℕ) (s : Segment) : Type 0 where
  pub some : 1 ≤ length s.numbers
  pub few : length s.numbers < 256
  pub below : Every (λ (n : ℕ). n < 256 ^ w) s.numbers
