-- Texts: their size and bytes.
use Rattle.std.specs.Prelude.{ℕ, ◌≤◌, ◌<◌, Bool, true, false, List, leb, eqb, length, get_or}
use Rattle.octets.specs.Choice.{pick}

-- the most bytes of a text
abbrev pub text_limit : ℕ
text_limit = 4096

-- a blank: space, tab, LF
pub data Blank : ℕ → Type 0 where
  space : Blank 32
  tab : Blank 9
  line_feed : Blank 10

-- a byte that a text may have: 0x20 to 0x7E, tab or LF
pub data Allowed : ℕ → Type 0 where
  printed : {b : ℕ} → 32 ≤ b → b ≤ 126 → Allowed b
  tab : Allowed 9
  line_feed : Allowed 10

-- a forbidden byte, and the first: its place
pub record Forbidden (text : List ℕ) (place : ℕ) : Type 0 where
  pub within : place < length text
  pub earlier : (i : ℕ) → i < place → Allowed (get_or text i 0)
  pub here : Allowed (get_or text place 0) → ⊥

-- ---- what the code computes

-- 0x20 to 0x7E, tab or LF
abbrev pub allowed : ℕ → Bool
allowed b = pick (eqb b 9) true (pick (eqb b 10) true (pick (leb 32 b) (leb b 126) false))
