-- Numbers in bytes, the most significant first.
use Rattle.std.specs.Prelude.{ℕ, zero, suc, ◌+◌, ◌*◌, ◌/◌, ◌%◌, ◌<◌, ◌≡◌, List, [], ◌∷◌, ◌++◌, length, get_or}

-- every member is a byte
pub record Octets (s : List ℕ) : Type 0 where
  pub below : (i : ℕ) → get_or s i 0 < 256

-- the number in the w bytes at a place; a byte past the end reads 0
unfoldable pub number_at : List ℕ → ℕ → ℕ → ℕ
number_at s at zero = 0
number_at s at (suc w) = number_at s at w * 256 + get_or s (at + w) 0

-- the code reads and writes numbers of so many bytes at most
abbrev pub widest_number : ℕ
widest_number = 4

-- these are w bytes, and the number in them is n
pub record Field (w n : ℕ) (bytes : List ℕ) : Type 0 where
  pub long : length bytes ≡ w
  pub octets : Octets bytes
  pub value : number_at bytes 0 w ≡ n

-- these are w bytes, of any value
abbrev pub Free : ℕ → List ℕ → Type 0
Free w bytes = Field w (number_at bytes 0 w) bytes

-- the w bytes of a number
unfoldable pub bytes_of : ℕ → ℕ → List ℕ
bytes_of zero n = []
bytes_of (suc w) n = bytes_of w (n / 256) ++ ((n % 256) ∷ [])
