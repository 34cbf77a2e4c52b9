-- Byte strings that are the same: of one length, and byte by byte.
use Rattle.std.specs.Prelude.{Bool, ℕ, List}
use Rattle.std.specs.Str.{bytes_eq}

-- whether they are
unfoldable pub same : List ℕ → List ℕ → Bool
same = bytes_eq
