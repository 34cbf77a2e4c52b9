-- A part of bytes.
use Rattle.std.specs.Prelude.{ℕ, List, take, drop}

-- what stands from a place on, at most len bytes of it
abbrev pub part_at : List ℕ → ℕ → ℕ → List ℕ
part_at s start len = take len (drop start s)
