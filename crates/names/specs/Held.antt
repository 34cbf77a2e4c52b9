-- A table as the code holds it: words and what they stand for.
use Rattle.std.specs.Prelude.{ℕ, List, map}
use Rattle.std.specs.Borrow.{Bor}
use Rattle.names.specs.Tables.{Row, row}

-- the table that its rows are
abbrev pub table_of : {A : Type 0} → List (Bor (List ℕ) × A) → List (Row A)
table_of rows = map (λ r. row r.0.now r.1) rows
