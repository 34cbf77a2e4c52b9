-- `names::value_in` meets its contract. The loop's invariant: the words so far are others. Assumes nothing.
use Rattle.std.proofs.Common.{◌≡◌, drop}
use Rattle.names.specs.Tables.{found}
use Rattle.names.specs.Held.{table_of}
use Rattle.names.proofs.value_in.Given as goal

abbrev pub invariant-loop-name : goal.invariant-loop-name
invariant-loop-name g l = found (table_of l.rows) l.word ≡ found (table_of (drop l.name-index l.rows)) l.word
