-- `octets::put_bytes` meets its contract. The loop's invariant: the bytes from `i` on are left to write. Assumes nothing.
use lib.ListN.{drop}
use Rattle.octets.proofs.Writes.{Midst}
use Rattle.octets.proofs.put_bytes.Given as goal

abbrev pub invariant-loop-b : goal.invariant-loop-b
invariant-loop-b l = Midst l.initial.out l.at l.bytes l.out l.place (drop l.b-index l.bytes)
