-- `network::covering` meets its contract: the leading zeros of the exclusive-or count the bits shared. Assumes nothing.
use mathlib.Core.Path.{refl, sym}
use native.Mathlib.Omega.{arith}
use Rattle.network.specs.Networks.{network_in}
use Rattle.network.proofs.Covers.{covers_no_shorter, covers_shared}
use Rattle.network.proofs.covering.Goals as goal

pub returns-then-b-a : goal.returns-then-b-a
returns-then-b-a c = let a = c.args in
    sym (covers_no_shorter (network_in a.a) (network_in a.b) c.if-b-a.true)

pub returns : goal.returns
returns c = let a = c.args in
    covers_shared (network_in a.a) (network_in a.b) refl c.if-b-a.false (omega arith) (omega arith)
