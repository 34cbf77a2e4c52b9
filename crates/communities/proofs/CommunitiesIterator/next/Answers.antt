-- `next` of `communities::Communities` meets its contract: it gives the first of the communities and leaves the others. Assumes nothing.
use native.Mathlib.Omega.{arith}
use mathlib.Core.Path.{◌≡◌, refl, ap}
use lib.ListN.{length}
use Rattle.std.specs.Prelude.{Some}
use Rattle.octets.specs.Rows.{sized}
use Rattle.octets.proofs.Rows.{items_end, items_taken}
use Rattle.communities.specs.Communities.{community_size, size_at, community_of}
use Rattle.communities.proofs.Bodies.{size_here, size_none, community_sizes}
use Rattle.communities.proofs.CommunitiesIterator.next.Goals as goal

pub returns-then-self-lt-SIZE-clause-steps : goal.returns-then-self-lt-SIZE-clause-steps
returns-then-self-lt-SIZE-clause-steps c =
    let z = items_end size_at community_of c.args.self.now.0.now (size_none c.args.self.now.0.now (omega arith)) in
    (z, z)

pub returns-clause-steps : goal.returns-clause-steps
returns-clause-steps c =
    let s = c.args.self.now.0.now in
    let e : Some community_size ≡ sized (size_at s) = rw (size_here s (omega arith)) refl in
    rw c.number-community.ensures (items_taken size_at community_of community_sizes s e)

pub returns-clause-goes : goal.returns-clause-goes
returns-clause-goes c =
    let s = c.args.self.now.0.now in
    let e : Some community_size ≡ sized (size_at s) = rw (size_here s (omega arith)) refl in
    let t = items_taken size_at community_of community_sizes s e in
    record { on = λ h. (tt, tt, omega (arith, ap length t)); keeps = tt; rests = λ h. tt }
