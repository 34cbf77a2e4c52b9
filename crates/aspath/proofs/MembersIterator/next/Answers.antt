-- `next` of the members meets its contract: it gives the first of those left. Assumes nothing.
use Rattle.std.proofs.Common.{rules}
use mathlib.Core.Path.{sym, ◌∙◌}
use Rattle.aspath.specs.Wire.{width_bytes}
use Rattle.aspath.proofs.Cursors.{member_view, end_view}
use Rattle.aspath.proofs.MembersIterator.next.Goals as goal

pub returns-in_err-n-clause-steps : goal.returns-in_err-n-clause-steps
returns-in_err-n-clause-steps c = let m = c.args.self.now in
    let e = end_view (width_bytes m.width) m.body.now m.place (sym c.member_at.ensures ∙ c.in_err-n.was) in
    rw c.from_residual.ensures (e, e)

pub returns-clause-steps : goal.returns-clause-steps
returns-clause-steps c = let m = c.args.self.now in
    member_view (width_bytes m.width) m.body.now m.place (sym c.member_at.ensures ∙ c.in_ok-n.was)

pub returns-clause-goes : goal.returns-clause-goes
returns-clause-goes c = let m = c.args.self.now in
    let e = member_view (width_bytes m.width) m.body.now m.place (sym c.member_at.ensures ∙ c.in_ok-n.was) in
    search (rules, e)
