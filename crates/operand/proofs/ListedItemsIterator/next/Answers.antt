-- `next` of `operand::ListedItems` meets its contract: it gives the first of those of the list and leaves the others. Assumes nothing.
use native.Mathlib.Omega.{arith}
use mathlib.Core.Path.{refl, ap}
use lib.ListN.{length}
use Rattle.operand.proofs.Said.{said_none, said_some}
use Rattle.operand.proofs.ListedReads.{listed_reads}
use Rattle.operand.proofs.PartedFronts.{parted_none, parted_one}
use Rattle.operand.proofs.ListedItemsIterator.next.Goals as goal

pub returns-in_err-found-clause-steps : goal.returns-in_err-found-clause-steps
returns-in_err-found-clause-steps c =
    rw (c.from_residual.ensures, c.if-not-self.false) (parted_none (listed_reads _) _ (said_none c.one_listed.ensures c.in_err-found.was), refl)

pub returns-clause-steps : goal.returns-clause-steps
returns-clause-steps c =
    rw c.if-not-self.false (parted_one (listed_reads _) _ (said_some c.one_listed.ensures c.in_ok-found.was) c.past_blanks-self.ensures, refl)

pub returns-clause-goes : goal.returns-clause-goes
returns-clause-goes c =
    let e = parted_one (listed_reads _) _ (said_some c.one_listed.ensures c.in_ok-found.was) c.past_blanks-self.ensures in
    rw c.if-not-self.false (record { on = λ h. (tt, tt, omega (arith, ap (λ r. length r.value) e)); keeps = tt; rests = λ h. tt })
