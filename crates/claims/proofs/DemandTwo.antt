-- Demand 2 holds of our compiler, our judge and our runner. Assumes nothing.
use mathlib.Core.Path.{ap}
use lib.ListN.{length}
use Rattle.message.proofs.ReadableRecords.{readable_represents, represents_readable}
use Rattle.filter.specs.Functions.{our_compiler}
use Rattle.judge.specs.Answers.{number_of, RecordOutcome}
use Rattle.judge.specs.Functions.{said_of, our_judge}
use Rattle.judge.proofs.Answered.{refused_judged}
use Rattle.run.specs.Runs.{runner_of}
use Rattle.run.proofs.RunOver.{runs_over}
use Rattle.run.proofs.Damaged.{changes_nothing}
use Rattle.claims.specs.DemandTwo.{DemandTwo}
use Rattle.claims.proofs.OnMessages.{on_message}
use Rattle.claims.proofs.WholeNumbers.{whole}

pub demand_two : DemandTwo our_compiler our_judge (runner_of our_judge)
unfolding number_of
demand_two = record {
  readable = λ o. (readable_represents o, λ x. represents_readable x.1);
  on_message = λ {text} {buffer} e d x lines counting f. on_message text buffer e d x lines counting f;
  whole = whole;
  refused = λ v b x lines counting f. ap (λ (o : RecordOutcome). (said_of o).0) (refused_judged v f b x (length lines));
  in_order = runs_over our_judge;
  unshaken = changes_nothing;
}
