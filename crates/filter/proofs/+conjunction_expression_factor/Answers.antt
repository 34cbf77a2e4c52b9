-- The one proof of the cycle {conjunction, expression, factor}: each part is read as the reader reads it. The measure is 3 for each token left, and the part's rank. Assumes nothing.
use native.Mathlib.Omega.{arith}
use borrow.Author.Rules.{rules}
use mathlib.Core.Path.{◌≡◌}
use Rattle.program.specs.Readings.{and as and·op, or as or·op}
use Rattle.token.proofs.Nexts.{sort_token}
use Rattle.filter.specs.declared.Role.TheVariants.{And, Or}
use Rattle.filter.specs.Answers.{a_group, a_bang}
use Rattle.filter.proofs.ReadyTokens.{joined_by, not_joint, other_role, no_role, ready_small, next_ready, next_fewer}
use Rattle.filter.proofs.Parts.{read_ready, handed_on}
use Rattle.filter.proofs.Sides.{sofar_first, sofar_last, sofar_more, first_stops, side_ready, side_fewer, more_stops}
use Rattle.filter.proofs.Factors.{too_deep, opened_stops, negation, group, group_stops}
use Rattle.filter.proofs.+conjunction_expression_factor.Goals as goal

pub conjunction-returns-in_err-part : goal.conjunction-returns-in_err-part
conjunction-returns-in_err-part t c =
    rw (handed_on c.from_residual.ensures.1) (first_stops and·op c.in_err-part.was c.factor.ensures)

pub conjunction-loop-pass-init : goal.conjunction-loop-pass-init
conjunction-loop-pass-init t c = sofar_first and·op c.requires.1 c.factor.ensures c.in_ok-part.was

pub conjunction-overflow_add-pass : goal.conjunction-overflow_add-pass
conjunction-overflow_add-pass t c = omega (arith, ready_small c.loop-pass.invariant.ready)

pub conjunction-factor-requires-in-Some-And : goal.conjunction-factor-requires-in-Some-And
conjunction-factor-requires-in-Some-And t c =
    let g = c.loop-pass.invariant in
    let role = joined_by and·op c.role_of.ensures c.in-Some-And.is c.in-Some-And.field-0-is in
    (omega (arith, c.requires, side_fewer and·op g role c.next.ensures, g.read.fewer), (c.requires.0, side_ready and·op g role c.next.ensures))

pub conjunction-returns-in_err-part-2 : goal.conjunction-returns-in_err-part-2
conjunction-returns-in_err-part-2 t c =
    let role = joined_by and·op c.role_of.ensures c.in-Some-And.is c.in-Some-And.field-0-is in
    rw (handed_on c.from_residual-in_err-part-2.ensures.1) (more_stops and·op c.loop-pass.invariant role c.next.ensures c.in_err-part-2.was c.factor-in-Some-And.ensures)

pub conjunction-overflow_sub-part : goal.conjunction-overflow_sub-part
conjunction-overflow_sub-part t c = omega (arith, (c.factor-in-Some-And.ensures.upto _ c.in_ok-part-2.was).count)

pub conjunction-overflow_sub-part-in-Some-And : goal.conjunction-overflow_sub-part-in-Some-And
conjunction-overflow_sub-part-in-Some-And t c = omega (arith, (c.factor-in-Some-And.ensures.upto _ c.in_ok-part-2.was).count)

pub conjunction-put_plain-requires : goal.conjunction-put_plain-requires
conjunction-put_plain-requires t c =
    let g = c.loop-pass.invariant in
    let role = joined_by and·op c.role_of.ensures c.in-Some-And.is c.in-Some-And.field-0-is in
    let small = ready_small (read_ready (side_ready and·op g role c.next.ensures) (c.factor-in-Some-And.ensures.upto _ c.in_ok-part-2.was)) in
    (ready_small g.ready, omega arith)

pub conjunction-loop-pass-smaller : goal.conjunction-loop-pass-smaller
conjunction-loop-pass-smaller t c =
    let role = joined_by and·op c.role_of.ensures c.in-Some-And.is c.in-Some-And.field-0-is in
    omega (arith, side_fewer and·op c.loop-pass.invariant role c.next.ensures, (c.factor-in-Some-And.ensures.upto _ c.in_ok-part-2.was).fewer)

pub conjunction-loop-pass-preserved : goal.conjunction-loop-pass-preserved
conjunction-loop-pass-preserved t c =
    let role = joined_by and·op c.role_of.ensures c.in-Some-And.is c.in-Some-And.field-0-is in
    sofar_more and·op c.loop-pass.invariant role c.next.ensures c.factor-in-Some-And.ensures c.in_ok-part-2.was c.put_plain.ensures

pub conjunction-returns-in_default : goal.conjunction-returns-in_default
conjunction-returns-in_default t c =
    let other : c.in_default.field-0 ≡ And → ⊥ = search rules in
    sofar_last and·op c.loop-pass.invariant (not_joint and·op c.role_of.ensures (other_role c.in_default.is other))

pub conjunction-returns-in_default-2 : goal.conjunction-returns-in_default-2
conjunction-returns-in_default-2 t c = sofar_last and·op c.loop-pass.invariant (not_joint and·op c.role_of.ensures (no_role c.in_default.is))

pub expression-returns-in_err-part : goal.expression-returns-in_err-part
expression-returns-in_err-part t c =
    rw (handed_on c.from_residual.ensures.1) (first_stops or·op c.in_err-part.was c.conjunction.ensures)

pub expression-loop-pass-init : goal.expression-loop-pass-init
expression-loop-pass-init t c = sofar_first or·op c.requires.1 c.conjunction.ensures c.in_ok-part.was

pub expression-overflow_add-pass : goal.expression-overflow_add-pass
expression-overflow_add-pass t c = omega (arith, ready_small c.loop-pass.invariant.ready)

pub expression-conjunction-requires-in-Some-Or : goal.expression-conjunction-requires-in-Some-Or
expression-conjunction-requires-in-Some-Or t c =
    let g = c.loop-pass.invariant in
    let role = joined_by or·op c.role_of.ensures c.in-Some-Or.is c.in-Some-Or.field-0-is in
    (omega (arith, c.requires, side_fewer or·op g role c.next.ensures, g.read.fewer), (c.requires.0, side_ready or·op g role c.next.ensures))

pub expression-returns-in_err-part-2 : goal.expression-returns-in_err-part-2
expression-returns-in_err-part-2 t c =
    let role = joined_by or·op c.role_of.ensures c.in-Some-Or.is c.in-Some-Or.field-0-is in
    rw (handed_on c.from_residual-in_err-part-2.ensures.1) (more_stops or·op c.loop-pass.invariant role c.next.ensures c.in_err-part-2.was c.conjunction-in-Some-Or.ensures)

pub expression-overflow_sub-part : goal.expression-overflow_sub-part
expression-overflow_sub-part t c = omega (arith, (c.conjunction-in-Some-Or.ensures.upto _ c.in_ok-part-2.was).count)

pub expression-overflow_sub-part-in-Some-Or : goal.expression-overflow_sub-part-in-Some-Or
expression-overflow_sub-part-in-Some-Or t c = omega (arith, (c.conjunction-in-Some-Or.ensures.upto _ c.in_ok-part-2.was).count)

pub expression-put_plain-requires : goal.expression-put_plain-requires
expression-put_plain-requires t c =
    let g = c.loop-pass.invariant in
    let role = joined_by or·op c.role_of.ensures c.in-Some-Or.is c.in-Some-Or.field-0-is in
    let small = ready_small (read_ready (side_ready or·op g role c.next.ensures) (c.conjunction-in-Some-Or.ensures.upto _ c.in_ok-part-2.was)) in
    (ready_small g.ready, omega arith)

pub expression-loop-pass-smaller : goal.expression-loop-pass-smaller
expression-loop-pass-smaller t c =
    let role = joined_by or·op c.role_of.ensures c.in-Some-Or.is c.in-Some-Or.field-0-is in
    omega (arith, side_fewer or·op c.loop-pass.invariant role c.next.ensures, (c.conjunction-in-Some-Or.ensures.upto _ c.in_ok-part-2.was).fewer)

pub expression-loop-pass-preserved : goal.expression-loop-pass-preserved
expression-loop-pass-preserved t c =
    let role = joined_by or·op c.role_of.ensures c.in-Some-Or.is c.in-Some-Or.field-0-is in
    sofar_more or·op c.loop-pass.invariant role c.next.ensures c.conjunction-in-Some-Or.ensures c.in_ok-part-2.was c.put_plain.ensures

pub expression-returns-in_default : goal.expression-returns-in_default
expression-returns-in_default t c =
    let other : c.in_default.field-0 ≡ Or → ⊥ = search rules in
    sofar_last or·op c.loop-pass.invariant (not_joint or·op c.role_of.ensures (other_role c.in_default.is other))

pub expression-returns-in_default-2 : goal.expression-returns-in_default-2
expression-returns-in_default-2 t c = sofar_last or·op c.loop-pass.invariant (not_joint or·op c.role_of.ensures (no_role c.in_default.is))

pub factor-returns-in_err-inside-in-Bang : goal.factor-returns-in_err-inside-in-Bang
factor-returns-in_err-inside-in-Bang t c =
    let token = sort_token _ c.args.t c.in-Bang.is in
    rw (handed_on c.from_residual.ensures.1) (too_deep c.requires.1 a_bang token c.deeper.ensures.refused c.in_err-inside-in-Bang.was)

pub factor-factor-requires : goal.factor-factor-requires
factor-factor-requires t c =
    let token = sort_token _ c.args.t c.in-Bang.is in
    let deeper = c.deeper.ensures.allowed _ c.in_ok-inside-in-Bang.was in
    (omega (arith, c.requires, next_fewer c.requires.1 token c.next.ensures), (omega (arith, deeper), next_ready c.requires.1 token c.next.ensures))

pub factor-returns-in_err-part-in-Bang : goal.factor-returns-in_err-part-in-Bang
factor-returns-in_err-part-in-Bang t c =
    let token = sort_token _ c.args.t c.in-Bang.is in
    rw (handed_on c.from_residual-in_err-part-in-Bang.ensures.1) (opened_stops c.requires.1 a_bang token (c.deeper.ensures.allowed _ c.in_ok-inside-in-Bang.was) c.next.ensures c.in_err-part-in-Bang.was c.factor.ensures)

pub factor-put_plain-requires : goal.factor-put_plain-requires
factor-put_plain-requires t c =
    let token = sort_token _ c.args.t c.in-Bang.is in
    (ready_small (read_ready (next_ready c.requires.1 token c.next.ensures) (c.factor.ensures.upto _ c.in_ok-part-in-Bang.was)), omega arith)

pub factor-overflow_add-result : goal.factor-overflow_add-result
factor-overflow_add-result t c =
    let token = sort_token _ c.args.t c.in-Bang.is in
    omega (arith, ready_small (read_ready (next_ready c.requires.1 token c.next.ensures) (c.factor.ensures.upto _ c.in_ok-part-in-Bang.was)))

pub factor-returns-in_err-inside-in-Open : goal.factor-returns-in_err-inside-in-Open
factor-returns-in_err-inside-in-Open t c =
    let token = sort_token _ c.args.t c.in-Open.is in
    rw (handed_on c.from_residual-in_err-inside-in-Open.ensures.1) (too_deep c.requires.1 a_group token c.deeper-in-Open.ensures.refused c.in_err-inside-in-Open.was)

pub factor-expression-requires : goal.factor-expression-requires
factor-expression-requires t c =
    let token = sort_token _ c.args.t c.in-Open.is in
    let deeper = c.deeper-in-Open.ensures.allowed _ c.in_ok-inside-in-Open.was in
    (omega (arith, c.requires, next_fewer c.requires.1 token c.next-in-Open.ensures), (omega (arith, deeper), next_ready c.requires.1 token c.next-in-Open.ensures))

pub factor-returns-in_err-part-in-Open : goal.factor-returns-in_err-part-in-Open
factor-returns-in_err-part-in-Open t c =
    let token = sort_token _ c.args.t c.in-Open.is in
    rw (handed_on c.from_residual-in_err-part-in-Open.ensures.1) (opened_stops c.requires.1 a_group token (c.deeper-in-Open.ensures.allowed _ c.in_ok-inside-in-Open.was) c.next-in-Open.ensures c.in_err-part-in-Open.was
    c.expression.ensures)

pub factor-returns-in_default-sort : goal.factor-returns-in_default-sort
factor-returns-in_default-sort t c =
    let token = sort_token _ c.args.t c.in-Open.is in
    rw c.at.ensures (group_stops c.requires.1 token (c.deeper-in-Open.ensures.allowed _ c.in_ok-inside-in-Open.was) c.next-in-Open.ensures c.expression.ensures
    c.in_ok-part-in-Open.was c.in_default-sort.not-Close)

pub factor-returns-in_ok-part-in-Bang : goal.factor-returns-in_ok-part-in-Bang
factor-returns-in_ok-part-in-Bang t c =
    let token = sort_token _ c.args.t c.in-Bang.is in
    negation c.requires.1 token (c.deeper.ensures.allowed _ c.in_ok-inside-in-Bang.was) c.next.ensures c.factor.ensures c.in_ok-part-in-Bang.was c.put_plain.ensures

pub factor-returns-in-Close : goal.factor-returns-in-Close
factor-returns-in-Close t c =
    let token = sort_token _ c.args.t c.in-Open.is in
    group c.requires.1 token (c.deeper-in-Open.ensures.allowed _ c.in_ok-inside-in-Open.was) c.next-in-Open.ensures c.expression.ensures c.in_ok-part-in-Open.was
    c.in-Close.is c.next-in-Open-2.ensures
