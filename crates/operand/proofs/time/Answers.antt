-- `operand::time` meets its contract: a comparison, seconds and a fraction. Assumes nothing.
use Prim.Native.Nat.{ℕ}
use mathlib.Core.Path.{◌≡◌, sym, ap, ◌∙◌}
use Rattle.std.specs.Prelude.{None, Some}
use Rattle.program.specs.Layout.{head_fields}
use Rattle.program.specs.Compiling.{head_of, items_of}
use Rattle.operand.specs.Fronts.{Read, read}
use Rattle.operand.specs.Decimals.{number}
use Rattle.operand.specs.Times.{seconds_limit, comparison, time_operand}
use Rattle.operand.specs.Tests.{meaning}
use Rattle.operand.proofs.Said.{said_none, said_some}
use Rattle.operand.proofs.time.Goals as goal

pub returns-in_err-seconds : goal.returns-in_err-seconds
unfolding meaning time_operand
returns-in_err-seconds c = let s = c.args.bytes.now in
    let r = ap (λ (r : Read ℕ). r.rest) c.comparison-sign.ensures in
    let e : number seconds_limit (comparison s).rest ≡ None = rw (← r) (said_none c.number.ensures c.in_err-seconds.was) in
    rw (c.from_residual.ensures, e)

pub returns-in_err-micros : goal.returns-in_err-micros
unfolding meaning time_operand
returns-in_err-micros c = let s = c.args.bytes.now in
    let r = ap (λ (r : Read ℕ). r.rest) c.comparison-sign.ensures in
    let e : number seconds_limit (comparison s).rest ≡ Some (read c.in_ok-seconds.seconds c.in_ok-seconds.rest.now) = rw (← r)
    (said_some c.number.ensures c.in_ok-seconds.was) in
    rw (c.from_residual-in_err-micros.ensures, e, sym c.fraction.ensures ∙ c.in_err-micros.was)

pub returns : goal.returns
unfolding meaning time_operand head_fields head_of items_of
returns c = let s = c.args.bytes.now in
    let r = ap (λ (r : Read ℕ). r.rest) c.comparison-sign.ensures in
    let e : number seconds_limit (comparison s).rest ≡ Some (read c.in_ok-seconds.seconds c.in_ok-seconds.rest.now) = rw (← r)
    (said_some c.number.ensures c.in_ok-seconds.was) in
    rw (c.lone_head.ensures, ap (λ (r : Read ℕ). r.value) c.comparison-sign.ensures, e, sym c.fraction.ensures ∙ c.in_ok-micros.was)
