-- `filter::compile` meets its contract: the answer of the text, and the buffer that goes with it. Assumes nothing.
use Rattle.filter.proofs.Compiles.{put_back, given_long, given_byte, given_quote, given_closed, given_stopped, given_heavy, given_room, given_program, not_stopped}
use Rattle.filter.proofs.Parts.{handed_on}
use Rattle.filter.proofs.compile.Goals as goal

pub returns-then-text-gt-TEXT_LIMIT : goal.returns-then-text-gt-TEXT_LIMIT
returns-then-text-gt-TEXT_LIMIT c = rw c.at.ensures (given_long _ _ c.if-text-gt-TEXT_LIMIT.true)

pub returns-then-byte-text : goal.returns-then-byte-text
returns-then-byte-text c = rw c.at-then-byte-text.ensures
    (given_byte _ c.args.program.now c.if-text-gt-TEXT_LIMIT.false c.forbidden-byte.ensures c.if-byte-text.true)

pub returns-then-quote-text : goal.returns-then-quote-text
returns-then-quote-text c = rw c.at-then-quote-text.ensures
    (given_quote _ c.args.program.now c.if-text-gt-TEXT_LIMIT.false c.forbidden-byte.ensures c.if-byte-text.false c.unclosed-quote.ensures
    c.if-quote-text.true)

pub parse-requires : goal.parse-requires
parse-requires c = (
  c.if-text-gt-TEXT_LIMIT.false,
  given_closed _ c.args.program.now c.if-text-gt-TEXT_LIMIT.false c.forbidden-byte.ensures
      c.if-byte-text.false c.unclosed-quote.ensures c.if-quote-text.false,
)

pub returns-in_err-weight : goal.returns-in_err-weight
returns-in_err-weight c =
    let back = put_back c.parse.new.out c.args.program.now c.parse.auto.out in
    rw (handed_on c.from_residual.ensures.1, back) (given_stopped _ c.args.program.now c.if-text-gt-TEXT_LIMIT.false c.forbidden-byte.ensures c.if-byte-text.false
    c.unclosed-quote.ensures c.if-quote-text.false (c.parse.ensures.refused _ c.in_err-weight.was))

pub returns-then-weight-gt-WEIGHT_LIMIT : goal.returns-then-weight-gt-WEIGHT_LIMIT
returns-then-weight-gt-WEIGHT_LIMIT c = let back = put_back c.parse.new.out c.args.program.now c.parse.auto.out in
    rw (c.at-then-weight-gt-WEIGHT_LIMIT.ensures, back) (given_heavy _ c.args.program.now c.if-text-gt-TEXT_LIMIT.false c.forbidden-byte.ensures c.if-byte-text.false
    c.unclosed-quote.ensures c.if-quote-text.false (c.parse.ensures.read _ c.in_ok-weight.was) c.if-weight-gt-WEIGHT_LIMIT.true)

pub returns-then-program-size : goal.returns-then-program-size
returns-then-program-size c = let back = put_back c.parse.new.out c.args.program.now c.parse.auto.out in
    rw (c.at-then-program-size.ensures, back) (given_room _ c.args.program.now c.if-text-gt-TEXT_LIMIT.false c.forbidden-byte.ensures c.if-byte-text.false
    c.unclosed-quote.ensures c.if-quote-text.false (c.parse.ensures.read _ c.in_ok-weight.was) c.if-weight-gt-WEIGHT_LIMIT.false
    (rw back at c.if-program-size.true))

pub parse-requires-2 : goal.parse-requires-2
parse-requires-2 c = (
  c.if-text-gt-TEXT_LIMIT.false,
  given_closed _ c.args.program.now c.if-text-gt-TEXT_LIMIT.false c.forbidden-byte.ensures
      c.if-byte-text.false c.unclosed-quote.ensures c.if-quote-text.false,
)

pub returns-in_err-parse : goal.returns-in_err-parse
returns-in_err-parse c =
    absurd (not_stopped _ c.args.program.now c.if-text-gt-TEXT_LIMIT.false c.forbidden-byte.ensures c.if-byte-text.false c.unclosed-quote.ensures
    c.if-quote-text.false (c.parse.ensures.read _ c.in_ok-weight.was) c.if-weight-gt-WEIGHT_LIMIT.false (c.parse-2.ensures.refused _ c.in_err-parse.was))

pub returns : goal.returns
returns c = let back = put_back c.parse.new.out c.args.program.now c.parse.auto.out in
    given_program _ c.args.program.now c.if-text-gt-TEXT_LIMIT.false c.forbidden-byte.ensures c.if-byte-text.false c.unclosed-quote.ensures
    c.if-quote-text.false (c.parse.ensures.read _ c.in_ok-weight.was) c.if-weight-gt-WEIGHT_LIMIT.false
    (rw back at c.if-program-size.false) (rw back at c.parse-2.ensures.read _ c.in_ok-parse.was)
