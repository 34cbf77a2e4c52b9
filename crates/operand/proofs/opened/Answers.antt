-- `operand::opened` meets its contract: blanks, maybe `^`, and blanks. Assumes nothing.
use mathlib.Core.Path.{◌≡◌, ap, ◌∙◌}
use mathlib.Core.Bool.{Bool}
use Rattle.token.specs.Next.{is_blank}
use Rattle.operand.specs.Fronts.{Read, read, optional, cut}
use Rattle.operand.specs.Patterns.{pattern_opened}
use Rattle.operand.proofs.opened.Goals as goal

pub returns : goal.returns
returns c =
    let o = c.optional-caret in
    let e : read o.result.0 o.result.1.now ≡ pattern_opened c.args.bytes.now = o.ensures ∙ ap (optional 94) c.past_blanks.ensures in
    record {
      starts = ap (λ (r : Read Bool). r.value) e;
      left = c.past_blanks-2.ensures ∙ ap (λ (r : Read Bool). (cut is_blank r.rest).rest) e;
    }
