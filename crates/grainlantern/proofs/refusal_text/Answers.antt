-- `grainlantern::refusal_text` meets its contract: one writer after another, and the part that they wrote. Assumes nothing.
use mathlib.Core.Path.{◌∙◌}
use mathlib.Core.List.{[], ◌∷◌}
use Rattle.octets.specs.Decimal.{decimal}
use Rattle.octets.proofs.Writes.{both}
use Rattle.grainlantern.proofs.Refusals.{refusal_written}
use Rattle.grainlantern.proofs.refusal_text.Goals as goal

pub returns : goal.returns
returns c = let a = c.args in
    c.part.ensures ∙ refusal_written a.refused.number a.refused.place c.requires
    (both (114 ∷ 101 ∷ 102 ∷ 117 ∷ 115 ∷ 101 ∷ 100 ∷ 32 ∷ []) _ c.put_bytes-at.ensures
    (both (decimal a.refused.number) _ c.put_decimal-at.ensures
    (both (32 ∷ 97 ∷ 116 ∷ 32 ∷ []) _ c.put_bytes-at-2.ensures
    (both (decimal a.refused.place) (10 ∷ []) c.put_decimal-at-2.ensures c.put-end.ensures))))
