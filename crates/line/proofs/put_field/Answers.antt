-- `line::put_field` meets its contract, by what is found. Assumes nothing.
use mathlib.Core.Path.{sym, ◌∙◌}
use mathlib.Core.List.{[], ◌∷◌}
use Rattle.octets.proofs.Writes.{both}
use Rattle.line.specs.Text.{bar, optional}
use Rattle.line.proofs.put_field.Goals as goal

pub returns-in_default : goal.returns-in_default
unfolding optional
returns-in_default g c text h = rw (sym c.find.ensures ∙ c.in_default.is) c.put-place.ensures

pub returns : goal.returns
unfolding optional
returns g c text h =
    rw (sym c.find.ensures ∙ c.in-Some.is)
    (both (bar ∷ []) _ c.put-place.ensures (rw c.part.ensures at (h _ _ _ _ _ c.put_body.ensures)))
