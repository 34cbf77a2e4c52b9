-- `line::put_line` meets its contract: nothing, or one writer after another. Assumes nothing.
use native.Mathlib.Omega.{arith}
use mathlib.Core.Path.{sym, ap, ◌∙◌}
use Rattle.std.specs.Prelude.{not}
use Rattle.std.specs.Option.{is_some}
use mathlib.Core.List.{[], ◌∷◌}
use Rattle.octets.proofs.Writes.{both, nothing}
use Rattle.aspath.specs.Wire.{width_bytes}
use Rattle.attributes.specs.Bodies.{attributes_of}
use Rattle.line.specs.Text.{bar}
use Rattle.line.specs.Line.{closing_fields}
use Rattle.line.proofs.Lines.{no_size, some_size, line_none, line_some}
use Rattle.line.proofs.put_line.Goals as goal

pub returns-then-is_none : goal.returns-then-is_none
returns-then-is_none c = let a = c.args in
    rw (line_none a.sign (attributes_of (width_bytes a.parts.width) a.attributes.now)
    (closing_fields a.parts.address a.parts.peer a.parts.seconds a.parts.width)
    a.prefixes.now (no_size (ap is_some (sym c.prefix_size.ensures) ∙ c.is_none.ensures ∙ ap not c.if-is_none.true)))
    (nothing a.out.now a.at (omega arith) (omega arith))

pub returns : goal.returns
returns c = let a = c.args in
    rw (line_some a.sign (attributes_of (width_bytes a.parts.width) a.attributes.now)
    (closing_fields a.parts.address a.parts.peer a.parts.seconds a.parts.width)
    a.prefixes.now (some_size (ap is_some (sym c.prefix_size.ensures) ∙ c.is_none.ensures ∙ ap not c.if-is_none.false)))
    (both (a.sign ∷ []) _ c.put-place.ensures
    (both (bar ∷ []) _ c.put-place-2.ensures
    (both _ _ c.put_prefixes-place.ensures
    (both _ _ c.put_attributes-place.ensures
    (both _ (10 ∷ []) c.put_closing-place.ensures c.put.ensures)))))
