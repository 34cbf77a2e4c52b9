-- `message::update` meets its contract: sections that aren't wrong lie within the record. Assumes nothing.
use native.Mathlib.Omega.{arith}
use mathlib.Core.Path.{◌≡◌}
use mathlib.Core.Bool.{false}
use Rattle.message.specs.Fields.{body, withdrawn_size, attributes_size}
use Rattle.message.specs.Decode.{wrong_sections}
use Rattle.message.proofs.Fields.{sections_within}
use Rattle.message.proofs.update.Goals as goal

pub update_parts-requires : goal.update_parts-requires
update_parts-requires c = let a = c.args in
    let start = c.frame_start.ensures.0 in
    let rest = c.rest-b.ensures in
    let withdrawn = c.number-withdrawn in
    let attributes = c.number-attributes in
    let b = body a.parts.width a.s.now in
    let e : withdrawn.result ≡ withdrawn_size b = rw (← start, ← rest) withdrawn.ensures in
    let f : attributes.result ≡ attributes_size b = rw (← start, ← rest, ← withdrawn.ensures) attributes.ensures in
    let h : wrong_sections b ≡ false = rw (← start, ← rest, ← c.wrong_sections.ensures) c.if-wrong_sections.false in
    (c.requires, e, f, omega (arith, sections_within a.parts.width a.s.now h))
