-- `truth::item_at` meets its contract, by the tests of its definition on the fields read. Assumes nothing.
use native.Mathlib.Omega.{arith}
use mathlib.Core.Path.{◌≡◌, refl, sym, ap, ◌∙◌}
use Rattle.program.specs.Layout.{record_is}
use Rattle.program.specs.Checks.{last_variant, is_item}
use Rattle.truth.proofs.ItemReads.{item_fields, item_decoded}
use Rattle.truth.proofs.item_at.Goals as goal

pub returns-in-0 : goal.returns-in-0
returns-in-0 c = let f = c.fields_at-f in
    let here = item_fields last_variant f.result (ap (is_item last_variant) f.ensures ∙ c.requires) in
    ap record_is (sym f.ensures) ∙ item_decoded f.result here.kind (rw c.in-0.is refl)

pub returns-in-1 : goal.returns-in-1
returns-in-1 c = let f = c.fields_at-f in
    let here = item_fields last_variant f.result (ap (is_item last_variant) f.ensures ∙ c.requires) in
    ap record_is (sym f.ensures) ∙ item_decoded f.result here.kind (rw c.in-1.is refl)

pub returns-in_default : goal.returns-in_default
returns-in_default c = let f = c.fields_at-f in
    let here = item_fields last_variant f.result (ap (is_item last_variant) f.ensures ∙ c.requires) in
    let e : f.result.variant ≡ 2 = omega (arith, here.few) in
    ap record_is (sym f.ensures) ∙ item_decoded f.result here.kind (rw e refl)
