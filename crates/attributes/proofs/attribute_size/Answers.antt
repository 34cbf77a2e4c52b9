-- `attributes::attribute_size` meets its contract: its bytes are there or they aren't. Assumes nothing.
use native.Mathlib.Omega.{arith}
use mathlib.Core.Path.{refl, sym}
use lib.ListN.{drop, length-drop}
use Rattle.octets.proofs.Rows.{some_sized}
use Rattle.attributes.proofs.Sizes.{header_least, fits_stands, short_none}
use Rattle.attributes.proofs.attribute_size.Goals as goal

pub returns-then-s-at : goal.returns-then-s-at
returns-then-s-at c = let a = c.args in
    let l = drop a.at a.s.now in
    rw (short_none l (omega (arith, length-drop a.at a.s.now, header_least l))) refl

pub returns-then-s-at-2 : goal.returns-then-s-at-2
returns-then-s-at-2 c = let a = c.args in
    let l = drop a.at a.s.now in
    rw (short_none l (omega (arith, length-drop a.at a.s.now))) refl

pub returns : goal.returns
returns c = let a = c.args in
    let l = drop a.at a.s.now in
    let x = fits_stands l (omega (arith, length-drop a.at a.s.now)) in
    rw (c.header_size.ensures.0, c.body_size.ensures.0, ← x.parts) (sym (some_sized (λ z. omega (arith, x.long))))
