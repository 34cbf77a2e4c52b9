-- `message::message` meets its contract: the type decides between its two kinds of parts. Assumes nothing.
use mathlib.Core.Path.{ap}
use borrow.Author.Tests.{eq-eqb, ne_eqb}
use Rattle.message.specs.declared.Parts.{Parts}
use Rattle.message.specs.Decode.{message_of, other_parts}
use Rattle.message.proofs.message.Goals as goal

pub update-requires : goal.update-requires
unfolding other_parts
update-requires c = rw c.other_parts-parts.ensures

pub returns-then-parts-eq-UPDATE : goal.returns-then-parts-eq-UPDATE
unfolding message_of other_parts
returns-then-parts-eq-UPDATE c = let p = c.other_parts-parts in
    let code = ap (λ (x : Parts). x.code) p.ensures in
    let width = ap (λ (x : Parts). x.width) p.ensures in
    simp (
      ← c.wrong_peer.ensures,
      c.if-wrong_peer.false,
      ← c.frame_start.ensures.0,
      ← c.rest-m.ensures,
      ← c.wrong_frame.ensures,
      c.if-wrong_frame.false,
      rw code at (eq-eqb _ _ c.if-parts-eq-UPDATE.true),
    ) (rw width at c.update.ensures)

pub returns-else-parts-eq-UPDATE : goal.returns-else-parts-eq-UPDATE
unfolding message_of other_parts
returns-else-parts-eq-UPDATE c = let p = c.other_parts-parts in
    let code = ap (λ (x : Parts). x.code) p.ensures in
    simp (
      ← c.wrong_peer.ensures,
      c.if-wrong_peer.false,
      ← c.frame_start.ensures.0,
      ← c.rest-m.ensures,
      ← c.wrong_frame.ensures,
      c.if-wrong_frame.false,
      rw code at (ne_eqb _ _ c.if-parts-eq-UPDATE.false),
      p.ensures,
    )
