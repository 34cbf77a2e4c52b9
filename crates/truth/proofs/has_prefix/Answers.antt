-- `truth::has_prefix` meets its contract, side by side. Assumes nothing.
use mathlib.Core.Path.{refl, sym, ◌∙◌}
use Rattle.truth.proofs.PrefixReads.{on_announced, on_withdrawn, on_either}
use Rattle.truth.proofs.has_prefix.Goals as goal

pub returns-then-some_prefix : goal.returns-then-some_prefix
returns-then-some_prefix c =
    let a = c.args in
    let known = sym c.relation_of.ensures ∙ c.in-Some.is in
    rw (on_either a.f a.«record».now a.parts known c.in-0.is, ← c.part_of-announced.ensures, ← c.some_prefix.ensures, c.if-some_prefix.true) refl

pub returns-else-some_prefix : goal.returns-else-some_prefix
returns-else-some_prefix c =
    let a = c.args in
    let known = sym c.relation_of.ensures ∙ c.in-Some.is in
    rw (
      on_either a.f a.«record».now a.parts known c.in-0.is,
      ← c.part_of-announced.ensures,
      ← c.part_of-withdrawn.ensures,
      ← c.some_prefix.ensures,
      c.if-some_prefix.false,
    )
    c.some_prefix-else-some_prefix.ensures

pub returns-in-1 : goal.returns-in-1
returns-in-1 c =
    let a = c.args in
    let known = sym c.relation_of.ensures ∙ c.in-Some.is in
    rw (on_announced a.f a.«record».now a.parts known c.in-1.is, ← c.part_of-announced.ensures) c.some_prefix-in-1.ensures

pub returns-in-2 : goal.returns-in-2
returns-in-2 c =
    let a = c.args in
    let known = sym c.relation_of.ensures ∙ c.in-Some.is in
    rw (on_withdrawn a.f a.«record».now a.parts known c.in-2.is, ← c.part_of-withdrawn.ensures) c.some_prefix-in-2.ensures
