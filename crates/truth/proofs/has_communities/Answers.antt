-- `truth::has_communities` meets its contract, by what is found and what follows. Assumes nothing.
use mathlib.Core.Path.{◌≡◌, refl, sym, ◌∙◌}
use Rattle.std.specs.Prelude.{Some}
use Rattle.octets.specs.Parts.{part_at}
use Rattle.aspath.specs.Wire.{width_bytes}
use Rattle.communities.specs.Communities.{communities_of}
use Rattle.attributes.specs.Attribute.{first_of, ask_communities}
use Rattle.attributes.specs.Bodies.{attributes_of}
use Rattle.attributes.proofs.Lookup.{asks_communities, first_found}
use Rattle.truth.proofs.ItemReads.{communities_stand}
use Rattle.truth.proofs.has_communities.Goals as goal

pub returns-in_default : goal.returns-in_default
returns-in_default c = let a = c.args in
    rw (first_found (asks_communities (width_bytes a.width)) a.section.now, sym c.find.ensures ∙ c.in_default.is) refl

pub returns-then-not-follows : goal.returns-then-not-follows
returns-then-not-follows c = let a = c.args in
    let held : first_of ask_communities (attributes_of (width_bytes a.width) a.section.now)
    ≡ Some (communities_of (part_at a.section.now c.in-Some.held.start c.in-Some.held.len))
    = first_found (asks_communities (width_bytes a.width)) a.section.now ∙ rw (sym c.find.ensures ∙ c.in-Some.is) refl in
    rw (held, sym c.follows.ensures ∙ c.if-not-follows.true) refl

pub holds_each-requires : goal.holds_each-requires
holds_each-requires c = let a = c.args in
    rw c.following.ensures (sym (communities_stand a.f a.behind.now c.requires) ∙ sym c.follows.ensures ∙ c.if-not-follows.false)

pub returns : goal.returns
returns c = let a = c.args in
    let held : first_of ask_communities (attributes_of (width_bytes a.width) a.section.now)
    ≡ Some (communities_of (part_at a.section.now c.in-Some.held.start c.in-Some.held.len))
    = first_found (asks_communities (width_bytes a.width)) a.section.now ∙ rw (sym c.find.ensures ∙ c.in-Some.is) refl in
    rw (held, sym c.follows.ensures ∙ c.if-not-follows.false, ← c.following.ensures, ← c.part.ensures) c.holds_each.ensures
