-- `truth::holds` meets its contract, by the kind of the record read. Assumes nothing.
use mathlib.Core.Path.{sym, ap, ◌∙◌}
use Rattle.std.specs.Prelude.{Some}
use Rattle.program.specs.declared.Kind.TheVariants.{MessageType, Attribute, Peer, Network, Time, Communities}
use Rattle.program.proofs.KindLaws.{kind_number, other_kind}
use Rattle.truth.proofs.TruthReads.{unknown_true, type_true, peer_true, time_true, other_true, network_true, attribute_true, communities_true, path_true}
use Rattle.truth.proofs.holds.Goals as goal

pub returns-in_default : goal.returns-in_default
returns-in_default c = sym (unknown_true _ _ _ _ c.fields_at-f.ensures (sym c.kind_of.ensures ∙ c.in_default.is))

pub returns-in-MessageType : goal.returns-in-MessageType
returns-in-MessageType c = sym (type_true _ _ _ _ c.fields_at-f.ensures (kind_number (sym c.kind_of.ensures ∙ c.in-Some.is ∙ ap Some c.in-MessageType.is)))

pub returns-in-Peer : goal.returns-in-Peer
returns-in-Peer c = c.same_peer.ensures ∙ sym (peer_true _ _ _ _ c.fields_at-f.ensures (kind_number (sym c.kind_of.ensures ∙ c.in-Some.is ∙ ap Some c.in-Peer.is)))

pub returns-in-Time : goal.returns-in-Time
returns-in-Time c = c.in_time.ensures ∙ sym (time_true _ _ _ _ c.fields_at-f.ensures (kind_number (sym c.kind_of.ensures ∙ c.in-Some.is ∙ ap Some c.in-Time.is)))

pub returns-then-parts-ne-UPDATE : goal.returns-then-parts-ne-UPDATE
returns-then-parts-ne-UPDATE c =
    let said = sym c.kind_of.ensures ∙ c.in-Some.is in
    let n = c.in_default-kind in
    sym (other_true _ _ _ _ c.fields_at-f.ensures (other_kind said MessageType n.not-MessageType) (other_kind said Peer n.not-Peer)
    (other_kind said Time n.not-Time) c.if-parts-ne-UPDATE.true)

pub returns-in-Network : goal.returns-in-Network
returns-in-Network c = c.has_prefix.ensures ∙ sym (network_true _ _ _ _ c.fields_at-f.ensures c.if-parts-ne-UPDATE.false (kind_number (sym c.kind_of.ensures ∙ c.in-Some.is ∙ ap Some c.in-Network.is)))

pub returns-in-Attribute : goal.returns-in-Attribute
returns-in-Attribute c = c.has_code.ensures
    ∙ sym (rw c.part_of-section.ensures (attribute_true _ _ _ _ c.fields_at-f.ensures c.if-parts-ne-UPDATE.false (kind_number (sym c.kind_of.ensures ∙ c.in-Some.is ∙ ap Some c.in-Attribute.is))))

pub has_communities-requires : goal.has_communities-requires
has_communities-requires c = kind_number (sym c.kind_of.ensures ∙ c.in-Some.is ∙ ap Some c.in-Communities.is)

pub returns-in-Communities : goal.returns-in-Communities
returns-in-Communities c =
    let a = c.args in
    let e = communities_true a.«record».now a.parts a.program.now a.at c.fields_at-f.ensures c.if-parts-ne-UPDATE.false (kind_number (sym c.kind_of.ensures ∙ c.in-Some.is ∙ ap Some c.in-Communities.is)) in
    rw (e, ← c.rest.ensures, ← c.rest-behind.ensures, ← c.part_of-section.ensures) c.has_communities.ensures

pub returns-in_default-kind-2 : goal.returns-in_default-kind-2
returns-in_default-kind-2 c =
    let a = c.args in
    let said = sym c.kind_of.ensures ∙ c.in-Some.is in
    let n = c.in_default-kind in
    let m = c.in_default-kind-2 in
    let e = path_true a.«record».now a.parts a.program.now a.at c.fields_at-f.ensures c.if-parts-ne-UPDATE.false
    (other_kind said MessageType n.not-MessageType) (other_kind said Attribute m.not-Attribute) (other_kind said Peer n.not-Peer)
    (other_kind said Network m.not-Network) (other_kind said Time n.not-Time) (other_kind said Communities m.not-Communities) in
    rw (e, ← c.rest.ensures, ← c.rest-behind.ensures, ← c.part_of-section.ensures) c.true_of_section.ensures
