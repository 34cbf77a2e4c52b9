-- `operand::list_of` meets its contract, by the name. Assumes nothing.
use Prim.Native.Nat.{ℕ}
use mathlib.Core.Path.{◌≡◌, refl, sym, ap, ◌∙◌}
use Rattle.std.specs.Prelude.{Option, None, Some}
use mathlib.Core.List.{List, [], map}
use Rattle.octets.specs.Choice.{onward}
use Rattle.program.specs.Readings.{Test, type_is, has_attribute, peer_is, network_is, time_is}
use Rattle.program.specs.Records.{item}
use Rattle.program.specs.Compiling.{items_of}
use Rattle.names.specs.Names.{type_names, attribute_names}
use Rattle.operand.specs.Codes.{coded}
use Rattle.operand.specs.Addresses.{network_operand}
use Rattle.operand.specs.Peers.{peer_operand}
use Rattle.operand.specs.Times.{time_operand}
use Rattle.operand.specs.Tests.{meaning, following_meant}
use Rattle.operand.specs.declared.Name.{Name}
use Rattle.operand.specs.declared.Name.TheVariants.{MessageType as type_name, Attribute as attribute_name, Path as path_name, Peer as peer_name, Time as time_name, Network as network_name, Communities as communities_name}
use Rattle.operand.proofs.MeantFollows.{none_follow}
use Rattle.operand.proofs.PatternMeant.{items_follow}
use Rattle.operand.proofs.CommunitiesMeant.{communities_follow}
use Rattle.operand.proofs.list_of.Goals as goal

-- a test with no items
bare : {A : Type 0} (o : Option A) (f : A → Test) → ((a : A) → items_of (f a) ≡ []) → following_meant (onward o (λ a. Some (f a))) ≡ []
bare None f e = refl
bare (Some a) f e = ap (map item) (e a)

-- only a path and communities have any
others_bare : (k : Name) → (k ≡ path_name → ⊥) → (k ≡ communities_name → ⊥) → (v : List ℕ) → following_meant (meaning k v) ≡ []
unfolding meaning items_of
others_bare type_name p q v = bare (coded type_names v) type_is (λ c. refl)
others_bare attribute_name p q v = bare (coded attribute_names v) has_attribute (λ c. refl)
others_bare path_name p q v = absurd (p refl)
others_bare peer_name p q v = bare (peer_operand v) peer_is (λ a. refl)
others_bare time_name p q v = bare (time_operand v) (λ t. time_is t.comparison t.seconds t.micros) (λ t. refl)
others_bare communities_name p q v = absurd (q refl)
others_bare (network_name r) p q v = bare (network_operand v) (λ n. network_is r n.network n.side) (λ n. refl)

pub returns-in_err-pattern-in-Path : goal.returns-in_err-pattern-in-Path
returns-in_err-pattern-in-Path c = let a = c.args in
    rw (c.from_residual.ensures, c.in-Path.is) (sym (none_follow (meaning path_name a.bytes.now) (sym c.in_err-pattern-in-Path.was ∙ c.pattern.ensures)))

pub returns-in_ok-pattern-in-Path : goal.returns-in_ok-pattern-in-Path
returns-in_ok-pattern-in-Path c =
    rw c.in-Path.is (items_follow c.args.bytes.now c.opened.ensures.left (sym c.in_ok-pattern-in-Path.was ∙ c.pattern.ensures))

pub returns-in_err-communities_operand-in-Communities : goal.returns-in_err-communities_operand-in-Communities
returns-in_err-communities_operand-in-Communities c = let a = c.args in
    rw (c.from_residual-in_err-communities_operand-in-Communities.ensures, c.in-Communities.is)
    (sym (none_follow (meaning communities_name a.bytes.now) (sym c.in_err-communities_operand-in-Communities.was ∙ c.communities_operand.ensures)))

pub returns-in_ok-communities_operand-in-Communities : goal.returns-in_ok-communities_operand-in-Communities
returns-in_ok-communities_operand-in-Communities c =
    rw c.in-Communities.is
    (communities_follow c.args.bytes.now (sym c.in_ok-communities_operand-in-Communities.was ∙ c.communities_operand.ensures))

pub returns-in_default : goal.returns-in_default
returns-in_default c = sym (others_bare c.args.name c.in_default.not-Path c.in_default.not-Communities c.args.bytes.now)
