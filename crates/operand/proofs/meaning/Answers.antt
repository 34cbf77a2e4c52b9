-- `operand::meaning` meets its contract, by the name. Assumes nothing.
use Prim.Native.Nat.{ℕ}
use borrow.Author.Tests.{lt-ltb, le-ltb}
use mathlib.Core.Path.{◌≡◌, refl}
use Rattle.std.specs.Prelude.{Option, None, Some}
use lib.ListN.{length}
use Rattle.token.specs.Texts.{text_limit}
use Rattle.program.specs.Readings.{type_is, has_attribute}
use Rattle.program.specs.Kinds.{type_kind, attribute_kind}
use Rattle.program.specs.Layout.{head_fields}
use Rattle.program.specs.Compiling.{head_of, items_of}
use Rattle.octets.specs.Choice.{onward}
use Rattle.names.specs.Names.{type_names, attribute_names}
use Rattle.operand.specs.Codes.{coded}
use Rattle.operand.specs.Tests.{meaning, meant_of, operand_meaning, code_meant}
use Rattle.operand.proofs.meaning.Goals as goal

-- a code of one kind is a message type
type_record : (o : Option ℕ) → code_meant type_kind o ≡ meant_of (onward o (λ c. Some (type_is c)))
unfolding head_fields head_of items_of
type_record None = refl
type_record (Some c) = refl

-- and of another an attribute
attribute_record : (o : Option ℕ) → code_meant attribute_kind o ≡ meant_of (onward o (λ c. Some (has_attribute c)))
unfolding head_fields head_of items_of
attribute_record None = refl
attribute_record (Some c) = refl

pub returns-then-bytes-gt-TEXT_LIMIT : goal.returns-then-bytes-gt-TEXT_LIMIT
unfolding operand_meaning
returns-then-bytes-gt-TEXT_LIMIT c = rw (lt-ltb text_limit (length c.args.bytes.now) c.if-bytes-gt-TEXT_LIMIT.true)

pub returns-in-MessageType : goal.returns-in-MessageType
unfolding operand_meaning meaning coded head_fields head_of items_of
returns-in-MessageType c = let s = c.args.bytes.now in
    rw (le-ltb text_limit (length s) c.if-bytes-gt-TEXT_LIMIT.false, c.in-MessageType.is, c.code_record.ensures, c.type_named.ensures)
    (type_record (coded type_names s))

pub returns-in-Attribute : goal.returns-in-Attribute
unfolding operand_meaning meaning coded head_fields head_of items_of
returns-in-Attribute c = let s = c.args.bytes.now in
    rw (
      le-ltb text_limit (length s) c.if-bytes-gt-TEXT_LIMIT.false,
      c.in-Attribute.is,
      c.code_record-in-Attribute.ensures,
      c.attribute_named.ensures,
    ) (attribute_record (coded attribute_names s))

pub returns-in-Path : goal.returns-in-Path
unfolding operand_meaning
returns-in-Path c = rw (le-ltb text_limit (length c.args.bytes.now) c.if-bytes-gt-TEXT_LIMIT.false, c.in-Path.is) c.pattern.ensures

pub returns-in-Peer : goal.returns-in-Peer
unfolding operand_meaning
returns-in-Peer c = rw (le-ltb text_limit (length c.args.bytes.now) c.if-bytes-gt-TEXT_LIMIT.false, c.in-Peer.is) c.peer.ensures

pub returns-in-Time : goal.returns-in-Time
unfolding operand_meaning
returns-in-Time c = rw (le-ltb text_limit (length c.args.bytes.now) c.if-bytes-gt-TEXT_LIMIT.false, c.in-Time.is) c.time.ensures

pub returns-in-Network : goal.returns-in-Network
unfolding operand_meaning
returns-in-Network c = rw (le-ltb text_limit (length c.args.bytes.now) c.if-bytes-gt-TEXT_LIMIT.false, c.in-Network.is) c.network_operand.ensures

pub returns-in-Communities : goal.returns-in-Communities
unfolding operand_meaning
returns-in-Communities c =
    rw (le-ltb text_limit (length c.args.bytes.now) c.if-bytes-gt-TEXT_LIMIT.false, c.in-Communities.is) c.communities_operand.ensures
