-- The kinds of a program's records, by the paper's numbers and, for 13, request 1's, and the class of each.
use Rattle.std.specs.Prelude.{ℕ, eqb, Option, None, Some}
use Rattle.octets.specs.Choice.{pick, onward}
use Rattle.program.specs.declared.Kind.{Kind}
use Rattle.program.specs.declared.Kind.TheVariants as kind
use Rattle.program.specs.declared.Class.{Class}
use Rattle.program.specs.declared.Class.TheVariants.{Test, Item, Flip, Pass}
use Rattle.program.specs.Readings.{Operator, and, or}
use Rattle.program.specs.Records.{Record, head, item, flip, pass}

abbrev pub type_kind : ℕ
type_kind = 1

abbrev pub attribute_kind : ℕ
attribute_kind = 2

abbrev pub path_kind : ℕ
path_kind = 3

abbrev pub item_kind : ℕ
item_kind = 4

abbrev pub peer_kind : ℕ
peer_kind = 5

abbrev pub loops_kind : ℕ
loops_kind = 6

abbrev pub bogon_kind : ℕ
bogon_kind = 7

abbrev pub network_kind : ℕ
network_kind = 8

abbrev pub time_kind : ℕ
time_kind = 9

abbrev pub flip_kind : ℕ
flip_kind = 10

abbrev pub and_kind : ℕ
and_kind = 11

abbrev pub or_kind : ℕ
or_kind = 12

abbrev pub communities_kind : ℕ
communities_kind = 13

abbrev pub operator_kind : Operator → ℕ
operator_kind and = and_kind
operator_kind or = or_kind

-- a record is a test, an item, a flip or a pass
abbrev pub class_of : Record → Class
class_of (head h) = Test
class_of (item i) = Item
class_of flip = Flip
class_of (pass o count) = Pass

-- ---- what the code computes

-- the kind that a number stands for, if it is one
unfoldable pub kind_is : ℕ → Option Kind
kind_is k =
    pick (eqb k type_kind) (Some kind.MessageType)
    (pick (eqb k attribute_kind) (Some kind.Attribute)
    (pick (eqb k path_kind) (Some kind.Path)
    (pick (eqb k item_kind) (Some kind.Item)
    (pick (eqb k peer_kind) (Some kind.Peer)
    (pick (eqb k loops_kind) (Some kind.Loops)
    (pick (eqb k bogon_kind) (Some kind.Bogon)
    (pick (eqb k network_kind) (Some kind.Network)
    (pick (eqb k time_kind) (Some kind.Time)
    (pick (eqb k flip_kind) (Some kind.Flip)
    (pick (eqb k and_kind) (Some kind.And)
    (pick (eqb k or_kind) (Some kind.Or)
    (pick (eqb k communities_kind) (Some kind.Communities) None))))))))))))

-- the class of a kind
abbrev pub class_by : Kind → Class
class_by kind.MessageType = Test
class_by kind.Attribute = Test
class_by kind.Path = Test
class_by kind.Item = Item
class_by kind.Peer = Test
class_by kind.Loops = Test
class_by kind.Bogon = Test
class_by kind.Network = Test
class_by kind.Time = Test
class_by kind.Flip = Flip
class_by kind.And = Pass
class_by kind.Or = Pass
class_by kind.Communities = Test

-- the class of the kind that a number stands for
unfoldable pub class_is : ℕ → Option Class
class_is k = onward (kind_is k) (λ x. Some (class_by x))
