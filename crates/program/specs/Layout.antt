-- The bytes of a record: kind, variant, count (2 bytes), A, B (4 bytes each), 4 zero bytes. Big-endian, unused fields zero.
use Rattle.std.specs.Prelude.{ℕ, zero, suc, ◌+◌, Bool, true, List, [], ◌∷◌, ◌++◌, length, drop, eqb, leb, ltb, Option, None, Some}
use Rattle.octets.specs.Choice.{pick, onward}
use Rattle.octets.specs.Numbers.{number_at, bytes_of}
use Rattle.network.specs.Networks.{address_bits, Network}
use Rattle.network.specs.declared.Relation.{Relation}
use Rattle.network.specs.declared.Relation.TheVariants.{Exact, Supernet, Subnet, Related}
use Rattle.aspath.specs.declared.Item.{Item}
use Rattle.aspath.specs.declared.Item.TheVariants.{Number, Other, Any}
use Rattle.program.specs.declared.Fields.{Fields}
use Rattle.program.specs.Readings.{Peer, by_as, by_address, by_both, Side, either_side, announced, withdrawn}
use Rattle.program.specs.Readings.{Comparison, equal, below, at_most, above, at_least, and, or}
use Rattle.program.specs.Records.{Head, type, attribute, path, peer, loops, bogon, network, time, communities}
use Rattle.program.specs.Records.{Record, head, item, flip, pass}
use Rattle.program.specs.Kinds.{type_kind, attribute_kind, path_kind, item_kind, peer_kind, loops_kind, bogon_kind, network_kind, time_kind}
use Rattle.program.specs.Kinds.{flip_kind, and_kind, or_kind, communities_kind, operator_kind}

abbrev pub record_size : ℕ
record_size = 16

-- the fields of a record
abbrev pub fields : ℕ → ℕ → ℕ → ℕ → ℕ → Fields
fields kind variant count a b = record { kind = kind; variant = variant; count = count; a = a; b = b }

-- variant 1 for `^` plus 2 for `$`
abbrev pub ends_code : Bool → Bool → ℕ
ends_code start end = pick start 1 0 + pick end 2 0

abbrev pub relation_code : Relation → ℕ
relation_code Exact = 0
relation_code Supernet = 1
relation_code Subnet = 2
relation_code Related = 3

abbrev pub side_code : Side → ℕ
side_code either_side = 0
side_code announced = 1
side_code withdrawn = 2

abbrev pub comparison_code : Comparison → ℕ
comparison_code equal = 0
comparison_code below = 1
comparison_code at_most = 2
comparison_code above = 3
comparison_code at_least = 4

-- the paper's table of kinds, with 13 of request 1

unfoldable pub head_fields : Head → Fields
head_fields (type c) = fields type_kind 0 0 c 0
head_fields (attribute c) = fields attribute_kind 0 0 c 0
head_fields (path start end count) = fields path_kind (ends_code start end) count 0 0
head_fields (peer (by_as n)) = fields peer_kind 1 0 0 n
head_fields (peer (by_address a)) = fields peer_kind 2 0 a 0
head_fields (peer (by_both a n)) = fields peer_kind 3 0 a n
head_fields loops = fields loops_kind 0 0 0 0
head_fields bogon = fields bogon_kind 0 0 0 0
head_fields (network r n s) = fields network_kind (relation_code r) n.len n.address (side_code s)
head_fields (time c seconds micros) = fields time_kind (comparison_code c) 0 seconds micros
head_fields (communities count) = fields communities_kind 0 count 0 0

unfoldable pub item_fields : Item → Fields
item_fields (Number n) = fields item_kind 0 0 n 0
item_fields (Other n) = fields item_kind 1 0 n 0
item_fields Any = fields item_kind 2 0 0 0

unfoldable pub fields_of : Record → Fields
fields_of (head h) = head_fields h
fields_of (item i) = item_fields i
fields_of flip = fields flip_kind 0 0 0 0
fields_of (pass o count) = fields (operator_kind o) 0 count 0 0

-- the bytes of fields
unfoldable pub laid : Fields → List ℕ
laid f = bytes_of 1 f.kind ++ (bytes_of 1 f.variant ++ (bytes_of 2 f.count ++ (bytes_of 4 f.a ++ (bytes_of 4 f.b ++ (0 ∷ 0 ∷ 0 ∷ 0 ∷ [])))))

-- encoding
abbrev pub encode : Record → List ℕ
encode r = laid (fields_of r)

-- the bytes of records one after another
unfoldable pub encode_all : List Record → List ℕ
encode_all [] = []
encode_all (r ∷ more) = encode r ++ encode_all more

-- ---- decoding

-- the fields in the record at the front
unfoldable pub fields_in : List ℕ → Fields
fields_in l = fields (number_at l 0 1) (number_at l 1 1) (number_at l 2 2) (number_at l 4 4) (number_at l 8 4)

-- what each code says, if it is one

abbrev pub relation_is : ℕ → Option Relation
relation_is v = pick (eqb v 0) (Some Exact) (pick (eqb v 1) (Some Supernet) (pick (eqb v 2) (Some Subnet) (pick (eqb v 3) (Some Related) None)))

abbrev pub side_is : ℕ → Option Side
side_is b = pick (eqb b 0) (Some either_side) (pick (eqb b 1) (Some announced) (pick (eqb b 2) (Some withdrawn) None))

abbrev pub comparison_is : ℕ → Option Comparison
comparison_is v =
    pick (eqb v 0) (Some equal)
    (pick (eqb v 1) (Some below) (pick (eqb v 2) (Some at_most) (pick (eqb v 3) (Some above) (pick (eqb v 4) (Some at_least) None))))

abbrev pub item_is : ℕ → ℕ → Option Item
item_is v a = pick (eqb v 0) (Some (Number a)) (pick (eqb v 1) (Some (Other a)) (pick (eqb v 2) (Some Any) None))

abbrev pub peer_is : ℕ → ℕ → ℕ → Option Peer
peer_is v a b = pick (eqb v 1) (Some (by_as b)) (pick (eqb v 2) (Some (by_address a)) (pick (eqb v 3) (Some (by_both a b)) None))

-- variants 1 and 3 have `^`, 2 and 3 `$`
abbrev pub is_start : ℕ → Bool
is_start v = pick (eqb v 1) true (eqb v 3)

abbrev pub is_end : ℕ → Bool
is_end v = leb 2 v

abbrev pub path_is : ℕ → ℕ → Option Head
path_is v count = pick (leb v 3) (Some (path (is_start v) (is_end v) count)) None

-- the network of a network record
abbrev pub operand_of : Fields → Network
operand_of f = record { bits = address_bits; address = f.a; len = f.count }

abbrev pub network_said : Option Relation → Network → Option Side → Option Head
network_said r n s = onward r (λ x. onward s (λ y. Some (network x n y)))

-- the record that fields say, if their kind and variant are any, whatever stands in those that it leaves unused
unfoldable pub record_is : Fields → Option Record
record_is f =
    pick (eqb f.kind type_kind) (Some (head (type f.a)))
    (pick (eqb f.kind attribute_kind) (Some (head (attribute f.a)))
    (pick (eqb f.kind path_kind) (onward (path_is f.variant f.count) (λ h. Some (head h)))
    (pick (eqb f.kind item_kind) (onward (item_is f.variant f.a) (λ i. Some (item i)))
    (pick (eqb f.kind peer_kind) (onward (peer_is f.variant f.a f.b) (λ p. Some (head (peer p))))
    (pick (eqb f.kind loops_kind) (Some (head loops))
    (pick (eqb f.kind bogon_kind) (Some (head bogon))
    (pick (eqb f.kind network_kind) (onward (network_said (relation_is f.variant) (operand_of f) (side_is f.b)) (λ h. Some (head h)))
    (pick (eqb f.kind time_kind) (onward (comparison_is f.variant) (λ c. Some (head (time c f.a f.b))))
    (pick (eqb f.kind flip_kind) (Some flip)
    (pick (eqb f.kind and_kind) (Some (pass and f.count))
    (pick (eqb f.kind or_kind) (Some (pass or f.count))
    (pick (eqb f.kind communities_kind) (Some (head (communities f.count))) None))))))))))))

-- the record at the front of bytes, if one stands there
abbrev pub decode : List ℕ → Option Record
decode l = record_is (fields_in l)

-- a record, and those after it
abbrev pub on_record : {A : Type 0} → Option Record → (Record → A) → A → A
on_record None next end = end
on_record (Some r) next end = next r

-- the records at the front of bytes, up to the end or to the first that is none; f bounds these
unfoldable pub records_up_to : ℕ → List ℕ → List Record
records_up_to zero l = []
records_up_to (suc f) l =
    pick (ltb (length l) record_size) [] (on_record (decode l) (λ r. r ∷ records_up_to f (drop record_size l)) [])

-- the records of a program
abbrev pub records_in : List ℕ → List Record
records_in program = records_up_to (length program) program
