-- Valid programs as the code decides it, of the record at the front and of records one after another.
use Rattle.std.specs.Borrow.{Bor}
use Rattle.std.specs.Prelude.{ℕ, zero, suc, ◌≡◌, ◌+◌, ◌-◌, ◌*◌, ◌/◌, ◌%◌, Bool, true, false, not, Option, None, Some, List, length, get_or, drop, eqb, leb, ltb}
use Rattle.octets.specs.Choice.{pick, both}
use Rattle.octets.specs.Numbers.{number_at}
use Rattle.octets.specs.Rows.{whole}
use Rattle.network.specs.Networks.{address_bits, cleared}
use Rattle.program.specs.declared.Fields.{Fields}
use Rattle.program.specs.declared.Kind.{Kind}
use Rattle.program.specs.declared.Kind.TheVariants as kind
use Rattle.program.specs.declared.Class.{Class}
use Rattle.program.specs.declared.Class.TheVariants.{Test, Item, Flip, Pass}
use Rattle.program.specs.Records.{weight_limit, second, code_limit}
use Rattle.program.specs.Kinds.{path_kind, item_kind, communities_kind, kind_is, class_is}
use Rattle.program.specs.Layout.{record_size, fields_in}

-- nothing stands in a field
abbrev pub unused : ℕ → Bool
unused n = eqb n 0

-- the fields of each kind are in their ranges, and those that it leaves unused are zero

abbrev pub right_code : Fields → Bool
right_code f = both (unused f.variant) (both (unused f.count) (both (ltb f.a code_limit) (unused f.b)))

abbrev pub right_path : Fields → Bool
right_path f =
    both (leb f.variant 3)
    (both (ltb f.count weight_limit)
    (both (unused f.a)
    (both (unused f.b) (not (eqb (f.variant + f.count) 0)))))

abbrev pub right_item : Fields → Bool
right_item f =
    both (leb f.variant 2)
    (both (unused f.count)
    (both (unused f.b) (pick (eqb f.variant 2) (unused f.a) true)))

abbrev pub right_peer : Fields → Bool
right_peer f =
    both (unused f.count)
    (pick (eqb f.variant 1) (unused f.a)
    (pick (eqb f.variant 2) (unused f.b) (eqb f.variant 3)))

abbrev pub right_network : Fields → Bool
right_network f =
    both (leb f.variant 3)
    (both (leb f.count address_bits)
    (both (leb f.b 2) (eqb (cleared address_bits f.count f.a) f.a)))

abbrev pub right_time : Fields → Bool
right_time f = both (leb f.variant 4) (both (unused f.count) (ltb f.b second))

abbrev pub right_bare : Fields → Bool
right_bare f = both (unused f.variant) (both (unused f.count) (both (unused f.a) (unused f.b)))

-- a count of one or more, up to the last that may stand
abbrev pub right_counted : ℕ → Fields → Bool
right_counted last f =
    both (unused f.variant)
    (both (leb 1 f.count)
    (both (leb f.count last)
    (both (unused f.a) (unused f.b))))

-- the communities leave room for the head
abbrev pub right_communities : Fields → Bool
right_communities = right_counted (weight_limit - 1)

-- a pass leaves room for itself and for what it decides on
abbrev pub right_pass : Fields → Bool
right_pass = right_counted (weight_limit - 2)

abbrev pub right_of : Option Kind → Fields → Bool
right_of None f = false
right_of (Some kind.MessageType) f = right_code f
right_of (Some kind.Attribute) f = right_code f
right_of (Some kind.Path) f = right_path f
right_of (Some kind.Item) f = right_item f
right_of (Some kind.Peer) f = right_peer f
right_of (Some kind.Loops) f = right_bare f
right_of (Some kind.Bogon) f = right_bare f
right_of (Some kind.Network) f = right_network f
right_of (Some kind.Time) f = right_time f
right_of (Some kind.Flip) f = right_bare f
right_of (Some kind.And) f = right_pass f
right_of (Some kind.Or) f = right_pass f
right_of (Some kind.Communities) f = right_communities f

unfoldable pub right_fields : Fields → Bool
right_fields f = right_of (kind_is f.kind) f

-- and so are the last four bytes
abbrev pub right_record : List ℕ → Bool
right_record l = both (right_fields (fields_in l)) (eqb (number_at l 12 4) 0)

-- each of so many records passes a test of the bytes from it on
unfoldable pub each_record : (List ℕ → Bool) → ℕ → List ℕ → Bool
each_record test zero l = true
each_record test (suc n) l = both (test l) (each_record test n (drop record_size l))

-- what a function of bytes answers is what a test says
abbrev pub Decides : (Bor (List ℕ) → Bool → Type 0) → (List ℕ → Bool) → Type 0
Decides answers test = (s : Bor (List ℕ)) (r : Bool) → answers s r → r ≡ test s.now

-- ---- classes

abbrev pub is_test_class : Option Class → Bool
is_test_class (Some Test) = true
is_test_class (Some Item) = false
is_test_class (Some Flip) = false
is_test_class (Some Pass) = false
is_test_class None = false

abbrev pub is_item_class : Option Class → Bool
is_item_class (Some Test) = false
is_item_class (Some Item) = true
is_item_class (Some Flip) = false
is_item_class (Some Pass) = false
is_item_class None = false

abbrev pub is_pass_class : Option Class → Bool
is_pass_class (Some Test) = false
is_pass_class (Some Item) = false
is_pass_class (Some Flip) = false
is_pass_class (Some Pass) = true
is_pass_class None = false

-- ---- what follows a test

-- the last variant of an item, and of one that is a number
abbrev pub last_variant : ℕ
last_variant = 2

abbrev pub number_variant : ℕ
number_variant = 0

-- an item of a variant up to the last that may stand
abbrev pub is_item : ℕ → Fields → Bool
is_item last f = both (eqb f.kind item_kind) (leb f.variant last)

-- one stands at the front
abbrev pub item_stands : ℕ → List ℕ → Bool
item_stands last l = both (leb record_size (length l)) (is_item last (fields_in l))

-- so many of them do
abbrev pub items_stand : ℕ → ℕ → List ℕ → Bool
items_stand last = each_record (item_stands last)

-- how many records follow a record
unfoldable pub following_in : Fields → ℕ
following_in f = pick (eqb f.kind path_kind) f.count (pick (eqb f.kind communities_kind) f.count 0)

-- the last variant of the items that may follow it: behind a path any item, behind communities a number
unfoldable pub last_item : Fields → ℕ
last_item f = pick (eqb f.kind communities_kind) number_variant last_variant

-- what may follow a record stands at the front
unfoldable pub follows_in : Fields → List ℕ → Bool
follows_in f l = items_stand (last_item f) (following_in f) l

-- the bytes of a record of a class with those that follow it, 0 where it or they can't stand there, or it has none
abbrev pub group_of : Option Class → Fields → List ℕ → ℕ
group_of (Some Test) f l = pick (follows_in f l) (record_size + record_size * following_in f) 0
group_of (Some Item) f l = 0
group_of (Some Flip) f l = record_size
group_of (Some Pass) f l = record_size
group_of None f l = 0

unfoldable pub group_size : List ℕ → ℕ
group_size l = pick (ltb (length l) record_size) 0 (group_of (class_is (fields_in l).kind) (fields_in l) (drop record_size l))

-- ---- where a pass lands

-- the place behind a pass and the records that it passes over
abbrev pub target : List ℕ → ℕ
target l = record_size + record_size * (fields_in l).count

-- the record at the front is no pass, or one that lands well
unfoldable pub lands_well : List ℕ → Bool
lands_well l =
    pick (is_pass_class (class_is (fields_in l).kind))
    (pick (ltb (length l) (target l)) false (not (is_item_class (class_is (get_or l (target l) 0)))))
    true

-- ---- the whole

unfoldable pub is_valid : List ℕ → Bool
is_valid program =
    both (leb record_size (length program))
    (both (leb (length program) (record_size * weight_limit))
    (both (eqb (length program % record_size) 0)
    (both (each_record right_record (length program / record_size) program)
    (both (is_test_class (class_is (get_or program 0 0)))
    (both (whole group_size program)
    (each_record lands_well (length program / record_size) program))))))
