-- The truth of a test's record, from itself and the records that follow it.
use Rattle.std.specs.Prelude.{ℕ, ◌+◌, Bool, false, List, [], ◌∷◌, length, take, drop, eqb, Option, None, Some}
use Rattle.octets.specs.Choice.{both, onward}
use Rattle.aspath.specs.declared.Item.{Item}
use Rattle.aspath.specs.declared.Item.TheVariants.{Number, Other, Any}
use Rattle.message.specs.Message.{Message}
use Rattle.program.specs.Readings.{type_is, has_attribute, path_matches, peer_is, has_loop, has_bogon, network_is, time_is, has_communities}
use Rattle.program.specs.Records.{Head, type, attribute, path, peer, loops, bogon, network, time, communities}
use Rattle.program.specs.Records.{Record, head, item, flip, pass, count_of}
use Rattle.program.specs.Layout.{record_size, decode, records_in}
use Rattle.truth.specs.Means.{if_any, test_holds}

-- the item that a record is, if it is one
abbrev pub item_of : Record → Option Item
item_of (item i) = Some i
item_of (head h) = None
item_of flip = None
item_of (pass o count) = None

-- the number that an item is, if it is one
abbrev pub number_in : Item → Option ℕ
number_in (Number n) = Some n
number_in (Other n) = None
number_in Any = None

-- the number that a record is, if it is one
abbrev pub number_of : Record → Option ℕ
number_of r = onward (item_of r) number_in

-- what records are, if each is one
unfoldable pub each_of : {A : Type 0} → (Record → Option A) → List Record → Option (List A)
each_of one [] = Some []
each_of one (r ∷ rs) = onward (one r) (λ a. onward (each_of one rs) (λ xs. Some (a ∷ xs)))

-- a path is true if items follow it, as many as it counts, and the pattern of these is; communities are if numbers follow, as many as
-- counted, and the test of these is
unfoldable pub record_truth : Message → Head → List Record → Bool
record_truth m (type code) following = test_holds m (type_is code)
record_truth m (attribute code) following = test_holds m (has_attribute code)
record_truth m (path start end count) following =
    if_any (each_of item_of following)
    (λ items. both (eqb (length items) count) (test_holds m (path_matches (record { start = start; items = items; end = end }))))
record_truth m (peer p) following = test_holds m (peer_is p)
record_truth m loops following = test_holds m has_loop
record_truth m bogon following = test_holds m has_bogon
record_truth m (network r n s) following = test_holds m (network_is r n s)
record_truth m (time c seconds micros) following = test_holds m (time_is c seconds micros)
record_truth m (communities count) following =
    if_any (each_of number_of following) (λ asked. both (eqb (length asked) count) (test_holds m (has_communities asked)))

-- ---- what the code computes

-- a record's truth, with those of its count after it; one that is no test, and bytes that are no record, are false
abbrev pub truth_of : Message → Option Record → List Record → Bool
truth_of m (Some (head h)) after = record_truth m h (take (count_of h) after)
truth_of m (Some (item i)) after = false
truth_of m (Some flip) after = false
truth_of m (Some (pass o count)) after = false
truth_of m None after = false

-- the truth of the record at a place of a program
unfoldable pub truth_at : Message → List ℕ → ℕ → Bool
truth_at m program at = truth_of m (decode (drop at program)) (records_in (drop (at + record_size) program))
