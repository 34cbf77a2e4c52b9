-- What the functions below `holds` compute, from the fields of a record and the bytes behind it.
use Rattle.std.specs.Prelude.{ℕ, ◌+◌, ◌*◌, Bool, true, false, List, [], ◌∷◌, take, eqb, leb, Option, Some, None}
use Rattle.octets.specs.Choice.{pick, both, otherwise}
use Rattle.aspath.specs.declared.Item.{Item}
use Rattle.aspath.specs.declared.Cursor.{Cursor}
use Rattle.aspath.specs.declared.Members.{Members}
use Rattle.aspath.specs.Wire.{width_bytes}
use Rattle.aspath.specs.Members.{Member, member_of}
use Rattle.aspath.specs.Cursors.{next_at}
use Rattle.aspath.specs.Loops.{has_loop}
use Rattle.aspath.specs.Bogons.{some_bogon}
use Rattle.aspath.specs.Patterns.{Pattern, fits, matches}
use Rattle.communities.specs.Communities.{holds_all}
use Rattle.message.specs.Message.{Message}
use Rattle.program.specs.declared.Fields.{Fields}
use Rattle.program.specs.Records.{Record, second}
use Rattle.program.specs.Kinds.{path_kind, loops_kind, bogon_kind}
use Rattle.program.specs.Layout.{relation_is, side_is, comparison_is, peer_is, is_start, is_end, operand_of, records_in}
use Rattle.program.specs.Checks.{following_in, follows_in}
use Rattle.truth.specs.Means.{if_any, same_peer, some_prefix, prefixes_on, compares}
use Rattle.truth.specs.Records.{item_of, number_of, each_of}

-- ---- what the code computes

-- the tests of the peer, the time and the network, false where a variant or a side isn't one

abbrev pub peer_test : Fields → ℕ → ℕ → Bool
peer_test f address number = if_any (peer_is f.variant f.a f.b) (λ p. same_peer p address number)

abbrev pub time_test : Fields → ℕ → Bool
time_test f seconds = if_any (comparison_is f.variant) (λ c. compares c (seconds * second) (f.a * second + f.b))

abbrev pub network_test : Fields → Message → Bool
network_test f m = if_any (relation_is f.variant) (λ r. if_any (side_is f.b) (λ side. some_prefix r (operand_of f) (prefixes_on side m)))

-- what so many records at the front are as `one` reads them; none where it reads one of them as nothing
unfoldable pub each_in : {A : Type 0} → (Record → Option A) → ℕ → List ℕ → List A
each_in one count records = otherwise (each_of one (take count (records_in records))) []

-- as items, and as numbers
abbrev pub items_in : ℕ → List ℕ → List Item
items_in = each_in item_of

abbrev pub numbers_in : ℕ → List ℕ → List ℕ
numbers_in = each_in number_of

-- the same by cursors: what stands at one decides, a member with the cursor after it, or nothing more
abbrev pub on_next : Option (ℕ × Cursor) → (Member → Cursor → Bool) → Bool → Bool
on_next (Some x) member end = member (member_of x.0) x.1
on_next None member end = end

-- no member stands there
abbrev pub ends_at : Option (ℕ × Cursor) → Bool
ends_at n = on_next n (λ m after. false) true

-- the items match members from a cursor on; to the end where end is true
unfoldable pub matches_at : Bool → List Item → ℕ → List ℕ → Cursor → Bool
matches_at end [] w path c = pick end (ends_at (next_at w path c)) true
matches_at end (i ∷ is) w path c = on_next (next_at w path c) (λ m after. both (fits i m) (matches_at end is w path after)) false

-- the same from where the code's iterator stands
abbrev pub matches_from : Bool → List Item → Members → Bool
matches_from end is m = matches_at end is (width_bytes m.width) m.body.now m.place

-- the pattern of a path record and its items
abbrev pub pattern_of : Fields → List Item → Pattern
pattern_of f items = record { start = is_start f.variant; items = items; end = is_end f.variant }

-- a path's pattern matches: its variant is one, its items stand behind it, and they match
abbrev pub path_matches : Fields → List ℕ → List Member → Bool
path_matches f behind path = both (leb f.variant 3) (both (follows_in f behind) (matches (pattern_of f (items_in (following_in f) behind)) path))

-- a test of the path; a record of another kind is none
unfoldable pub path_test : Fields → List ℕ → List Member → Bool
path_test f behind path =
    pick (eqb f.kind path_kind) (path_matches f behind path)
    (pick (eqb f.kind loops_kind) (has_loop path)
    (pick (eqb f.kind bogon_kind) (some_bogon path) false))

-- every community that a record asks for is held: numbers stand behind it, and these are
abbrev pub communities_test : Fields → List ℕ → List ℕ → Bool
communities_test f behind held = both (follows_in f behind) (holds_all held (numbers_in (following_in f) behind))
