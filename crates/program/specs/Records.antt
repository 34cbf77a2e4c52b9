-- The records of a program: what each says.
use Rattle.std.specs.Prelude.{ℕ, ◌+◌, ◌≤◌, ◌<◌, ◌^◌, ◌≡◌, Bool, false, List, map, length}
use Rattle.octets.specs.Lists.{Every}
use Rattle.network.specs.declared.Relation.{Relation}
use Rattle.network.specs.Networks.{address_bits, Network, masked}
use Rattle.aspath.specs.declared.Item.{Item}
use Rattle.aspath.specs.declared.Item.TheVariants.{Number, Other, Any}
use Rattle.program.specs.Readings.{Peer, by_as, by_address, by_both, Side, Comparison, Operator}

-- a head: the record of a test
pub data Head : Type 0 where
  type : ℕ → Head
  attribute : ℕ → Head
  -- whether `^` and `$` stand, and the count of the items that follow
  path : Bool → Bool → ℕ → Head
  peer : Peer → Head
  loops : Head
  bogon : Head
  network : Relation → Network → Side → Head
  time : Comparison → ℕ → ℕ → Head
  -- the count of the communities that follow
  communities : ℕ → Head

pub data Record : Type 0 where
  head : Head → Record
  -- an item (the paper's term) of a test
  item : Item → Record
  flip : Record
  -- a pass (the paper's term): over that many records, if the flag is false (`-and`) or true (`-or`)
  pass : Operator → ℕ → Record

-- the most records of a program, and so the largest weight
abbrev pub weight_limit : ℕ
weight_limit = 512

-- a second in microseconds
abbrev pub second : ℕ
second = 1000000

-- a code is one byte
abbrev pub code_limit : ℕ
code_limit = 256

-- a number of 32 bits
pub record Bits32 (n : ℕ) : Type 0 where
  pub below : n < 2 ^ 32

pub record Code (n : ℕ) : Type 0 where
  pub below : n < code_limit

abbrev pub ItemPossible : Item → Type 0
ItemPossible (Number n) = Bits32 n
ItemPossible (Other n) = Bits32 n
ItemPossible Any = Unit {0}

abbrev pub PeerPossible : Peer → Type 0
PeerPossible (by_as n) = Bits32 n
PeerPossible (by_address a) = Bits32 a
PeerPossible (by_both a n) = Bits32 a × Bits32 n

-- an IPv4 network, the bits past its length clear
pub record NetworkPossible (n : Network) : Type 0 where
  pub sized : n.len ≤ address_bits
  pub word : Bits32 n.address
  pub clear : n ≡ masked address_bits n.address n.len

-- a path of no items has `^` or `$`
pub record PathPossible (start end : Bool) (count : ℕ) : Type 0 where
  pub few : count < weight_limit
  pub some : start ≡ false → end ≡ false → count ≡ 0 → ⊥

-- communities are one or more (request 1)
pub record CommunitiesPossible (count : ℕ) : Type 0 where
  pub some : 1 ≤ count
  pub few : count < weight_limit

-- a time's microseconds are below a million
pub record TimePossible (seconds micros : ℕ) : Type 0 where
  pub word : Bits32 seconds
  pub fraction : micros < second

-- a pass goes over one record or more, and leaves room for itself and for what it decides on
pub record PassPossible (count : ℕ) : Type 0 where
  pub some : 1 ≤ count
  pub few : 2 + count ≤ weight_limit

-- a test's record that compiling some text could give
abbrev pub PossibleHead : Head → Type 0
PossibleHead (type c) = Code c
PossibleHead (attribute c) = Code c
PossibleHead (path start end count) = PathPossible start end count
PossibleHead (peer p) = PeerPossible p
PossibleHead loops = Unit {0}
PossibleHead bogon = Unit {0}
PossibleHead (network r n s) = NetworkPossible n
PossibleHead (time c seconds micros) = TimePossible seconds micros
PossibleHead (communities count) = CommunitiesPossible count

-- a record that compiling some text could give
abbrev pub Possible : Record → Type 0
Possible (head h) = PossibleHead h
Possible (item i) = ItemPossible i
Possible flip = Unit {0}
Possible (pass o count) = PassPossible count

-- the records that follow a head
unfoldable pub count_of : Head → ℕ
count_of (type c) = 0
count_of (attribute c) = 0
count_of (path start end count) = count
count_of (peer p) = 0
count_of loops = 0
count_of bogon = 0
count_of (network r n s) = 0
count_of (time c s m) = 0
count_of (communities count) = count

-- the items that may follow a head: a path's are any, communities are numbers (request 1)
pub data MayFollow : Head → Item → Type 0 where
  in_path : {start end : Bool} {count : ℕ} {i : Item} → MayFollow (path start end count) i
  in_communities : {count n : ℕ} → MayFollow (communities count) (Number n)

-- what may follow a head: such items, as many as its count
pub record Follows (h : Head) (following : List Record) : Type 0 where
  pub items : List Item
  pub are : following ≡ map item items
  pub counted : length items ≡ count_of h
  pub each : Every (MayFollow h) items
