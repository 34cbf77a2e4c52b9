-- What is meant is possible: codes, addresses, items, times and communities are within their bounds. Assumes nothing.
use Prim.Native.Nat.{ℕ, suc, ◌+◌, ◌*◌, ◌-◌, ◌^◌, ◌≤◌, ◌<◌}
use native.Mathlib.Nat.{mul-le-mul_right, mul_assoc, pow-succ'}
use native.Mathlib.Omega.{arith}
use mathlib.Core.Path.{◌≡◌, refl, sym, ap}
use mathlib.Core.Bool.{Bool, true}
use mathlib.Core.List.{List, [], ◌∷◌}
use lib.Dec.{ltb}
use lib.ListN.{length}
use borrow.Author.Tests.{ltb-true}
use Rattle.octets.specs.Lists.{every_passes}
use Rattle.octets.proofs.Ranges.{within}
use Rattle.network.specs.Networks.{address_bits, Network}
use Rattle.network.proofs.Clearing.{cleared_le, cleared_again}
use Rattle.aspath.specs.declared.Item.{Item}
use Rattle.aspath.specs.Patterns.{Pattern}
use Rattle.program.specs.Readings.{Peer, Side, Comparison, Test}
use Rattle.program.specs.Records.{Code, Bits32, ItemPossible, PeerPossible, NetworkPossible, TimePossible}
use Rattle.program.proofs.ReadingValid.{PatternPossible, PossibleTest}
use Rattle.operand.specs.Decimals.{byte_limit, word_limit, Digits, end, more}
use Rattle.names.specs.Tables.{Row, In}
use Rattle.names.specs.Names.{type_names, attribute_names}
use Rattle.communities.specs.Names.{community_names}
use Rattle.operand.specs.Codes.{CodeOperand, by_name, by_code}
use Rattle.operand.specs.Addresses.{Address, NetworkText, NetworkOperand, plain, plus, minus}
use Rattle.operand.specs.Peers.{PeerOperand, as_only, address_only, address_and_as}
use Rattle.operand.specs.Patterns.{ItemText, a_number, not_it, any, PatternOperand}
use Rattle.operand.specs.Communities.{CommunityText, halves, by_name as named}
use Rattle.operand.specs.Times.{fraction_digits, FractionText, whole, fraction, TimeOperand}
use Rattle.operand.specs.declared.Name.{Name}
use Rattle.operand.proofs.AsNumberLaws.{as_below}
use Rattle.operand.proofs.NameTables.{row_passes}
use Rattle.operand.proofs.PartedLaws.{every_parted}
use Rattle.operand.specs.Tests.{StandsFor, type, attribute, path, peer, network, time, communities}

-- ---- codes

-- the codes of a table are below a limit
abbrev small : ℕ → List (Row ℕ) → Bool
small limit names = every_passes (λ (r : Row ℕ). ltb r.value limit) names

-- so is the code of each name
small_in : (limit : ℕ) {names : List (Row ℕ)} {w : List ℕ} {c : ℕ} → small limit names ≡ true → In names w c → c < limit
small_in limit {c = c} t x = ltb-true c limit (row_passes (λ w c. ltb c limit) t x)

-- a code is a byte
code_possible : {names : List (Row ℕ)} {l : List ℕ} {c : ℕ} → small byte_limit names ≡ true → CodeOperand names l c → Code c
code_possible t (by_name x) = record { below = small_in byte_limit t x }
code_possible t (by_code b) = record { below = b.below }

-- the codes of message types are
types_small : small byte_limit type_names ≡ true
unfolding every_passes type_names
types_small = refl

-- and those of attributes
attributes_small : small byte_limit attribute_names ≡ true
unfolding every_passes attribute_names
attributes_small = refl

-- ---- addresses, networks, peers

-- an address has 32 bits
address_word : {l : List ℕ} {a : ℕ} → Address l a → Bits32 a
address_word x = record { below = omega (arith, x.a_is.below, x.b_is.below, x.c_is.below, x.d_is.below, x.value) }

-- a network has at most 32 bits, those past its length clear
network_possible : {l : List ℕ} {n : Network} → NetworkText l n → NetworkPossible n
network_possible x =
    rw x.value (record {
      sized = omega (arith, x.len_is.below);
      word = record { below = omega (arith, cleared_le address_bits x.len x.address, (address_word x.address_is).below) };
      clear = ap (λ (a : ℕ). record { bits = address_bits; address = a; len = x.len }) (sym (cleared_again address_bits x.len x.address));
    })

-- on either side
side_possible : {l : List ℕ} {s : Side} {n : Network} → NetworkOperand l s n → NetworkPossible n
side_possible (plain t) = network_possible t
side_possible (plus t) = network_possible t
side_possible (minus t) = network_possible t

-- a peer's numbers have 32 bits
peer_possible : {l : List ℕ} {p : Peer} → PeerOperand l p → PeerPossible p
peer_possible (as_only b) = record { below = as_below b }
peer_possible (address_only x) = address_word x
peer_possible (address_and_as x g h b e) = (address_word x, record { below = as_below b })

-- ---- patterns

-- an item's number has 32 bits
item_possible : {l : List ℕ} {i : Item} → ItemText l i → ItemPossible i
item_possible (a_number b) = record { below = as_below b }
item_possible (not_it b) = record { below = as_below b }
item_possible any = tt

-- a pattern has an item, `^` or `$`
pattern_possible : {l : List ℕ} {p : Pattern} → PatternOperand l p → PatternPossible p
pattern_possible {p = p} x = record { each = every_parted (λ bs i t. item_possible t) x.items_are; some = λ s e i. x.not_empty s e (no_items p.items i) }
  where
    no_items : (is : List Item) → length is ≡ 0 → is ≡ []
    no_items [] h = refl
    no_items (i ∷ is) h = absurd (omega arith)

-- ---- times

-- digits behind a number
digits_below : {n m : ℕ} {l : List ℕ} → Digits n l m → m < suc n * 10 ^ length l
digits_below end = omega arith
digits_below (more {n} {m} {bs} d h x) =
    let a : suc (10 * n + d) * 10 ^ length bs ≤ suc n * 10 * 10 ^ length bs = mul-le-mul_right (10 ^ length bs) (omega arith) in
    let b : suc n * 10 ^ suc (length bs) ≡ suc n * 10 * 10 ^ length bs = rw (pow-succ' 10 (length bs)) (sym (mul_assoc (suc n) 10 (10 ^ length bs))) in
    omega (arith, digits_below x)

-- six digits at most are below a million
micros_below : (n k : ℕ) → k ≤ fraction_digits → n < 10 ^ k → n * 10 ^ (fraction_digits - k) < 1000000
micros_below n k h = within fraction_digits (λ (k : ℕ). n < 10 ^ k → n * 10 ^ (fraction_digits - k) < 1000000) k h
    (λ l. omega arith) (λ l. omega arith) (λ l. omega arith) (λ l. omega arith) (λ l. omega arith) (λ l. omega arith) (λ l. omega arith)

-- a fraction is below a million microseconds
fraction_below : {l : List ℕ} {n : ℕ} → FractionText l n → n < 1000000
fraction_below whole = omega arith
fraction_below (fraction {bs} {n} x f g) = micros_below n (length bs) g (omega (arith, digits_below x))

-- a time has 32 bits of seconds
time_possible : {l : List ℕ} {c : Comparison} {s m : ℕ} → TimeOperand l c s m → TimePossible s m
time_possible x = record { word = record { below = x.whole_is.below }; fraction = fraction_below x.rest_is }

-- ---- communities

-- a community has 32 bits
community_possible : {l : List ℕ} {c : ℕ} → CommunityText l c → Bits32 c
unfolding every_passes community_names
community_possible (halves x y e) = record { below = omega (arith, x.below, y.below) }
community_possible (named x) = record { below = small_in word_limit refl x }

-- ---- every test that is meant is possible

-- for each test
pub means_possible : {k : Name} {v : List ℕ} {x : Test} → StandsFor k v x → PossibleTest x
means_possible (type x) = code_possible types_small x
means_possible (attribute x) = code_possible attributes_small x
means_possible (path x) = pattern_possible x
means_possible (peer x) = peer_possible x
means_possible (network x) = side_possible x
means_possible (time x) = time_possible x
means_possible (communities x) = record { each = every_parted (λ bs c t. community_possible t) x.parted; some = x.some }
