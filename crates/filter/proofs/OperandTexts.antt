-- For every possible test that has an operand, an operand that means it. Assumes nothing.
use Prim.Native.Nat.{ℕ, zero, suc, ◌+◌, ◌*◌, ◌/◌, ◌%◌, ◌^◌, ◌≤◌, ◌<◌}
use native.Mathlib.Omega.{arith}
use mathlib.Core.Path.{◌≡◌, refl, sym, ap, ◌∙◌}
use mathlib.Core.Bool.{Bool, true, false}
use mathlib.Core.List.{List, [], ◌∷◌, ◌++◌, nil≢cons}
use lib.ListN.{length, replicate, length-replicate}
use Rattle.octets.specs.Choice.{pick}
use Rattle.octets.specs.Decimal.{decimal}
use Rattle.octets.specs.Lists.{Every, every_none, every_more}
use Rattle.network.specs.Networks.{address_bits, Network}
use Rattle.network.specs.declared.Relation.{Relation}
use Rattle.network.specs.Text.{address_text}
use Rattle.aspath.specs.declared.Item.{Item}
use Rattle.aspath.specs.declared.Item.TheVariants.{Number, Other, Any}
use Rattle.aspath.specs.Patterns.{Pattern}
use Rattle.program.specs.Readings.{Peer, by_as, by_address, by_both, Side, either_side, announced, withdrawn, Comparison, equal, below, at_most, above, at_least, Test, type_is, has_attribute, path_matches, peer_is, network_is, time_is, has_communities}
use Rattle.program.specs.Records.{Code, ItemPossible, PeerPossible, NetworkPossible, PathPossible, CommunitiesPossible, TimePossible}
use Rattle.token.specs.Texts.{space}
use Rattle.operand.specs.declared.Name.{Name}
use Rattle.operand.specs.declared.Name.TheVariants.{MessageType as type_name, Attribute as attribute_name, Path as path_name, Peer as peer_name, Time as time_name, Network as network_name, Communities as communities_name}
use Rattle.operand.specs.Decimals.{byte_limit, Digits, end}
use Rattle.operand.specs.Decimals as decimals
use Rattle.names.specs.Tables.{Row}
use Rattle.names.specs.Names.{type_names, attribute_names}
use Rattle.operand.specs.Codes.{CodeOperand, by_code}
use Rattle.operand.specs.Addresses.{NetworkText, plain, plus, minus}
use Rattle.operand.specs.Peers.{as_only, address_only, address_and_as}
use Rattle.operand.specs.Patterns.{ItemText, a_number, not_it, any}
use Rattle.operand.specs.Communities.{CommunityText}
use Rattle.operand.specs.Parted.{PartedText, empty, last}
use Rattle.operand.specs.Parted as parted
use Rattle.operand.specs.Times.{seconds_limit, ComparisonText, unsigned, less, at_most_sign, greater, at_least_sign, FractionText, fraction}
use Rattle.operand.specs.Tests.{StandsFor, type, attribute, path, peer, network, time, communities}
use Rattle.operand.proofs.Samples.{zero_community, unspaced}
use Rattle.filter.proofs.Spelling.{Plain}
use Rattle.filter.proofs.DecimalTexts.{Quotable, is_plain, digit_plain, nothing, before, join, shorter, decimal_is, as_number_is, decimal_quotable, address_is, address_quotable}

-- an operand that means a test, and at most so many bytes of it
pub record Meant (k : Name) (most : ℕ) (x : Test) : Type 0 where
  pub bytes : List ℕ
  pub means : StandsFor k bytes x
  pub quotable : Quotable most bytes

-- an operand of so many bytes
meant : {most : ℕ} {k : Name} {v : List ℕ} {x : Test} → StandsFor k v x → Quotable most v → Meant k most x
meant {v = v} m q = record { bytes = v; means = m; quotable = q }

-- ---- codes

-- a code of a byte, whatever the names
code_is : (names : List (Row ℕ)) {c : ℕ} → Code c → CodeOperand names (decimal c) c
code_is names {c} w = by_code (decimal_is byte_limit c w.below (omega (arith, w.below)))

-- it can be quoted
code_quotable : {c : ℕ} → Code c → Quotable 10 (decimal c)
code_quotable {c} w = decimal_quotable c (omega (arith, w.below))

-- a message type
pub type_meant : {c : ℕ} → Code c → Meant type_name 10 (type_is c)
type_meant w = meant (type (code_is type_names w)) (code_quotable w)

-- an attribute
pub attribute_meant : {c : ℕ} → Code c → Meant attribute_name 10 (has_attribute c)
attribute_meant w = meant (attribute (code_is attribute_names w)) (code_quotable w)

-- ---- networks

-- a network's address and length
abbrev network_bytes : Network → List ℕ
network_bytes n = address_text n.address ++ (47 ∷ decimal n.len)

-- a network whose bits past its length are clear is written so
network_is_lem : {n : Network} → NetworkPossible n → NetworkText (network_bytes n) n
network_is_lem {n} p = record {
  address = n.address;
  len = n.len;
  address_text = address_text n.address;
  len_text = decimal n.len;
  joined = refl;
  address_is = address_is n.address p.word.below;
  len_is = decimal_is (address_bits + 1) n.len (omega (arith, p.sized)) (omega (arith, p.sized));
  value = p.clear;
}

-- and can be quoted
network_quotable : {n : Network} → NetworkPossible n → Quotable 54 (network_bytes n)
network_quotable {n} p = join (address_quotable n.address p.word.below) (before 47 refl (decimal_quotable n.len (omega (arith, p.sized))))

-- a network, with `+`, `-` or nothing before it
pub network_meant : (r : Relation) {n : Network} (s : Side) → NetworkPossible n → Meant (network_name r) 55 (network_is r n s)
network_meant r either_side p = meant (network (plain (network_is_lem p))) (shorter 55 (omega arith) (network_quotable p))
network_meant r announced p = meant (network (plus (network_is_lem p))) (before 43 refl (network_quotable p))
network_meant r withdrawn p = meant (network (minus (network_is_lem p))) (before 45 refl (network_quotable p))

-- ---- peers

-- an AS number, an address, or both with a space between
pub peer_meant : (p : Peer) → PeerPossible p → Meant peer_name 54 (peer_is p)
peer_meant (by_as n) w = meant (peer (as_only (as_number_is n w.below))) (shorter 54 (omega arith) (decimal_quotable n w.below))
peer_meant (by_address a) w = meant (peer (address_only (address_is a w.below))) (shorter 54 (omega arith) (address_quotable a w.below))
peer_meant (by_both a n) (v, w) =
    meant (peer (address_and_as {gap = 32 ∷ []} (address_is a v.below) (every_more space every_none) (omega arith) (as_number_is n w.below) refl))
    (join (address_quotable a v.below) (before 32 refl (decimal_quotable n w.below)))

-- ---- so many times one text with a space between

repeated : List ℕ → ℕ → List ℕ
repeated w zero = []
repeated w (suc zero) = w
repeated w (suc (suc n)) = w ++ (32 ∷ repeated w (suc n))

-- each says the same
repeated_parted : {A : Type 0} (R : List ℕ → A → Type 0) {w : List ℕ} {x : A} → R w x → (n : ℕ) → PartedText R (repeated w n) (replicate n x)
unfolding repeated
repeated_parted R t zero = empty
repeated_parted R t (suc zero) = last t
repeated_parted R t (suc (suc n)) = parted.more {gap = 32 ∷ []} t (every_more space every_none) (omega arith) (repeated_parted R t (suc n)) refl

-- they can be quoted
repeated_quotable : {most : ℕ} {w : List ℕ} → Quotable most w → (n : ℕ) → Quotable (suc most * n) (repeated w n)
unfolding repeated
repeated_quotable {most} q zero = shorter (suc most * 0) (omega arith) nothing
repeated_quotable {most} q (suc zero) = shorter (suc most * 1) (omega arith) q
repeated_quotable {most} q (suc (suc n)) = shorter (suc most * suc (suc n)) (omega arith) (join q (before 32 refl (repeated_quotable q (suc n))))

-- ---- patterns

-- `^` or `$`, or neither
mark_quotable : (b : Bool) (c : ℕ) → is_plain c ≡ true → Quotable 1 (pick b (c ∷ []) [])
mark_quotable true c e = before c e nothing
mark_quotable false c e = shorter 1 (omega arith) nothing

-- a pattern whose items are written: their bytes, `^` and `$`
pattern_meant : (p : Pattern) {most : ℕ} {text : List ℕ} → PartedText ItemText text p.items → Quotable most text → (p.start ≡ false → p.end ≡ false → p.items ≡ [] → ⊥)
    → Meant path_name (most + 2) (path_matches p)
pattern_meant p {most} {text} i q f =
    meant (path (unspaced p i f)) (shorter (most + 2) (omega arith) (join (mark_quotable p.start 94 refl) (join q (join (mark_quotable p.end 36 refl) nothing))))

-- a pattern of so many items, `^` and `$` as they come
abbrev pub dotted : Bool → Bool → ℕ → Pattern
dotted s e n = record { start = s; items = replicate n Any; end = e }

-- that many `.` mean it
pub dotted_meant : {s e : Bool} {n : ℕ} → PathPossible s e n → Meant path_name (2 * n + 2) (path_matches (dotted s e n))
dotted_meant {s} {e} {n} p =
    pattern_meant (dotted s e n) (repeated_parted ItemText any n) (repeated_quotable (before 46 refl nothing) n)
    (λ a b i. p.some a b (sym (length-replicate n Any) ∙ ap length i))

-- a pattern of one item
abbrev pub alone : Item → Pattern
alone i = record { start = false; items = i ∷ []; end = false }

-- the item's text means it
one_meant : {i : Item} {bs : List ℕ} → ItemText bs i → Quotable 11 bs → Meant path_name 13 (path_matches (alone i))
one_meant {i} t q = pattern_meant (alone i) (last t) q (λ a b e. absurd (nil≢cons (sym e)))

-- for each item
pub alone_meant : (i : Item) → ItemPossible i → Meant path_name 13 (path_matches (alone i))
alone_meant (Number n) w = one_meant (a_number (as_number_is n w.below)) (shorter 11 (omega arith) (decimal_quotable n w.below))
alone_meant (Other n) w = one_meant (not_it (as_number_is n w.below)) (before 33 refl (decimal_quotable n w.below))
alone_meant Any w = one_meant any (shorter 11 (omega arith) (before 46 refl nothing))

-- ---- communities

-- that many `0:0`
pub communities_meant : {n : ℕ} → CommunitiesPossible n → Meant communities_name (4 * n) (has_communities (replicate n 0))
communities_meant {n} p =
    meant (communities (record { parted = repeated_parted CommunityText zero_community n; some = omega (arith, p.some, length-replicate {A = ℕ} n 0) }))
    (repeated_quotable (before 48 refl (before 58 refl (before 48 refl nothing))) n)

-- ---- times

-- the sign of a comparison
sign_of : Comparison → List ℕ
sign_of equal = []
sign_of below = 60 ∷ []
sign_of at_most = 60 ∷ 61 ∷ []
sign_of above = 62 ∷ []
sign_of at_least = 62 ∷ 61 ∷ []

-- it says so
sign_is : (c : Comparison) → ComparisonText (sign_of c) c
unfolding sign_of
sign_is equal = unsigned
sign_is below = less
sign_is at_most = at_most_sign
sign_is above = greater
sign_is at_least = at_least_sign

-- and can be quoted
sign_quotable : (c : Comparison) → Quotable 2 (sign_of c)
unfolding sign_of
sign_quotable equal = shorter 2 (omega arith) nothing
sign_quotable below = shorter 2 (omega arith) (before 60 refl nothing)
sign_quotable at_most = before 60 refl (before 61 refl nothing)
sign_quotable above = shorter 2 (omega arith) (before 62 refl nothing)
sign_quotable at_least = before 62 refl (before 61 refl nothing)

-- six digits
micros : ℕ → List ℕ
micros m = (48 + m / 100000) ∷ (48 + m / 10000 % 10) ∷ (48 + m / 1000 % 10) ∷ (48 + m / 100 % 10) ∷ (48 + m / 10 % 10) ∷ (48 + m % 10) ∷ []

-- a digit d behind n says k
digit_on : {m : ℕ} {bs : List ℕ} (n k d : ℕ) → d ≤ 9 → 10 * n + d ≡ k → Digits k bs m → Digits n ((48 + d) ∷ bs) m
digit_on n k d h e x = decimals.more d h (rw (← e) at x)

-- six digits say a number below a million
micros_say : (m : ℕ) → m < 1000000 → Digits 0 (micros m) m
unfolding micros
micros_say m h =
    digit_on 0 (m / 100000) (m / 100000) (omega arith) (omega arith)
    (digit_on (m / 100000) (m / 10000) (m / 10000 % 10) (omega arith) (omega arith)
    (digit_on (m / 10000) (m / 1000) (m / 1000 % 10) (omega arith) (omega arith)
    (digit_on (m / 1000) (m / 100) (m / 100 % 10) (omega arith) (omega arith)
    (digit_on (m / 100) (m / 10) (m / 10 % 10) (omega arith) (omega arith)
    (digit_on (m / 10) m (m % 10) (omega arith) (omega arith) end)))))

-- digits can be quoted
digits_plain : {n m : ℕ} {bs : List ℕ} → Digits n bs m → Every Plain bs
digits_plain end = every_none
digits_plain (decimals.more d h x) = every_more (digit_plain d h) (digits_plain x)

-- a dot and six digits
fraction_is : (m : ℕ) → m < 1000000 → FractionText (46 ∷ micros m) m
unfolding micros
fraction_is m h =
    let x : FractionText (46 ∷ micros m) (m * 10 ^ 0) = fraction (micros_say m h) (omega arith) (omega arith) in
    let e : m * 10 ^ 0 ≡ m = omega arith in
    rw e at x

-- the digits can be quoted
micros_quotable : (m : ℕ) → m < 1000000 → Quotable 6 (micros m)
unfolding micros
micros_quotable m h = record { plain = digits_plain (micros_say m h); short = omega arith }

-- a sign, seconds, a dot and six digits
pub time_meant : (c : Comparison) {s m : ℕ} → TimePossible s m → Meant time_name 19 (time_is c s m)
time_meant c {s} {m} p =
    meant
    (time (record {
      sign = sign_of c;
      whole = decimal s;
      rest = 46 ∷ micros m;
      joined = refl;
      sign_is = sign_is c;
      whole_is = decimal_is seconds_limit s p.word.below p.word.below;
      rest_is = fraction_is m p.fraction;
    }))
    (join (sign_quotable c) (join (decimal_quotable s p.word.below) (before 46 refl (micros_quotable m p.fraction))))
