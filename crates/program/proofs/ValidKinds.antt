-- The kind and the count in a record's bytes, and what they say of it. Assumes nothing.
use mathlib.Core.Path.{◌≡◌, refl, sym, ap, ◌∙◌}
use mathlib.Core.Bool.{true}
use mathlib.Core.List.{List, [], ◌∷◌, ◌++◌}
use Prim.Native.Nat.{ℕ}
use Rattle.std.specs.Prelude.{Some}
use native.Mathlib.Omega.{arith}
use lib.ListN.{length, get_or}
use Rattle.octets.specs.Lists.{Every, every_none}
use Rattle.octets.proofs.Every.{every_weaker}
use Rattle.octets.proofs.Choices.{never}
use Rattle.octets.proofs.Numbers.{number_one}
use Rattle.aspath.specs.declared.Item.{Item}
use Rattle.aspath.specs.declared.Item.TheVariants.{Number, Other, Any}
use Rattle.program.specs.declared.Fields.{Fields}
use Rattle.program.specs.declared.Class.TheVariants.{Test as aTest, Item as an_item}
use Rattle.program.specs.Readings.{by_as, by_address, by_both, and, or}
use Rattle.program.specs.Records.{Head, type, attribute, path, peer, loops, bogon, network, time, communities}
use Rattle.program.specs.Records.{Record, head, item, flip, pass}
use Rattle.program.specs.Records.{Possible, count_of, MayFollow, in_path, in_communities}
use Rattle.program.specs.Kinds.{class_of, kind_is, class_is}
use Rattle.program.specs.Layout.{head_fields, item_fields, fields_of, encode, fields_in}
use Rattle.program.specs.Checks.{last_variant, is_item, following_in, last_item}
use Rattle.program.proofs.LayoutLaws.{fields_read, possible_fit}

-- ---- what fields say

head_class : (h : Head) → class_is (head_fields h).kind ≡ Some aTest
unfolding class_is kind_is head_fields
head_class (type c) = refl
head_class (attribute c) = refl
head_class (path start end count) = refl
head_class (peer (by_as n)) = refl
head_class (peer (by_address a)) = refl
head_class (peer (by_both a n)) = refl
head_class loops = refl
head_class bogon = refl
head_class (network r n s) = refl
head_class (time c seconds micros) = refl
head_class (communities count) = refl

item_class : (i : Item) → class_is (item_fields i).kind ≡ Some an_item
unfolding class_is kind_is item_fields
item_class (Number n) = refl
item_class (Other n) = refl
item_class Any = refl

-- the kind of a record says its class
pub class_kind : (r : Record) → class_is (fields_of r).kind ≡ Some (class_of r)
unfolding class_is kind_is fields_of
class_kind (head h) = head_class h
class_kind (item i) = item_class i
class_kind flip = refl
class_kind (pass and count) = refl
class_kind (pass or count) = refl

-- as many records follow a head as its fields say
pub head_following : (h : Head) → following_in (head_fields h) ≡ count_of h
unfolding following_in head_fields count_of
head_following (type c) = refl
head_following (attribute c) = refl
head_following (path start end count) = refl
head_following (peer (by_as n)) = refl
head_following (peer (by_address a)) = refl
head_following (peer (by_both a n)) = refl
head_following loops = refl
head_following bogon = refl
head_following (network r n s) = refl
head_following (time c seconds micros) = refl
head_following (communities count) = refl

-- an item's fields are those of one
pub item_is : (i : Item) → is_item last_variant (fields_of (item i)) ≡ true
unfolding fields_of item_fields
item_is (Number n) = refl
item_is (Other n) = refl
item_is Any = refl

head_is_none : (last : ℕ) (h : Head) → is_item last (head_fields h) ≡ true → ⊥
unfolding head_fields
head_is_none last (type c) e = never e
head_is_none last (attribute c) e = never e
head_is_none last (path start end count) e = never e
head_is_none last (peer (by_as n)) e = never e
head_is_none last (peer (by_address a)) e = never e
head_is_none last (peer (by_both a n)) e = never e
head_is_none last loops e = never e
head_is_none last bogon e = never e
head_is_none last (network r n s) e = never e
head_is_none last (time c seconds micros) e = never e
head_is_none last (communities count) e = never e

-- no other record's are
pub is_item_lem : (last : ℕ) (r : Record) → is_item last (fields_of r) ≡ true → (i : Item) × (r ≡ item i)
unfolding fields_of
is_item_lem last (head h) e = absurd (head_is_none last h e)
is_item_lem last (item i) e = (i, refl)
is_item_lem last flip e = never e
is_item_lem last (pass and count) e = never e
is_item_lem last (pass or count) e = never e

-- ---- the items that may follow a head

-- a head takes an item by the variant of its fields
pub record Takes (h : Head) (i : Item) : Type 0 where
  pub is : is_item (last_item (head_fields h)) (fields_of (item i)) ≡ true

-- one that may follow is taken
pub may_takes : {h : Head} {i : Item} → MayFollow h i → Takes h i
unfolding head_fields last_item fields_of item_fields
may_takes {i = i} in_path = record { is = item_is i }
may_takes in_communities = record { is = refl }

-- communities take numbers only
number_may : {count : ℕ} (i : Item) → Takes (communities count) i → MayFollow (communities count) i
unfolding head_fields last_item fields_of item_fields
number_may (Number n) t = in_communities
number_may (Other n) t = never t.is
number_may Any t = never t.is

none_may : {h : Head} (is : List Item) → length is ≡ 0 → Every (MayFollow h) is
none_may [] e = every_none
none_may (i ∷ is) e = absurd (omega arith)

-- as many as are counted, each of them taken, may follow
pub takes_may : (h : Head) {is : List Item} → length is ≡ count_of h → Every (Takes h) is → Every (MayFollow h) is
unfolding count_of
takes_may (type c) {is} e ts = none_may is e
takes_may (attribute c) {is} e ts = none_may is e
takes_may (path start end count) e ts = every_weaker (λ i t. in_path) ts
takes_may (peer p) {is} e ts = none_may is e
takes_may loops {is} e ts = none_may is e
takes_may bogon {is} e ts = none_may is e
takes_may (network r n s) {is} e ts = none_may is e
takes_may (time c seconds micros) {is} e ts = none_may is e
takes_may (communities count) e ts = every_weaker number_may ts

-- ---- the bytes of a record

-- the fields are read back
pub record_read : (r : Record) → Possible r → (rest : List ℕ) → fields_in (encode r ++ rest) ≡ fields_of r
record_read r p rest = fields_read (possible_fit r p) rest

-- the first byte is the kind
pub front_kind : (r : Record) → Possible r → (rest : List ℕ) → get_or (encode r ++ rest) 0 0 ≡ (fields_of r).kind
unfolding fields_in
front_kind r p rest = sym (number_one (encode r ++ rest) 0) ∙ ap (λ (f : Fields). f.kind) (record_read r p rest)
