-- Laws of the truth of the record at a place of a program, by its kind. Assumes nothing.
use Prim.Native.Nat.{ℕ}
use native.Mathlib.Decide.{ℕ_discrete}
use mathlib.Core.Path.{◌≡◌, refl, sym, ap, ◌∙◌}
use mathlib.Core.Bool.{Bool, true, false}
use Rattle.std.specs.Prelude.{Option, Some, None}
use mathlib.Core.List.{List}
use lib.ListN.{take, drop}
use lib.Seq.{drop-drop}
use lib.Dec.{eqb, leb}
use borrow.Author.Tests.{eq-eqb, ne_eqb}
use Rattle.octets.specs.Choice.{pick, both, onward}
use Rattle.octets.proofs.Choices.{alike}
use Rattle.network.specs.declared.Relation.{Relation}
use Rattle.aspath.specs.declared.Item.{Item}
use Rattle.aspath.specs.Members.{Segment, members}
use Rattle.aspath.specs.Patterns.{matches}
use Rattle.aspath.specs.Wire.{width_bytes}
use Rattle.communities.specs.Communities.{holds_all}
use Rattle.attributes.specs.Attribute.{first_of, ask_path, ask_communities}
use Rattle.attributes.specs.Wire.{raws_of, codes}
use Rattle.attributes.specs.Codes.{elem}
use Rattle.attributes.specs.Bodies.{attributes_of}
use Rattle.message.specs.declared.Parts.{Parts}
use Rattle.message.specs.Message.{Message, update}
use Rattle.message.specs.Decode.{part_of, message_at}
use Rattle.program.specs.declared.Fields.{Fields}
use Rattle.program.specs.declared.Kind.TheVariants as kind
use Rattle.program.specs.Readings.{Side}
use Rattle.program.specs.Records.{Head, path, peer, time, communities, Record, head, item, count_of}
use Rattle.program.specs.Kinds.{type_kind, attribute_kind, path_kind, peer_kind, loops_kind, bogon_kind, network_kind, time_kind, communities_kind, kind_is}
use Rattle.program.proofs.KindLaws.{no_kind}
use Rattle.program.specs.Layout.{record_size, relation_is, side_is, comparison_is, item_is, peer_is, is_start, is_end, path_is, operand_of, network_said}
use Rattle.program.specs.Layout.{fields_in, record_is, records_in}
use Rattle.program.specs.Checks.{last_variant, number_variant, items_stand, following_in, last_item, follows_in}
use Rattle.truth.specs.Means.{if_any, on_path, some_prefix, prefixes_on, test_holds}
use Rattle.truth.specs.Records.{record_truth, truth_of, truth_at}
use Rattle.truth.specs.Matching.{peer_test, time_test, network_test, items_in, numbers_in, pattern_of, path_test, communities_test}
use Rattle.truth.proofs.CodeReads.{some_coded}
use Rattle.truth.proofs.ItemReads.{finds_items, finds_numbers, each_true}
use Rattle.truth.proofs.KindReads.{by_kind}

-- the bytes behind the record at a place
abbrev pub behind : List ℕ → ℕ → List ℕ
behind program at = drop record_size (drop at program)

-- ---- tests of what is there

-- a test more comes to the same before it and in it
one_any : {A : Type 0} (b : Bool) (o : Option A) (test : A → Bool) → both b (if_any o test) ≡ if_any o (λ a. both b (test a))
one_any true o test = refl
one_any false None test = refl
one_any false (Some a) test = refl

-- and so do two
both_any : {A : Type 0} (b c : Bool) (o : Option A) (test : A → Bool) → both b (both c (if_any o test)) ≡ if_any o (λ a. both b (both c (test a)))
both_any b c o test = ap (both b) (one_any c o test) ∙ one_any b o (λ a. both c (test a))

-- ---- what fields say

module _ (m : Message) (rest : List ℕ) where
  -- the truth of a record with the bytes behind it
  abbrev said : Option Record → Bool
  said o = truth_of m o (records_in rest)

  -- a head that a code says
  code_said : {A : Type 0} (o : Option A) (h : A → Head)
      → said (onward o (λ a. Some (head (h a)))) ≡ if_any o (λ a. record_truth m (h a) (take (count_of (h a)) (records_in rest)))
  code_said None h = refl
  code_said (Some a) h = refl

  -- a network
  network_said_lem : (f : Fields)
      → said (onward (network_said (relation_is f.variant) (operand_of f) (side_is f.b)) (λ h. Some (head h))) ≡ both (eqb m.type update) (network_test f m)
  unfolding record_truth test_holds
  network_said_lem f = go (relation_is f.variant) (side_is f.b)
    where
      go : (r : Option Relation) (s : Option Side) → said (onward (network_said r (operand_of f) s) (λ h. Some (head h)))
          ≡ both (eqb m.type update) (if_any r (λ x. if_any s (λ side. some_prefix x (operand_of f) (prefixes_on side m))))
      go None s = sym (alike (eqb m.type update) refl refl)
      go (Some x) None = sym (alike (eqb m.type update) refl refl)
      go (Some x) (Some side) = refl

  -- a path
  path_said : (f : Fields)
      → said (onward (path_is f.variant f.count) (λ h. Some (head h)))
      ≡ both (leb f.variant 3) (both (items_stand last_variant f.count rest) (on_path m (matches (pattern_of f (items_in f.count rest)))))
  unfolding record_truth test_holds count_of
  path_said f = go (leb f.variant 3)
    where
      go : (b : Bool) → said (onward (pick b (Some (path (is_start f.variant) (is_end f.variant) f.count)) None) (λ h. Some (head h)))
          ≡ both b (both (items_stand last_variant f.count rest) (on_path m (matches (pattern_of f (items_in f.count rest)))))
      go true = each_true finds_items f.count rest (λ items. on_path m (matches (pattern_of f items)))
      go false = refl

  -- communities
  communities_said : (f : Fields) → said (Some (head (communities f.count)))
      ≡ both (items_stand number_variant f.count rest) (both (eqb m.type update)
      (if_any (first_of ask_communities m.attributes) (λ held. holds_all held (numbers_in f.count rest))))
  unfolding record_truth test_holds count_of
  communities_said f =
      each_true finds_numbers f.count rest (λ asked. both (eqb m.type update) (if_any (first_of ask_communities m.attributes) (λ held. holds_all held asked)))

  -- an item
  item_said : (o : Option Item) → said (onward o (λ i. Some (item i))) ≡ false
  item_said None = refl
  item_said (Some i) = refl

  -- a record of no test is false
  none_said : (f : Fields) → (f.kind ≡ type_kind → ⊥) → (f.kind ≡ attribute_kind → ⊥) → (f.kind ≡ path_kind → ⊥) → (f.kind ≡ peer_kind → ⊥)
      → (f.kind ≡ loops_kind → ⊥) → (f.kind ≡ bogon_kind → ⊥) → (f.kind ≡ network_kind → ⊥) → (f.kind ≡ time_kind → ⊥)
      → (f.kind ≡ communities_kind → ⊥) → said (record_is f) ≡ false
  none_said f a b c d e g h i j =
      by_kind (λ o. said o ≡ false) f
      (λ k. absurd (a k)) (λ k. absurd (b k)) (λ k. absurd (c k)) (λ k. item_said (item_is f.variant f.a)) (λ k. absurd (d k)) (λ k. absurd (e k))
      (λ k. absurd (g k)) (λ k. absurd (h k)) (λ k. absurd (i k)) refl refl refl (λ k. absurd (j k)) refl

module _ (s : List ℕ) (p : Parts) (program : List ℕ) (at : ℕ) {f : Fields} (read : f ≡ fields_in (drop at program)) where
  abbrev m : Message
  m = message_at s p

  fields_said : truth_at m program at ≡ said m (behind program at) (record_is f)
  unfolding truth_at
  fields_said = rw (read, drop-drop record_size at program) refl

  -- a number that stands for no kind
  pub unknown_true : kind_is f.kind ≡ None → truth_at m program at ≡ false
  unknown_true e =
      fields_said
      ∙ none_said m (behind program at) f (no_kind e kind.MessageType) (no_kind e kind.Attribute) (no_kind e kind.Path) (no_kind e kind.Peer)
      (no_kind e kind.Loops) (no_kind e kind.Bogon) (no_kind e kind.Network) (no_kind e kind.Time) (no_kind e kind.Communities)

  -- the type
  pub type_true : f.kind ≡ type_kind → truth_at m program at ≡ eqb p.code f.a
  unfolding record_truth record_is test_holds message_at
  type_true k = fields_said ∙ rw k refl

  -- the peer
  pub peer_true : f.kind ≡ peer_kind → truth_at m program at ≡ peer_test f p.address p.peer
  unfolding record_truth record_is test_holds message_at
  peer_true k = fields_said ∙ rw k (code_said m (behind program at) (peer_is f.variant f.a f.b) peer)

  -- the time
  pub time_true : f.kind ≡ time_kind → truth_at m program at ≡ time_test f p.seconds
  unfolding record_truth record_is test_holds message_at
  time_true k = fields_said ∙ rw k (code_said m (behind program at) (comparison_is f.variant) (λ c. time c f.a f.b))

  -- of a message that is no UPDATE every other test is false
  pub other_true : (f.kind ≡ type_kind → ⊥) → (f.kind ≡ peer_kind → ⊥) → (f.kind ≡ time_kind → ⊥) → (p.code ≡ update → ⊥)
      → truth_at m program at ≡ false
  unfolding record_truth test_holds on_path message_at
  other_true a b c u =
      let n : eqb p.code update ≡ false = ne_eqb _ _ u in
      let rest = behind program at in
      let off : both (leb f.variant 3) (both (items_stand last_variant f.count rest) false) ≡ false
      = alike (leb f.variant 3) (alike (items_stand last_variant f.count rest) refl refl) refl in
      fields_said
      ∙ by_kind (λ o. said m rest o ≡ false) f
      (λ k. absurd (a k)) (λ k. rw n refl) (λ k. path_said m rest f ∙ rw n off) (λ k. item_said m rest (item_is f.variant f.a))
      (λ k. absurd (b k)) (λ k. rw n refl) (λ k. rw n refl)
      (λ k. network_said_lem m rest f ∙ rw n refl) (λ k. absurd (c k)) refl refl refl
      (λ k. communities_said m rest f ∙ rw n (alike (items_stand number_variant f.count rest) refl refl)) refl

  module _ (u : p.code ≡ update) where
    -- a network
    pub network_true : f.kind ≡ network_kind → truth_at m program at ≡ network_test f m
    unfolding record_is message_at
    network_true k = fields_said ∙ rw k (network_said_lem m (behind program at) f ∙ rw (eq-eqb _ _ u) refl)

    -- an attribute
    pub attribute_true : f.kind ≡ attribute_kind → truth_at m program at ≡ elem f.a (codes (raws_of (part_of s p.attributes)))
    unfolding record_truth record_is test_holds message_at
    attribute_true k = fields_said ∙ rw (k, eq-eqb _ _ u) (some_coded (width_bytes p.width) f.a (part_of s p.attributes))

    -- communities
    pub communities_true : f.kind ≡ communities_kind → truth_at m program at
        ≡ if_any (first_of ask_communities (attributes_of (width_bytes p.width) (part_of s p.attributes))) (communities_test f (behind program at))
    unfolding record_is message_at following_in last_item follows_in
    communities_true k =
        fields_said ∙ rw k (communities_said m (behind program at) f
        ∙ rw (eq-eqb _ _ u) (one_any (items_stand number_variant f.count (behind program at))
        (first_of ask_communities (attributes_of (width_bytes p.width) (part_of s p.attributes))) (λ held. holds_all held (numbers_in f.count (behind program at)))))

    -- the segments of the path
    abbrev segments : Option (List Segment)
    segments = first_of ask_path (attributes_of (width_bytes p.width) (part_of s p.attributes))

    -- the path, or no test
    pub path_true : (f.kind ≡ type_kind → ⊥) → (f.kind ≡ attribute_kind → ⊥) → (f.kind ≡ peer_kind → ⊥) → (f.kind ≡ network_kind → ⊥)
        → (f.kind ≡ time_kind → ⊥) → (f.kind ≡ communities_kind → ⊥) → truth_at m program at ≡ if_any segments (λ x. path_test f (behind program at) (members x))
    unfolding record_truth record_is test_holds on_path message_at path_test following_in last_item follows_in
    path_true a b c d e g = fields_said ∙ go (ℕ_discrete f.kind path_kind) (ℕ_discrete f.kind loops_kind) (ℕ_discrete f.kind bogon_kind)
      where
        none_tested : (x : Option (List Segment)) → (f.kind ≡ path_kind → ⊥) → (f.kind ≡ loops_kind → ⊥) → (f.kind ≡ bogon_kind → ⊥)
            → if_any x (λ y. path_test f (behind program at) (members y)) ≡ false
        none_tested None x y z = refl
        none_tested (Some y) x q z = simp (ne_eqb _ _ x, ne_eqb _ _ q, ne_eqb _ _ z)

        go : Dec (f.kind ≡ path_kind) → Dec (f.kind ≡ loops_kind) → Dec (f.kind ≡ bogon_kind)
            → said m (behind program at) (record_is f) ≡ if_any segments (λ x. path_test f (behind program at) (members x))
        go (yes k) y z =
            rw k
            (path_said m (behind program at) f
            ∙ rw (eq-eqb _ _ u) (both_any (leb f.variant 3) (items_stand last_variant f.count (behind program at)) segments (λ x. matches (pattern_of f (items_in f.count (behind program at))) (members x))))
        go (no x) (yes k) z = rw (k, eq-eqb _ _ u) refl
        go (no x) (no y) (yes k) = rw (k, eq-eqb _ _ u) refl
        go (no x) (no y) (no z) = none_said m (behind program at) f a b x c y z d e g ∙ sym (none_tested segments x y z)
