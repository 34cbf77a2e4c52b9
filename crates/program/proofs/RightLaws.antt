-- Laws of right records: their bytes are those of the record decoded, which is possible; and a possible record's bytes are right. Assumes nothing.
use Prim.Native.Nat.{ℕ, ◌+◌, ◌-◌, ◌≤◌, ◌<◌}
use native.Mathlib.Nat.{lt_of_not-le}
use native.Mathlib.Decide.{dec_le}
use native.Mathlib.Omega.{arith}
use mathlib.Core.Path.{◌≡◌, refl, sym, ap, ◌∙◌}
use mathlib.Core.Bool.{Bool, true, not}
use Rattle.std.specs.Prelude.{Option, Some, None}
use mathlib.Core.List.{List, ◌++◌}
use lib.ListN.{length, take}
use lib.Dec.{eqb, leb, ltb}
use borrow.Author.Tests.{ltb-true, leb-true, eqb-true, eqb-false, not-true, lt-ltb, le-leb, eq-eqb, ne_eqb}
use Rattle.octets.specs.Choice.{pick, both}
use Rattle.octets.specs.Numbers.{Octets, number_at, bytes_of}
use Rattle.octets.proofs.Choices.{never, each, pick_both}
use Rattle.octets.proofs.Numbers.{number_lt}
use Rattle.octets.proofs.Ranges.{within}
use Rattle.network.specs.Networks.{address_bits, Network, cleared}
use Rattle.aspath.specs.declared.Item.{Item}
use Rattle.aspath.specs.declared.Item.TheVariants.{Number, Other, Any}
use Rattle.program.specs.declared.Fields.{Fields}
use Rattle.program.specs.declared.Kind.{Kind}
use Rattle.program.specs.declared.Kind.TheVariants as kind
use Rattle.program.specs.Readings.{by_as, by_address, by_both, and, or}
use Rattle.program.specs.Records.{Head, type, attribute, path, peer, loops, bogon, network, time, communities}
use Rattle.program.specs.Records.{Record, head, item, flip, pass}
use Rattle.program.specs.Records.{weight_limit, second, code_limit, PossibleHead, Possible, Bits32, Code, PassPossible, CommunitiesPossible}
use Rattle.program.specs.Kinds.{type_kind, attribute_kind, path_kind, item_kind, peer_kind, loops_kind, bogon_kind, network_kind, time_kind}
use Rattle.program.specs.Kinds.{flip_kind, and_kind, or_kind, communities_kind, kind_is}
use Rattle.program.specs.Layout.{record_size, fields, ends_code, head_fields, item_fields, fields_of, laid, encode}
use Rattle.program.specs.Layout.{fields_in, is_start, is_end, operand_of, record_is, decode}
use Rattle.program.specs.Checks.{unused, right_code, right_path, right_item, right_peer, right_network, right_time, right_bare, right_counted, right_communities, right_pass}
use Rattle.program.specs.Checks.{right_of, right_fields, right_record}
use Rattle.program.proofs.KindLaws.{kind_number}
use Rattle.program.proofs.Codes.{relation_few, side_few, comparison_few, ends_few, relation_code_lem, side_code_lem, comparison_code_lem}
use Rattle.program.proofs.Codes.{ends_code_lem, no_ends, ends_none}
use Rattle.program.proofs.LayoutLaws.{fields_read, laid_read, possible_fit}

-- fields are those of the record that they say, and it is possible
record Right (f : Fields) : Type 0 where
  is : Record
  said : record_is f ≡ Some is
  same : fields_of is ≡ f
  possible : Possible is

-- ---- what the test of each kind says: the fields are those of the kind with the unused ones zero, and the others in range

module _ (k v c a b : ℕ) where
  right_code_lem : right_code (fields k v c a b) ≡ true → (fields k 0 0 a 0 ≡ fields k v c a b) × Code a
  right_code_lem e =
      let x = each (unused v) _ e in
      let y = each (unused c) _ x.1 in
      let z = each (ltb a code_limit) (unused b) y.1 in
      (rw (eqb-true v 0 x.0, eqb-true c 0 y.0, eqb-true b 0 z.1), record { below = ltb-true a code_limit z.0 })

  right_bare_lem : right_bare (fields k v c a b) ≡ true → fields k 0 0 0 0 ≡ fields k v c a b
  right_bare_lem e =
      let x = each (unused v) _ e in
      let y = each (unused c) _ x.1 in
      let z = each (unused a) (unused b) y.1 in
      rw (eqb-true v 0 x.0, eqb-true c 0 y.0, eqb-true a 0 z.0, eqb-true b 0 z.1)

  right_counted_lem : (last : ℕ) → right_counted last (fields k v c a b) ≡ true → (fields k 0 c 0 0 ≡ fields k v c a b) × ((1 ≤ c) × (c ≤ last))
  right_counted_lem last e =
      let x = each (unused v) _ e in
      let y = each (leb 1 c) _ x.1 in
      let z = each (leb c last) _ y.1 in
      let w = each (unused a) (unused b) z.1 in
      (rw (eqb-true v 0 x.0, eqb-true a 0 w.0, eqb-true b 0 w.1), (leb-true 1 c y.0, leb-true c last z.0))

  right_pass_lem : right_pass (fields k v c a b) ≡ true → (fields k 0 c 0 0 ≡ fields k v c a b) × PassPossible c
  right_pass_lem e =
      let x = right_counted_lem (weight_limit - 2) e in
      (x.0, record { some = x.1.0; few = omega (arith, x.1.1) })

  right_communities_lem : right_communities (fields k v c a b) ≡ true → (fields k 0 c 0 0 ≡ fields k v c a b) × CommunitiesPossible c
  right_communities_lem e =
      let x = right_counted_lem (weight_limit - 1) e in
      (x.0, record { some = x.1.0; few = omega (arith, x.1.1) })

module _ (v c a b : ℕ) (wa : Bits32 a) (wb : Bits32 b) where
  right_path_lem : right_path (fields path_kind v c a b) ≡ true → Right (fields path_kind v c a b)
  unfolding fields_of head_fields record_is
  right_path_lem e =
      let x = each (leb v 3) _ e in
      let y = each (ltb c weight_limit) _ x.1 in
      let z = each (unused a) _ y.1 in
      let w = each (unused b) _ z.1 in
      let h = leb-true v 3 x.0 in
      record {
        is = head (path (is_start v) (is_end v) c);
        said = rw x.0 refl;
        same = rw (ends_code_lem v h, eqb-true a 0 z.0, eqb-true b 0 w.0);
        possible = record {
          few = ltb-true c weight_limit y.0;
          some = λ s f n. eqb-false (v + c) 0 (not-true _ w.1) (omega (arith, no_ends v h s f));
        };
      }

  right_item_lem : right_item (fields item_kind v c a b) ≡ true → Right (fields item_kind v c a b)
  unfolding fields_of item_fields record_is
  right_item_lem e =
      let x = each (leb v 2) _ e in
      let y = each (unused c) _ x.1 in
      let z = each (unused b) _ y.1 in
      rw (eqb-true c 0 y.0, eqb-true b 0 z.0)
      (within 2 (λ n. pick (eqb n 2) (unused a) true ≡ true → Right (fields item_kind n 0 a 0)) v (leb-true v 2 x.0)
      (λ s. record { is = item (Number a); said = refl; same = refl; possible = wa })
      (λ s. record { is = item (Other a); said = refl; same = refl; possible = wa })
      (λ s. record { is = item Any; said = refl; same = rw (eqb-true a 0 s); possible = tt })
      z.1)

  right_network_lem : right_network (fields network_kind v c a b) ≡ true → Right (fields network_kind v c a b)
  unfolding fields_of head_fields record_is
  right_network_lem e =
      let x = each (leb v 3) _ e in
      let y = each (leb c address_bits) _ x.1 in
      let z = each (leb b 2) _ y.1 in
      let r = relation_code_lem v (leb-true v 3 x.0) in
      let s = side_code_lem b (leb-true b 2 z.0) in
      record {
        is = head (network r.thing (operand_of (fields network_kind v c a b)) s.thing);
        said = rw (r.said, s.said);
        same = rw (r.coded, s.coded);
        possible = record {
          sized = leb-true c address_bits y.0;
          word = wa;
          clear = ap (λ (n : ℕ). record { bits = address_bits; address = n; len = c }) (sym (eqb-true (cleared address_bits c a) a z.1));
        };
      }

  right_time_lem : right_time (fields time_kind v c a b) ≡ true → Right (fields time_kind v c a b)
  unfolding fields_of head_fields record_is
  right_time_lem e =
      let x = each (leb v 4) _ e in
      let y = each (unused c) _ x.1 in
      let m = comparison_code_lem v (leb-true v 4 x.0) in
      record {
        is = head (time m.thing a b);
        said = rw m.said;
        same = rw (m.coded, eqb-true c 0 y.0);
        possible = record { word = wa; fraction = ltb-true b second y.1 };
      }

  -- one of the variants 1 to 3
  right_peer_lem : right_peer (fields peer_kind v c a b) ≡ true → Right (fields peer_kind v c a b)
  unfolding fields_of head_fields record_is
  right_peer_lem e =
      let x = each (unused c) _ e in
      rw (eqb-true c 0 x.0)
      (within 3 (λ n. pick (eqb n 1) (unused a) (pick (eqb n 2) (unused b) (eqb n 3)) ≡ true → Right (fields peer_kind n 0 a b)) v (few (dec_le v 3) x.1)
      (λ s. never s)
      (λ s. record { is = head (peer (by_as b)); said = refl; same = rw (eqb-true a 0 s); possible = wb })
      (λ s. record { is = head (peer (by_address a)); said = refl; same = rw (eqb-true b 0 s); possible = wa })
      (λ s. record { is = head (peer (by_both a b)); said = refl; same = refl; possible = (wa, wb) })
      x.1)
    where
      few : Dec (v ≤ 3) → pick (eqb v 1) (unused a) (pick (eqb v 2) (unused b) (eqb v 3)) ≡ true → v ≤ 3
      few (yes h) s = h
      few (no n) s =
          let h : 3 < v = lt_of_not-le n in
          never (simp (ne_eqb v 1 (λ e. omega arith), ne_eqb v 2 (λ e. omega arith), ne_eqb v 3 (λ e. omega arith)) at s)

-- right fields are those of the record that they say, and it is possible
right_kind : (k v c a b : ℕ) → Bits32 a → Bits32 b → right_fields (fields k v c a b) ≡ true → Right (fields k v c a b)
unfolding right_fields fields_of head_fields record_is
right_kind k v c a b wa wb = go (kind_is k) refl
  where
    go : (o : Option Kind) → kind_is k ≡ o → right_of o (fields k v c a b) ≡ true → Right (fields k v c a b)
    go None q t = never t
    go (Some kind.MessageType) q t =
        let x = right_code_lem type_kind v c a b t in rw (kind_number q) (record { is = head (type a); said = refl; same = x.0; possible = x.1 })
    go (Some kind.Attribute) q t =
        let x = right_code_lem attribute_kind v c a b t in rw (kind_number q) (record { is = head (attribute a); said = refl; same = x.0; possible = x.1 })
    go (Some kind.Path) q t = rw (kind_number q) (right_path_lem v c a b wa wb t)
    go (Some kind.Item) q t = rw (kind_number q) (right_item_lem v c a b wa wb t)
    go (Some kind.Peer) q t = rw (kind_number q) (right_peer_lem v c a b wa wb t)
    go (Some kind.Loops) q t = rw (kind_number q) (record { is = head loops; said = refl; same = right_bare_lem loops_kind v c a b t; possible = tt })
    go (Some kind.Bogon) q t = rw (kind_number q) (record { is = head bogon; said = refl; same = right_bare_lem bogon_kind v c a b t; possible = tt })
    go (Some kind.Network) q t = rw (kind_number q) (right_network_lem v c a b wa wb t)
    go (Some kind.Time) q t = rw (kind_number q) (right_time_lem v c a b wa wb t)
    go (Some kind.Flip) q t = rw (kind_number q) (record { is = flip; said = refl; same = right_bare_lem flip_kind v c a b t; possible = tt })
    go (Some kind.And) q t =
        let x = right_pass_lem and_kind v c a b t in rw (kind_number q) (record { is = pass and c; said = refl; same = x.0; possible = x.1 })
    go (Some kind.Or) q t =
        let x = right_pass_lem or_kind v c a b t in rw (kind_number q) (record { is = pass or c; said = refl; same = x.0; possible = x.1 })
    go (Some kind.Communities) q t =
        let x = right_communities_lem communities_kind v c a b t in
        rw (kind_number q) (record { is = head (communities c); said = refl; same = x.0; possible = x.1 })

right_fields_lem : (f : Fields) → Bits32 f.a → Bits32 f.b → right_fields f ≡ true → Right f
right_fields_lem f wa wb e = right_kind f.kind f.variant f.count f.a f.b wa wb e

-- ---- the record at the front

-- four bytes make a number of 32 bits
word_in : {l : List ℕ} → Octets l → (at : ℕ) → Bits32 (number_at l at 4)
word_in {l} o at = record { below = number_lt l at 4 o.below }

-- what the test of the record at the front says
front : {l : List ℕ} → Octets l → right_record l ≡ true → Right (fields_in l) × (number_at l 12 4 ≡ 0)
front {l} o e =
    let x = each (right_fields (fields_in l)) (eqb (number_at l 12 4) 0) e in
    (right_fields_lem (fields_in l) (unfold fields_in in word_in o 4) (unfold fields_in in word_in o 8) x.0, eqb-true _ 0 x.1)

-- the record at the front of right bytes: it is decoded from them, it is possible, and they are its bytes
pub record RightRecord (l : List ℕ) : Type 0 where
  pub is : Record
  pub decoded : decode l ≡ Some is
  pub possible : Possible is
  pub bytes : take record_size l ≡ encode is

pub right_record_lem : (l : List ℕ) → Octets l → record_size ≤ length l → right_record l ≡ true → RightRecord l
right_record_lem l o h e =
    let x = front o e in
    let r = x.0 in
    record { is = r.is; decoded = r.said; possible = r.possible; bytes = sym (ap laid r.same ∙ laid_read l o h x.1) }

-- ---- possible records

-- where two tests hold, both do
both_hold : {t u : Bool} → t ≡ true → u ≡ true → both t u ≡ true
both_hold {t} {u} e f = (pick_both t u).1 (e, f)

-- the fields of a possible record are right
head_right : (h : Head) → PossibleHead h → right_fields (head_fields h) ≡ true
unfolding right_fields kind_is head_fields
head_right (type c) p = both_hold (lt-ltb c code_limit p.below) refl
head_right (attribute c) p = both_hold (lt-ltb c code_limit p.below) refl
head_right (path start end count) p =
    let some : ends_code start end + count ≡ 0 → ⊥ =
    λ e.
    let n = ends_none start end (omega arith) in
    p.some n.0 n.1 (omega arith) in
    both_hold (le-leb _ 3 (ends_few start end)) (both_hold (lt-ltb count weight_limit p.few) (ap not (ne_eqb _ 0 some)))
head_right (peer (by_as n)) p = refl
head_right (peer (by_address a)) p = refl
head_right (peer (by_both a n)) p = refl
head_right loops p = refl
head_right bogon p = refl
head_right (network r n s) p =
    both_hold (le-leb _ 3 (relation_few r))
    (both_hold (le-leb _ address_bits p.sized)
    (both_hold (le-leb _ 2 (side_few s)) (eq-eqb _ _ (sym (ap (λ (m : Network). m.address) p.clear)))))
head_right (time c seconds micros) p = both_hold (le-leb _ 4 (comparison_few c)) (lt-ltb micros second p.fraction)
head_right (communities count) p = both_hold (le-leb 1 count p.some) (both_hold (le-leb count (weight_limit - 1) (omega (arith, p.few))) refl)

item_right : (i : Item) → right_fields (item_fields i) ≡ true
unfolding right_fields kind_is item_fields
item_right (Number n) = refl
item_right (Other n) = refl
item_right Any = refl

fields_right : (r : Record) → Possible r → right_fields (fields_of r) ≡ true
unfolding right_fields kind_is fields_of
fields_right (head h) p = head_right h p
fields_right (item i) p = item_right i
fields_right flip p = refl
fields_right (pass and count) p = both_hold (le-leb 1 count p.some) (both_hold (le-leb count (weight_limit - 2) (omega (arith, p.few))) refl)
fields_right (pass or count) p = both_hold (le-leb 1 count p.some) (both_hold (le-leb count (weight_limit - 2) (omega (arith, p.few))) refl)

-- the bytes of a possible record are right, whatever follows them
pub encode_right : (r : Record) → Possible r → (rest : List ℕ) → right_record (encode r ++ rest) ≡ true
encode_right r p rest = both_hold (ap right_fields (fields_read (possible_fit r p) rest) ∙ fields_right r p) (unfold laid bytes_of number_at in refl)
