-- The lines of a message are short, by the bytes of its prefixes and of its attributes. Assumes nothing.
use Prim.Native.Nat.{ℕ, ◌+◌, ◌*◌, ◌^◌, ◌≤◌, ◌<◌}
use native.Mathlib.Omega.{arith}
use mathlib.Core.Path.{◌≡◌}
use mathlib.Core.Bool.{Bool, true, false}
use mathlib.Core.List.{List, [], ◌∷◌}
use Rattle.std.specs.Prelude.{Option, Some, None, option_map}
use lib.Dec.{ltb, eqb}
use lib.ListN.{length, take, drop, length-append, length-take, length-drop}
use borrow.Author.Tests.{ltb-false, leb-true}
use Rattle.octets.specs.Choice.{pick}
use Rattle.octets.specs.Numbers.{Octets, number_at}
use Rattle.octets.specs.Rows.{items_in}
use Rattle.octets.proofs.Bytes.{octets_none, octets_take, octets_drop}
use Rattle.octets.proofs.Choices.{never, second_chosen}
use Rattle.octets.proofs.Numbers.{number_lt}
use Rattle.octets.proofs.Decimal.{digits_length}
use Rattle.network.specs.Networks.{address_bits, address_size, Network}
use Rattle.network.specs.Text.{address_text}
use Rattle.network.proofs.Texts.{address_text_length}
use Rattle.aspath.specs.declared.Width.{Width}
use Rattle.aspath.specs.declared.Width.TheVariants.{Two, Four}
use Rattle.aspath.specs.Wire.{width_bytes}
use Rattle.attributes.specs.declared.Body.{Body}
use Rattle.attributes.specs.Attribute.{Attribute, first_of}
use Rattle.attributes.specs.Bodies.{aggregator_of, attributes_of}
use Rattle.attributes.specs.Finding.{body_at, find_of}
use Rattle.attributes.proofs.Lookup.{Asks, first_found, asks_origin, asks_path, asks_next_hop, asks_atomic, asks_aggregator, asks_communities}
use Rattle.message.specs.declared.Part.{Part}
use Rattle.message.specs.declared.Parts.{Parts}
use Rattle.message.specs.Represents.{message_limit}
use Rattle.message.specs.Decode.{part_of, networks_of, message_at}
use Rattle.line.specs.Text.{bar, following, prefixes_text, path_text, communities_text, optional}
use Rattle.line.specs.Line.{origin_text, atomic_text, aggregator_text, width_text, attribute_fields, closing_fields, line_of, lines_of}
use Rattle.line.specs.Answer.{line_room, is_ample}
use Rattle.line.proofs.Lines.{line_cons}
use Rattle.line.proofs.Costs.{prefixes_short}
use Rattle.line.proofs.Communities.{communities_short}
use Rattle.line.proofs.PathCosts.{path_short}

-- ---- the fields of the attributes

-- an optional field is short where its text is short for every part of the section
field_short : {A : Type 0} {w : ℕ} {ask : Attribute → Option A} {give : List ℕ → A} {code : ℕ} → Asks w ask give code → (text : A → List ℕ) (k : ℕ) (s : List ℕ)
    → ((start len : ℕ) → length (text (give (take len (drop start s)))) ≤ k) → length (optional text (first_of ask (attributes_of w s))) ≤ k
field_short {give = give} {code = code} asks text k s each = rw (first_found asks s) (go (find_of code s))
  where
    go : (f : Option Body) → length (optional text (option_map give (body_at s f))) ≤ k
    go (Some b) = unfold optional in each b.start b.len
    go None = unfold optional in omega arith

-- an origin is a letter
origin_short : (n : ℕ) → length (origin_text n) ≤ 1
unfolding origin_text
origin_short n = go (eqb n 0) (eqb n 1)
  where
    go : (a b : Bool) → length {A = ℕ} (pick a (105 ∷ []) (pick b (101 ∷ []) (63 ∷ []))) ≤ 1
    go true b = omega arith
    go false true = omega arith
    go false false = omega arith

-- an aggregator is a number, a space and an address
aggregator_short : (w : ℕ) {body : List ℕ} → Octets body → length (aggregator_text (aggregator_of w body)) ≤ 26
unfolding aggregator_of
aggregator_short w {body} o =
    simp length-append
    (omega (arith, digits_length 10 (number_at body 0 w), address_text_length (number_at body w address_size) (number_lt body w address_size o.below)))

-- the fields of a section of attributes, each after a bar
attributes_short : (width : Width) {s : List ℕ} → Octets s → length (following bar (attribute_fields (attributes_of (width_bytes width) s))) ≤ 8 * length s + 50
unfolding following
attributes_short width {s} o =
    let w = width_bytes width in
    let body : (start len : ℕ) → Octets (take len (drop start s)) = λ start len. octets_take len (octets_drop start o) in
    let path = field_short (asks_path w) path_text (3 * length s) s
    (λ start len. omega (arith, path_short width (body start len), length-take len (drop start s), length-drop start s)) in
    let hop = field_short (asks_next_hop w) address_text 15 s (λ start len. address_text_length _ (omega (arith, number_lt (take len (drop start s)) 0 4 (body start len).below))) in
    let origin = field_short (asks_origin w) origin_text 1 s (λ start len. origin_short _) in
    let atomic = field_short (asks_atomic w) atomic_text 2 s (λ start len. omega arith) in
    let aggregator = field_short (asks_aggregator w) aggregator_text 26 s (λ start len. aggregator_short w (body start len)) in
    let communities = field_short (asks_communities w) communities_text (5 * length s) s
    (λ start len. omega (arith, communities_short (take len (drop start s)), length-take len (drop start s), length-drop start s)) in
    simp length-append (omega arith)

-- ---- the fields that end a line

-- the width is a digit
width_short : (width : Width) → length (width_text width) ≤ 1
width_short Two = omega arith
width_short Four = omega arith

-- the fields that end a line, each after a bar
closing_short : (address asn seconds : ℕ) (width : Width) → address < 2 ^ address_bits → length (following bar (closing_fields address asn seconds width)) ≤ 40
unfolding following
closing_short address asn seconds width h =
    simp length-append (omega (arith, address_text_length address h, digits_length 10 asn, digits_length 10 seconds, width_short width))

-- ---- a line, and both

-- a line has at most 10 bytes for each byte of its prefixes, 8 for each byte of its attributes, and 93
line_short : (type : ℕ) (prefixes : List ℕ) {attributes : List ℕ} (address asn seconds : ℕ) (width : Width) → Octets attributes → address < 2 ^ address_bits
    → length (line_of type (networks_of prefixes) (attributes_of (width_bytes width) attributes) (closing_fields address asn seconds width))
    ≤ 10 * length prefixes + 8 * length attributes + 93
line_short type prefixes {attributes} address asn seconds width o h =
    go (networks_of prefixes) (prefixes_short prefixes)
  where
    go : (ns : List Network) → length (prefixes_text ns) ≤ 10 * length prefixes
        → length (line_of type ns (attributes_of (width_bytes width) attributes) (closing_fields address asn seconds width)) ≤ 10 * length prefixes + 8 * length attributes + 93
    go [] k = unfold line_of in omega arith
    go (n ∷ ns) k =
        rw (line_cons type (attributes_of (width_bytes width) attributes) (closing_fields address asn seconds width) n ns)
        (simp length-append (omega (arith, attributes_short width o, closing_short address asn seconds width h)))

-- a part has no more bytes than it says
part_length : (s : List ℕ) (p : Part) → length (part_of s p) ≤ p.len
part_length s p = simp length-take (omega arith)

-- a part of bytes is bytes
part_octets : {s : List ℕ} → Octets s → (p : Part) → Octets (part_of s p)
part_octets o p = octets_take p.len (octets_drop p.start o)

module _ (s : List ℕ) (p : Parts) (h : p.address < 2 ^ address_bits) where
  -- a line of a part of a record
  part_line_short : (type : ℕ) (prefixes : Part) {attributes : List ℕ} → Octets attributes
      → length (line_of type (networks_of (part_of s prefixes)) (attributes_of (width_bytes p.width) attributes) (closing_fields p.address p.peer p.seconds p.width))
      ≤ 10 * prefixes.len + 8 * length attributes + 93
  part_line_short type prefixes o =
      omega (arith, line_short type (part_of s prefixes) p.address p.peer p.seconds p.width o h, part_length s prefixes)

  -- both lines, by the lengths of the sections
  lines_short : Octets s → length (lines_of (message_at s p)) ≤ 10 * (p.withdrawn.len + p.announced.len) + 8 * p.attributes.len + 186
  unfolding lines_of message_at items_in
  lines_short o =
      simp length-append
      (omega (
        arith,
        part_line_short 43 p.announced (part_octets o p.attributes),
        part_line_short 45 p.withdrawn octets_none,
        part_length s p.attributes,
      ))

-- the room that a test of the sizes finds ample suffices
pub lines_fit : {s : List ℕ} → Octets s → (p : Parts) → p.address < 2 ^ address_bits → (room : ℕ) → is_ample p room ≡ true → length (lines_of (message_at s p)) ≤ room
lines_fit {s} o p ha room e =
    let a = second_chosen (ltb room line_room) never e in
    let b = second_chosen (ltb message_limit p.withdrawn.len) never a.1 in
    let c = second_chosen (ltb message_limit p.attributes.len) never b.1 in
    let d = second_chosen (ltb message_limit p.announced.len) never c.1 in
    omega (arith, lines_short s p ha o, ltb-false room line_room a.0, leb-true (p.withdrawn.len + p.attributes.len + p.announced.len) message_limit d.1)
