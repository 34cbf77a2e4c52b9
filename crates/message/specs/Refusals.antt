-- Refusals 11 to 18: the table of document 01 as data, each row a number and a condition in words. A row is looked at only where
-- those above it don't hold.
use Rattle.std.specs.Prelude.{ℕ, ◌+◌, ◌<◌, ◌≡◌, List, [], ◌∷◌, length, take, replicate}
use Rattle.octets.specs.Rows.{Joined}
use Rattle.network.specs.Networks.{address_bits, Network}
use Rattle.network.specs.Wire.{PrefixBytes}
use Rattle.aspath.specs.declared.Width.{Width}
use Rattle.aspath.specs.Wire.{width_bytes}
use Rattle.attributes.specs.Wire.{Raw, RawBytes, codes}
use Rattle.attributes.specs.Codes.{Twice}
use Rattle.attributes.specs.Bodies.{SomeWrong}
use Rattle.message.specs.declared.Refusal.{Refusal}
use Rattle.message.specs.declared.Refusal.TheVariants.{Size, MrtType, Peer, Frame, Sections, Attributes, Body, Prefix}
use Rattle.message.specs.Message.{update}
use Rattle.message.specs.Represents.{message_limit, marker_size, frame_header, ipv4, bgp4mp, subtype_of}
use Rattle.header.specs.Header.{header_size, type_field, subtype_field, length_field}
use Rattle.message.specs.Fields.{width_of, frame_start, family_field, frame, frame_length, message_type, body, withdrawn_size}
use Rattle.message.specs.Fields.{attributes_size, withdrawn_in, attributes_in, announced_in}

-- the most bytes of a record that is read
abbrev pub record_limit : ℕ
record_limit = 8192

-- the paper's number
abbrev pub number : Refusal → ℕ
number Size = 11
number MrtType = 12
number Peer = 13
number Frame = 14
number Sections = 15
number Attributes = 16
number Body = 17
number Prefix = 18

-- 11: under 12 or over 8,192 bytes, or length not the rest
pub data WrongSize (s : List ℕ) : Type 0 where
  short : length s < header_size → WrongSize s
  long : record_limit < length s → WrongSize s
  uneven : (header_size + length_field s ≡ length s → ⊥) → WrongSize s

-- 12: other type or subtype
pub data WrongMrtType (s : List ℕ) : Type 0 where
  other_type : (type_field s ≡ bgp4mp → ⊥) → WrongMrtType s
  other_subtype : ((w : Width) → subtype_field s ≡ subtype_of w → ⊥) → WrongMrtType s

-- 13: peer part cut, or family not 1
pub data WrongPeer (s : List ℕ) : Type 0 where
  cut : length s < frame_start (width_of s) → WrongPeer s
  other_family : (family_field (width_of s) s ≡ ipv4 → ⊥) → WrongPeer s

-- 14: message frame wrong: under 19 or over 4,096 bytes, no marker, or a length that isn't the bytes present
pub data WrongFrame (m : List ℕ) : Type 0 where
  short : length m < frame_header → WrongFrame m
  long : message_limit < length m → WrongFrame m
  unmarked : (take marker_size m ≡ replicate marker_size 255 → ⊥) → WrongFrame m
  uneven : (frame_length m ≡ length m → ⊥) → WrongFrame m

-- 15: UPDATE sections don't fit: no room for the two lengths, for the withdrawn prefixes or for the attributes
pub data WrongSections (b : List ℕ) : Type 0 where
  short : length b < 4 → WrongSections b
  long_withdrawn : length b < 4 + withdrawn_size b → WrongSections b
  long_attributes : length b < 4 + withdrawn_size b + attributes_size b → WrongSections b

-- 16: an attribute overruns (no list of attributes makes up the section), or a code comes twice
pub data WrongAttributes (section : List ℕ) : Type 0 where
  overrun : ((raws : List Raw) → Joined RawBytes raws section → ⊥) → WrongAttributes section
  repeated : {raws : List Raw} → Joined RawBytes raws section → Twice (codes raws) → WrongAttributes section

-- 17: a checked attribute body is wrong
pub record WrongBody (w : ℕ) (section : List ℕ) : Type 0 where
  pub raws : List Raw
  pub joined : Joined RawBytes raws section
  pub wrong : SomeWrong w raws

-- 18: a prefix is wrong: no list of prefixes makes up the withdrawn or the announced section
pub data WrongPrefix (withdrawn announced : List ℕ) : Type 0 where
  in_withdrawn : ((ns : List Network) → Joined (PrefixBytes address_bits) ns withdrawn → ⊥) → WrongPrefix withdrawn announced
  in_announced : ((ns : List Network) → Joined (PrefixBytes address_bits) ns announced → ⊥) → WrongPrefix withdrawn announced

-- a condition on the body of an UPDATE, false of any other message
pub record InUpdate (condition : List ℕ → Type 0) (s : List ℕ) : Type 0 where
  pub is_update : message_type (frame (width_of s) s) ≡ update
  pub holds : condition (body (width_of s) s)

pub record Row : Type 1 where
  pub refusal : Refusal
  pub condition : List ℕ → Type 0

abbrev row : Refusal → (List ℕ → Type 0) → Row
row r c = record { refusal = r; condition = c }

-- the table, in the paper's order
unfoldable pub rows : List Row
rows =
    row Size WrongSize
    ∷ row MrtType WrongMrtType
    ∷ row Peer WrongPeer
    ∷ row Frame (λ s. WrongFrame (frame (width_of s) s))
    ∷ row Sections (InUpdate WrongSections)
    ∷ row Attributes (InUpdate (λ b. WrongAttributes (attributes_in b)))
    ∷ row Body (λ s. InUpdate (λ b. WrongBody (width_bytes (width_of s)) (attributes_in b)) s)
    ∷ row Prefix (InUpdate (λ b. WrongPrefix (withdrawn_in b) (announced_in b)))
    ∷ []

-- the first row of a table that holds of a record
pub data First (s : List ℕ) : List Row → Refusal → Type 1 where
  here : {r : Row} {more : List Row} → r.condition s → First s (r ∷ more) r.refusal
  later : {r : Row} {more : List Row} {x : Refusal} → (r.condition s → ⊥) → First s more x → First s (r ∷ more) x

-- no row holds
pub data None (s : List ℕ) : List Row → Type 1 where
  end : None s []
  next : {r : Row} {more : List Row} → (r.condition s → ⊥) → None s more → None s (r ∷ more)

-- a record is refused with the first row that holds, and readable where none does
abbrev pub RefusedWith : List ℕ → Refusal → Type 1
RefusedWith s r = First s rows r

abbrev pub Readable : List ℕ → Type 1
Readable s = None s rows
