-- For each test an operand and what it means: every rule is kept by some operand. Assumes nothing.
use Prim.Native.Nat.{ℕ, ◌+◌, ◌<◌}
use native.Mathlib.Omega.{arith}
use mathlib.Core.Path.{◌≡◌, refl}
use mathlib.Core.Bool.{false}
use mathlib.Core.List.{List, [], ◌∷◌, ◌++◌}
use Rattle.network.specs.Networks.{address_bits, masked}
use Rattle.aspath.specs.Patterns.{Pattern}
use Rattle.aspath.specs.declared.Item.{Item}
use Rattle.aspath.specs.declared.Item.TheVariants.{Any}
use Rattle.program.specs.Readings.{by_as, either_side, equal, Test, type_is, has_attribute, path_matches, peer_is, network_is, time_is, has_communities}
use Rattle.octets.specs.Choice.{pick}
use Rattle.octets.specs.Lists.{every_none}
use Rattle.octets.specs.Decimal.{digit}
use Rattle.operand.specs.Decimals.{byte_limit, Below}
use Rattle.operand.specs.AsNumbers.{as_limit}
use Rattle.operand.specs.AsNumbers as as_numbers
use Rattle.operand.specs.Codes.{by_code}
use Rattle.operand.specs.Peers.{as_only}
use Rattle.operand.specs.Addresses.{plain}
use Rattle.operand.specs.Patterns.{ItemText, any, PatternOperand}
use Rattle.operand.specs.Parted.{PartedText, last}
use Rattle.communities.specs.Communities.{half_limit}
use Rattle.operand.specs.Communities.{CommunityText, halves}
use Rattle.operand.specs.Times.{seconds_limit, unsigned, whole}
use Rattle.operand.specs.declared.Name.{Name}
use Rattle.operand.specs.declared.Name.TheVariants.{MessageType as type_name, Attribute as attribute_name, Path as path_name, Peer as peer_name, Time as time_name, Network as network_name, Communities as communities_name}
use Rattle.operand.specs.Tests.{StandsFor, type, attribute, path, peer, network, time, communities}

-- `.` for `-aspath`, `0.0.0.0/0` for a network, `0:0` for `-communities`, `0` for the others
abbrev pub sample_text : Name → List ℕ
sample_text type_name = 48 ∷ []
sample_text attribute_name = 48 ∷ []
sample_text path_name = 46 ∷ []
sample_text peer_name = 48 ∷ []
sample_text time_name = 48 ∷ []
sample_text communities_name = 48 ∷ 58 ∷ 48 ∷ []
sample_text (network_name r) = 48 ∷ 46 ∷ 48 ∷ 46 ∷ 48 ∷ 46 ∷ 48 ∷ 47 ∷ 48 ∷ []

abbrev pub sample_test : Name → Test
sample_test type_name = type_is 0
sample_test attribute_name = has_attribute 0
sample_test path_name = path_matches (record { start = false; items = Any ∷ []; end = false })
sample_test peer_name = peer_is (by_as 0)
sample_test time_name = time_is equal 0 0
sample_test communities_name = has_communities (0 ∷ [])
sample_test (network_name r) = network_is r (masked address_bits 0 0) either_side

-- `0` is 0
zero_below : (limit : ℕ) → 0 < limit → Below limit (48 ∷ []) 0
zero_below limit h = record { decimal = digit 0 (omega arith); below = h }

-- `0:0` is 0
pub zero_community : CommunityText (48 ∷ 58 ∷ 48 ∷ []) 0
zero_community = halves (zero_below half_limit (omega arith)) (zero_below half_limit (omega arith)) refl

-- a pattern with no blank before, between or behind its parts
pub unspaced : (p : Pattern) {text : List ℕ} → PartedText ItemText text p.items → (p.start ≡ false → p.end ≡ false → p.items ≡ [] → ⊥)
    → PatternOperand (pick p.start (94 ∷ []) [] ++ (text ++ (pick p.end (36 ∷ []) [] ++ []))) p
unspaced p {text} i f = record {
  before = [];
  between = [];
  text = text;
  behind = [];
  after = [];
  joined = refl;
  before_blank = every_none;
  between_blank = every_none;
  behind_blank = every_none;
  after_blank = every_none;
  items_are = i;
  not_empty = f;
}

-- what each of these means
pub sample : (k : Name) → StandsFor k (sample_text k) (sample_test k)
sample type_name = type (by_code (zero_below byte_limit (omega arith)))
sample attribute_name = attribute (by_code (zero_below byte_limit (omega arith)))
sample path_name =
    path (unspaced (record { start = false; items = Any ∷ []; end = false }) (last any) (λ s e i. no_item i))
  where
    no_item : ◌≡◌ {A = List Item} (Any ∷ []) [] → ⊥
    no_item e = let z : ◌≡◌ {A = ℕ} 0 1 = cc in omega arith
sample peer_name = peer (as_only (as_numbers.plain (zero_below as_limit (omega arith))))
sample time_name = time (record { sign = []; whole = 48 ∷ []; rest = []; joined = refl; sign_is = unsigned; whole_is = zero_below seconds_limit (omega arith); rest_is = whole })
sample communities_name = communities (record { parted = last zero_community; some = omega arith })
sample (network_name r) =
    network (plain (record {
      address = 0;
      len = 0;
      address_text = 48 ∷ 46 ∷ 48 ∷ 46 ∷ 48 ∷ 46 ∷ 48 ∷ [];
      len_text = 48 ∷ [];
      joined = refl;
      address_is = record {
        a = 0;
        b = 0;
        c = 0;
        d = 0;
        aText = 48 ∷ [];
        bText = 48 ∷ [];
        cText = 48 ∷ [];
        dText = 48 ∷ [];
        joined = refl;
        a_is = zero_below byte_limit (omega arith);
        b_is = zero_below byte_limit (omega arith);
        c_is = zero_below byte_limit (omega arith);
        d_is = zero_below byte_limit (omega arith);
        value = refl;
      };
      len_is = zero_below (address_bits + 1) (omega arith);
      value = refl;
    }))
