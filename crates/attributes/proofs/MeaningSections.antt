-- What the attributes of a section say: its bytes are those attributes, joined, and read back. Assumes nothing.
use Prim.Native.Nat.{ℕ}
use mathlib.Core.Path.{◌≡◌, refl}
use mathlib.Core.Bool.{true}
use mathlib.Core.List.{List, [], ◌∷◌, map}
use Rattle.octets.specs.Numbers.{Octets}
use Rattle.octets.specs.Rows.{Joined, none, more, whole}
use Rattle.octets.proofs.Rows.{joined_whole, joined_items, whole_joined}
use Rattle.attributes.specs.Attribute.{Attribute, code_of}
use Rattle.attributes.specs.Wire.{Raw, RawBytes, attribute_size, raws_of, codes}
use Rattle.attributes.specs.Bodies.{AttributeBytes, body_right, all_right, said, attributes_of}
use Rattle.octets.proofs.Choices.{each}
use Rattle.attributes.proofs.RawReads.{raw_reads}
use Rattle.attributes.proofs.MeaningBodies.{right_says, says_right, says_said}

-- the raw attributes in joined attributes
record Raws (w : ℕ) (attributes : List Attribute) (l : List ℕ) : Type 0 where
  raws : List Raw
  joined : Joined RawBytes raws l
  right : all_right w raws ≡ true
  same : map (said w) raws ≡ attributes
  coded : codes raws ≡ map code_of attributes

-- a section is attributes to its end, their bodies are right, and these are the attributes read
pub record Tells (w : ℕ) (attributes : List Attribute) (l : List ℕ) : Type 0 where
  pub to_end : whole attribute_size l ≡ true
  pub right : all_right w (raws_of l) ≡ true
  pub same : attributes_of w l ≡ attributes
  pub coded : codes (raws_of l) ≡ map code_of attributes

module _ (w : ℕ) where
  -- raw attributes whose bodies are right are what they say
  joined_said : {raws : List Raw} {l : List ℕ} → Joined RawBytes raws l → all_right w raws ≡ true → Joined (AttributeBytes w) (map (said w) raws) l
  unfolding all_right
  joined_said none e = none
  joined_said (more {a = r} x j q) e =
      let b = each (body_right w r.code r.body) _ e in
      more (record { raw = r; wire = x; says = right_says w r b.0 x.octets }) (joined_said j b.1) q

  -- a section of whole attributes with right bodies is the attributes read, joined
  pub attributes_joined : {l : List ℕ} → Octets l → whole attribute_size l ≡ true → all_right w (raws_of l) ≡ true
      → Joined (AttributeBytes w) (attributes_of w l) l
  attributes_joined o h e = joined_said (whole_joined raw_reads o h) e

  raws_of_lem : {attributes : List Attribute} {l : List ℕ} → Joined (AttributeBytes w) attributes l → Raws w attributes l
  unfolding all_right
  raws_of_lem none = record { raws = []; joined = none; right = refl; same = refl; coded = refl }
  raws_of_lem (more {a = a} {more_items = attributes} {rest = rest} {joined = l} x j q) = go (raws_of_lem j)
    where
      go : Raws w attributes rest → Raws w (a ∷ attributes) l
      go m = record {
        raws = x.raw ∷ m.raws;
        joined = more x.wire m.joined q;
        right = rw (says_right w x.says) m.right;
        same = cc (says_said w x.says, m.same);
        coded = cc (x.says.coded, m.coded);
      }

  -- joined attributes are read back
  pub joined_raws : {attributes : List Attribute} {l : List ℕ} → Joined (AttributeBytes w) attributes l → Tells w attributes l
  joined_raws {attributes} {l} j =
      let m = raws_of_lem j in
      let e : raws_of l ≡ m.raws = joined_items raw_reads m.joined in
      record {
        to_end = joined_whole raw_reads m.joined;
        right = rw e m.right;
        same = rw e m.same;
        coded = rw e m.coded;
      }
