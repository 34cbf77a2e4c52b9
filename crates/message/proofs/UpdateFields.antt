-- The body of an UPDATE: its sections stand at their places. Assumes nothing.
use Prim.Native.Nat.{ℕ, ◌+◌, ◌≤◌}
use native.Mathlib.Omega.{arith}
use mathlib.Core.Path.{◌≡◌, refl, sym, ap, ◌∙◌}
use mathlib.Core.List.{List, ◌++◌, map}
use lib.ListN.{length, take, drop, length-append, length-drop}
use lib.Seq.{length-take-le}
use Rattle.octets.specs.Numbers.{Octets}
use Rattle.octets.specs.Rows.{Joined}
use Rattle.network.specs.Networks.{address_bits}
use Rattle.network.specs.Wire.{PrefixBytes}
use Rattle.aspath.specs.Wire.{width_bytes}
use Rattle.attributes.specs.Attribute.{code_of}
use Rattle.attributes.specs.Bodies.{AttributeBytes}
use Rattle.attributes.specs.Codes.{Twice}
use Rattle.message.specs.Message.{Message}
use Rattle.message.specs.Represents.{UpdateBytes}
use Rattle.message.specs.Fields.{withdrawn_size, attributes_size, withdrawn_in, attributes_in, announced_in}
use Rattle.message.proofs.Places.{Stands, here, field_here, after, cut, field_of}

-- what stands at the places of an UPDATE's body
pub record UpdateFields (m : Message) (b : List ℕ) : Type 0 where
  pub fits : 4 + withdrawn_size b + attributes_size b ≤ length b
  pub withdrawn_are : Joined (PrefixBytes address_bits) m.withdrawn (withdrawn_in b)
  pub attributes_are : Joined (AttributeBytes (width_bytes m.width)) m.attributes (attributes_in b)
  pub once : Twice (map code_of m.attributes) → ⊥
  pub announced_are : Joined (PrefixBytes address_bits) m.announced (announced_in b)

-- the body of an UPDATE has its sections at their places
pub update_fields : {m : Message} {b : List ℕ} → UpdateBytes m b → UpdateFields m b
update_fields {m} {b} u =
    let n = withdrawn_size b in
    let k = attributes_size b in
    let u0 : Stands b 0 u.withdrawn_size (u.withdrawn ++ (u.attributes_size ++ (u.attributes ++ u.announced))) = record { cut = u.joined } in
    let n_is : n ≡ length u.withdrawn = field_here u0 u.withdrawn_sized in
    let u1 : Stands b 2 u.withdrawn (u.attributes_size ++ (u.attributes ++ u.announced))
    = record { cut = after u0 2 (omega (arith, u.withdrawn_sized.long)) } in
    let u2 : Stands b (2 + n) u.attributes_size (u.attributes ++ u.announced) = record { cut = after u1 (2 + n) (omega arith) } in
    let k_is : k ≡ length u.attributes = field_here u2 u.attributes_sized in
    let u3 : Stands b (4 + n) u.attributes u.announced
    = record { cut = after u2 (4 + n) (omega (arith, u.attributes_sized.long)) } in
    let u4 : announced_in b ≡ u.announced = after u3 (4 + n + k) (omega arith) in
    let long : length b ≡ 4 + length u.withdrawn + length u.attributes + length u.announced
    = ap length u.joined ∙ simp length-append (omega (arith, u.withdrawn_sized.long, u.attributes_sized.long)) in
    record {
      fits = omega arith;
      withdrawn_are = rw (here u1 n (sym n_is)) u.withdrawn_are;
      attributes_are = rw (here u3 k (sym k_is)) u.attributes_are;
      once = u.once;
      announced_are = rw u4 u.announced_are;
    }

-- bytes with sections at their places are the body of an UPDATE
pub fields_update : {m : Message} {b : List ℕ} → Octets b → UpdateFields m b → UpdateBytes m b
fields_update {m} {b} o f =
    let n = withdrawn_size b in
    let k = attributes_size b in
    let h = f.fits in
    record {
      withdrawn_size = take 2 b;
      withdrawn = withdrawn_in b;
      attributes_size = take 2 (drop (2 + n) b);
      attributes = attributes_in b;
      announced = announced_in b;
      joined =
          cut b 0 2 2 refl
          (cut b 2 n (2 + n) refl
          (cut b (2 + n) 2 (4 + n) (omega arith)
          (cut b (4 + n) k (4 + n + k) refl refl)));
      withdrawn_sized = field_of o 0 2 (omega arith) (sym (length-take-le n (drop 2 b) (simp length-drop (omega arith))));
      withdrawn_are = f.withdrawn_are;
      attributes_sized = field_of o (2 + n) 2 (omega arith) (sym (length-take-le k (drop (4 + n) b) (simp length-drop (omega arith))));
      attributes_are = f.attributes_are;
      once = f.once;
      announced_are = f.announced_are;
    }
