-- A BGP message: its marker, its length and its type stand at their places. Assumes nothing.
use Prim.Native.Nat.{ℕ}
use native.Mathlib.Omega.{arith}
use mathlib.Core.Path.{◌≡◌, refl, sym, ap, ◌∙◌}
use mathlib.Core.List.{List, ◌++◌}
use lib.ListN.{take, drop, replicate, length-append}
use Rattle.octets.specs.Numbers.{Octets}
use Rattle.octets.proofs.Numbers.{number_one}
use Rattle.message.specs.Message.{Message}
use Rattle.message.specs.Represents.{marker_size, frame_header, BodyBytes, FrameBytes}
use Rattle.message.specs.Fields.{message_type}
use Rattle.message.proofs.Places.{Stands, here, field_here, after, cut, field_of}
use Rattle.message.proofs.Checks.{RightFrame}

-- what stands at the places of a message's frame
pub record FrameFields (m : Message) (l : List ℕ) : Type 0 where
  pub right : RightFrame l
  pub type : message_type l ≡ m.type
  pub body_is : BodyBytes m (drop frame_header l)

-- a message's frame has its type and its length at their places
pub frame_fields : {m : Message} {l : List ℕ} → FrameBytes m l → FrameFields m l
frame_fields {m} {l} f =
    let f0 : Stands l 0 (replicate marker_size 255) (f.size ++ (f.type ++ f.body)) = record { cut = f.joined } in
    let f16 : Stands l 16 f.size (f.type ++ f.body) = record { cut = after f0 16 refl } in
    let f18 : Stands l 18 f.type f.body = record { cut = after f16 18 (omega (arith, f.sized.long)) } in
    let f19 : drop frame_header l ≡ f.body = after f18 19 (omega (arith, f.type_is.long)) in
    record {
      right = record {
        long = rw f.joined (simp length-append (omega (arith, f.sized.long, f.type_is.long)));
        limited = f.limited;
        marked = here f0 16 refl;
        even = field_here f16 f.sized;
      };
      type = sym (number_one l 18) ∙ field_here f18 f.type_is;
      body_is = rw f19 f.body_is;
    }

-- bytes with a message's type and their own length at their places are its frame
pub fields_frame : {m : Message} {l : List ℕ} → Octets l → FrameFields m l → FrameBytes m l
fields_frame {m} {l} o f =
    let h = f.right.long in
    record {
      size = take 2 (drop 16 l);
      type = take 1 (drop 18 l);
      body = drop frame_header l;
      joined =
          cut l 0 16 16 refl (cut l 16 2 18 refl (cut l 18 1 19 refl refl))
          ∙ ap (λ (x : List ℕ). x ++ (take 2 (drop 16 l) ++ (take 1 (drop 18 l) ++ drop frame_header l))) f.right.marked;
      sized = field_of o 16 2 (omega arith) f.right.even;
      limited = f.right.limited;
      type_is = field_of o 18 1 (omega arith) (number_one l 18 ∙ f.type);
      body_is = f.body_is;
    }
