-- Laws of the codes of a section's attributes. Assumes nothing.
use Prim.Native.Nat.{ℕ, ◌<◌}
use native.Mathlib.Omega.{arith}
use mathlib.Core.Path.{◌≡◌, refl}
use mathlib.Core.Bool.{false}
use mathlib.Core.List.{List, [], ◌∷◌, map}
use lib.Dec.{eqb}
use borrow.Author.Tests.{ne_eqb}
use Rattle.octets.specs.Numbers.{Octets}
use Rattle.octets.specs.Lists.{Every, every_none, every_more, some_passes}
use Rattle.octets.proofs.Items.{items_every}
use Rattle.attributes.specs.Attribute.{code_of}
use Rattle.attributes.specs.Wire.{Raw, attribute_size, raw_of, raws_of, codes}
use Rattle.attributes.specs.Codes.{elem}
use Rattle.attributes.specs.Bodies.{said, attributes_of}
use Rattle.attributes.proofs.ByCode.{by_code, said_other}

-- what a raw attribute says has its code
said_code : (w : ℕ) (r : Raw) → code_of (said w r) ≡ r.code
unfolding said code_of
said_code w =
    by_code (λ body. refl) (λ body. refl) (λ body. refl) (λ body. refl) (λ body. refl) (λ body. refl) (λ r u. rw (said_other w r u) refl)

raws_coded : (w code : ℕ) (raws : List Raw) → some_passes (λ a. eqb (code_of a) code) (map (said w) raws) ≡ elem code (codes raws)
unfolding elem some_passes
raws_coded w code [] = refl
raws_coded w code (r ∷ raws) = rw (said_code w r, raws_coded w code raws) refl

-- the attributes of a section have its codes
pub some_coded : (w code : ℕ) (l : List ℕ) → some_passes (λ a. eqb (code_of a) code) (attributes_of w l) ≡ elem code (codes (raws_of l))
some_coded w code l = raws_coded w code (raws_of l)

-- a code is one byte
record Byte (r : Raw) : Type 0 where
  below : r.code < 256

none_over : {code : ℕ} → 255 < code → {raws : List Raw} → Every Byte raws → elem code (codes raws) ≡ false
unfolding elem
none_over h every_none = refl
none_over {code} h (every_more {a = r} b bs) =
    let n : r.code ≡ code → ⊥ = λ e. omega (arith, b.below) in
    rw (ne_eqb _ _ n) (none_over h bs)

-- so none is over 255
pub over_none : {code : ℕ} (l : List ℕ) → Octets l → 255 < code → elem code (codes (raws_of l)) ≡ false
unfolding raw_of
over_none l o h = none_over h (items_every attribute_size raw_of (λ m p. record { below = p.below 1 }) o)
