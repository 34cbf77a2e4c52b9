-- Laws of a line, which has text just where there are prefixes, and of both lines. Assumes nothing.
use Prim.Native.Nat.{ℕ, zero, suc}
use native.Mathlib.Omega.{arith}
use mathlib.Core.Bool.{true, false}
use Rattle.std.specs.Option.{is_some}
use mathlib.Core.Path.{◌≡◌, refl, sym, ap, ◌∙◌}
use mathlib.Core.List.{List, [], ◌∷◌, ◌++◌, append_assoc}
use Rattle.octets.specs.Rows.{sized, items_in}
use Rattle.octets.proofs.Choices.{never}
use Rattle.octets.specs.Writes.{Written}
use Rattle.octets.proofs.Rows.{items_next, items_end}
use Rattle.octets.proofs.Writes.{both}
use Rattle.network.specs.Networks.{address_bits, Network}
use Rattle.network.specs.Wire.{prefix_size, network_of}
use Rattle.network.proofs.Prefixes.{prefix_sizes}
use Rattle.aspath.specs.Wire.{width_bytes}
use Rattle.attributes.specs.Attribute.{Attribute}
use Rattle.attributes.specs.Bodies.{attributes_of}
use Rattle.message.specs.declared.Parts.{Parts}
use Rattle.message.specs.Decode.{part_of, networks_of, message_at}
use Rattle.line.specs.Text.{bar, following, separated, prefixes_text}
use Rattle.line.specs.Line.{attribute_fields, closing_fields, line_of, lines_of}

-- where no size is there it is 0
pub no_size : {n : ℕ} → is_some (sized n) ≡ false → n ≡ 0
no_size {n = zero} e = refl
no_size {n = suc n} e = never (sym e)

-- and where one is it isn't
pub some_size : {n : ℕ} → is_some (sized n) ≡ true → n ≡ 0 → ⊥
some_size {n = zero} e z = never e
some_size {n = suc n} e z = omega arith

-- texts after others, each after a separator
following_append : (separator : ℕ) (xs ys : List (List ℕ)) → following separator (xs ++ ys) ≡ following separator xs ++ following separator ys
unfolding following
following_append separator [] ys = refl
following_append separator (x ∷ xs) ys =
    ap (λ (l : List ℕ). ((separator ∷ []) ++ x) ++ l) (following_append separator xs ys)
    ∙ sym (append_assoc ((separator ∷ []) ++ x) (following separator xs) (following separator ys))

-- the first two of more
separated_two : (separator : ℕ) (x y : List ℕ) (more : List (List ℕ))
    → separated separator (x ∷ y ∷ more) ≡ x ++ ((separator ∷ []) ++ (y ++ following separator more))
unfolding separated following
separated_two separator x y more = refl

module _ (type : ℕ) (attributes : List Attribute) (closing : List (List ℕ)) where
  -- the parts of a line as they are written one after another
  abbrev line_text : List Network → List ℕ
  line_text networks =
      (type ∷ []) ++ ((bar ∷ []) ++ (prefixes_text networks
      ++ (following bar (attribute_fields attributes) ++ (following bar closing ++ (10 ∷ [])))))

  -- these are its fields with bars between, and LF
  pub line_cons : (n : Network) (more : List Network) → line_of type (n ∷ more) attributes closing ≡ line_text (n ∷ more)
  unfolding line_of
  line_cons n more =
      let p = prefixes_text (n ∷ more) in
      let f = following bar (attribute_fields attributes) in
      let g = following bar closing in
      ap (λ (l : List ℕ). l ++ (10 ∷ []))
      (separated_two bar (type ∷ []) p (attribute_fields attributes ++ closing)
      ∙ ap (λ (l : List ℕ). type ∷ bar ∷ (p ++ l)) (following_append bar (attribute_fields attributes) closing))
      ∙ ap (λ (l : List ℕ). type ∷ bar ∷ l) (append_assoc p (f ++ g) (10 ∷ []) ∙ ap (λ (l : List ℕ). p ++ l) (append_assoc f g (10 ∷ [])))

  -- where no prefix stands there is no line
  pub line_none : (prefixes : List ℕ) → prefix_size address_bits prefixes ≡ 0 → line_of type (networks_of prefixes) attributes closing ≡ []
  unfolding line_of
  line_none prefixes z = rw (items_end (prefix_size address_bits) (network_of address_bits) prefixes z) refl

  -- where one stands there is
  pub line_some : (prefixes : List ℕ) → (prefix_size address_bits prefixes ≡ 0 → ⊥) → line_of type (networks_of prefixes) attributes closing ≡ line_text (networks_of prefixes)
  line_some prefixes n = rw (items_next (prefix_size address_bits) (network_of address_bits) (prefix_sizes address_bits) prefixes n) (line_cons _ _)

-- the fields that end the lines of a message's parts
abbrev closing_of : Parts → List (List ℕ)
closing_of p = closing_fields p.address p.peer p.seconds p.width

-- the line of what is announced and that of what is withdrawn, with no attributes, one after the other
pub lines_written : {old mid new : List ℕ} {at q r : ℕ} (s : List ℕ) (p : Parts) {announced attributes withdrawn none : List ℕ}
    → announced ≡ part_of s p.announced → attributes ≡ part_of s p.attributes → withdrawn ≡ part_of s p.withdrawn → none ≡ []
    → Written old at (line_of 43 (networks_of announced) (attributes_of (width_bytes p.width) attributes) (closing_of p)) mid q
    → Written mid q (line_of 45 (networks_of withdrawn) (attributes_of (width_bytes p.width) none) (closing_of p)) new r
    → Written old at (lines_of (message_at s p)) new r
unfolding lines_of message_at items_in
lines_written s p e f g h v w = both _ _ (rw (e, f) at v) (rw (g, h) at w)
