-- What the code makes of the parts of a pattern. Assumes nothing.
use Prim.Native.Nat.{ℕ, ◌+◌, ◌≤◌}
use native.Mathlib.Omega.{arith}
use mathlib.Core.Path.{◌≡◌, refl, sym, ap, ◌∙◌}
use mathlib.Core.Bool.{Bool, true, false}
use Rattle.std.specs.Prelude.{None, Some}
use mathlib.Core.List.{List, [], ◌∷◌, map}
use lib.ListN.{length, length-append, length-map}
use Rattle.octets.specs.Choice.{pick}
use Rattle.octets.proofs.Choices.{alike}
use Rattle.aspath.specs.declared.Item.{Item}
use Rattle.aspath.specs.Patterns.{Pattern}
use Rattle.program.specs.Kinds.{path_kind}
use Rattle.program.specs.Layout.{fields, ends_code, head_fields}
use Rattle.program.specs.Readings.{path_matches}
use Rattle.program.specs.Records.{item}
use Rattle.program.specs.Compiling.{head_of, items_of}
use Rattle.operand.specs.declared.Head.{Head}
use Rattle.operand.specs.declared.Listed.TheVariants.{Items as item_list}
use Rattle.operand.specs.declared.Name.TheVariants.{Path as path_name}
use Rattle.operand.specs.Fronts.{Read, read, ended, optional, cut}
use Rattle.operand.specs.Parted.{all_parted}
use Rattle.operand.specs.Patterns.{item_read, has_part, pattern_opened, pattern_items, pattern_operand}
use Rattle.operand.specs.Listed.{listed_read, listed_records}
use Rattle.operand.specs.Tests.{meaning, following_meant, meant_of}
use Rattle.token.specs.Next.{is_blank}
use Rattle.operand.proofs.FrontReads.{optional_sound}
use Rattle.operand.proofs.PartedLaws.{cut_shorter}
use Rattle.operand.proofs.Said.{ended_end, ended_left}
use Rattle.operand.proofs.MeantFollows.{some_follow}
use Rattle.operand.proofs.OperandPatterns.{items_in}

-- a pattern is wholly empty where it has no sign and no item
empty_found : (x y : Bool) (is : List Item) → ends_code x y + length is ≡ 0 → has_part x is y ≡ false
empty_found true true is e = absurd (omega arith)
empty_found true false is e = absurd (omega arith)
empty_found false true is e = absurd (omega arith)
empty_found false false [] e = refl
empty_found false false (i ∷ is) e = absurd (omega arith)

-- and else is not
some_found : (x y : Bool) (is : List Item) → (ends_code x y + length is ≡ 0 → ⊥) → has_part x is y ≡ true
some_found true y is n = refl
some_found false true is n = refl
some_found false false [] n = absurd (n refl)
some_found false false (i ∷ is) n = refl

-- a variant is small
pub ends_small : (x y : Bool) → ends_code x y ≤ 3
ends_small true true = omega arith
ends_small true false = omega arith
ends_small false true = omega arith
ends_small false false = omega arith

-- no bytes are added
optional_shorter : (b : ℕ) (l : List ℕ) → length (optional b l).rest ≤ length l
optional_shorter b l = omega (arith, ap length (optional_sound b l), length-append (pick (optional b l).value (b ∷ []) []) (optional b l).rest)

pub opened_shorter : (l : List ℕ) → length (cut is_blank (pattern_opened l).rest).rest ≤ length l
opened_shorter l =
    omega (arith, cut_shorter is_blank l, optional_shorter 94 (cut is_blank l).rest, cut_shorter is_blank (pattern_opened l).rest)

module _ (s : List ℕ) {first : List ℕ} (b : first ≡ (cut is_blank (pattern_opened s).rest).rest) where
  items_at : pattern_items s ≡ all_parted item_read first
  items_at = ap (λ (l : List ℕ). all_parted item_read l) (sym b)

  -- the records of a pattern that is meant are those of its items
  pub items_follow : {h : Head} → Some h ≡ meant_of (meaning path_name s) → listed_records item_list first ≡ following_meant (meaning path_name s)
  unfolding meaning items_of listed_read
  items_follow e =
      sym (some_follow (pattern_operand s) path_matches (λ p m. ap (map item) (sym (items_in s m) ∙ ap (λ (r : Read (List Item)). r.value) items_at)) e)

  module _ {caret dollar : Bool} (a : caret ≡ (pattern_opened s).value) {count : ℕ} (n : count ≡ length (all_parted item_read first).value)
      {behind after last : List ℕ} (l : behind ≡ (all_parted item_read first).rest) (d : read dollar after ≡ optional 36 behind)
      (e : last ≡ (cut is_blank after).rest) where
    abbrev found : List Item
    found = (all_parted item_read first).value

    -- an operand by its parts
    by_parts : pattern_operand s ≡ pick (has_part caret found dollar) (ended last (record { start = caret; items = found; end = dollar })) None
    unfolding pattern_operand
    by_parts = rw (items_at, ← a, ← l, ← d, ← e)

    -- one with bytes left behind its pattern
    pub broken_behind : (length last ≡ 0 → ⊥) → None ≡ meant_of (meaning path_name s)
    unfolding meaning
    broken_behind h = rw (by_parts, alike (has_part caret found dollar) (ended_left {A = Pattern} last (record { start = caret; items = found; end = dollar }) h) refl)

    -- a wholly empty one
    pub broken_empty : ends_code caret dollar + count ≡ 0 → None ≡ meant_of (meaning path_name s)
    unfolding meaning
    broken_empty z = rw (by_parts, empty_found caret dollar found (omega (arith, n)))

    -- a pattern
    pub pattern_here : length last ≡ 0 → (ends_code caret dollar + count ≡ 0 → ⊥)
        → Some (record { fields = fields path_kind (ends_code caret dollar) count 0 0; following = count }) ≡ meant_of (meaning path_name s)
    unfolding meaning head_of items_of head_fields
    pattern_here z h =
        rw (
          by_parts,
          some_found caret dollar found (λ y. h (omega (arith, n, y))),
          ended_end {A = Pattern} last (record { start = caret; items = found; end = dollar }) z,
          length-map found item,
          n,
        )
