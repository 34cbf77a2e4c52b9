-- `-aspath`: optional `^`, items parted by blanks, optional `$`; blanks around these are free.
use Rattle.std.specs.Prelude.{ℕ, ◌≡◌, Bool, true, false, List, [], ◌∷◌, ◌++◌, Option, None, Some}
use Rattle.octets.specs.Choice.{pick, or_else, onward}
use Rattle.octets.specs.Lists.{Every}
use Rattle.aspath.specs.declared.Item.{Item}
use Rattle.aspath.specs.declared.Item.TheVariants.{Number, Other, Any}
use Rattle.aspath.specs.Patterns.{Pattern}
use Rattle.token.specs.Texts.{Blank}
use Rattle.operand.specs.Fronts.{Read, read, ended, after, optional, cut}
use Rattle.operand.specs.Parted.{PartedText, all_parted}
use Rattle.token.specs.Next.{is_blank}
use Rattle.operand.specs.AsNumbers.{AsNumber, as_number}

-- an AS number, `.`, or `!` directly before a number
pub data ItemText : List ℕ → Item → Type 0 where
  a_number : {bs : List ℕ} {n : ℕ} → AsNumber bs n → ItemText bs (Number n)
  not_it : {bs : List ℕ} {n : ℕ} → AsNumber bs n → ItemText (33 ∷ bs) (Other n)
  any : ItemText (46 ∷ []) Any

-- blanks, maybe `^`, blanks, the items, blanks, maybe `$`, blanks
pub record PatternOperand (bs : List ℕ) (p : Pattern) : Type 0 where
  pub before : List ℕ
  pub between : List ℕ
  pub text : List ℕ
  pub behind : List ℕ
  pub after : List ℕ
  pub joined : bs ≡ before ++ (pick p.start (94 ∷ []) [] ++ (between ++ (text ++ (behind ++ (pick p.end (36 ∷ []) [] ++ after)))))
  pub before_blank : Every Blank before
  pub between_blank : Every Blank between
  pub behind_blank : Every Blank behind
  pub after_blank : Every Blank after
  pub items_are : PartedText ItemText text p.items
  -- wholly empty is bad
  pub not_empty : p.start ≡ false → p.end ≡ false → p.items ≡ [] → ⊥

-- ---- what the code computes

-- the item at the front
unfoldable pub item_read : List ℕ → Option (Read Item)
item_read l =
    or_else (onward (as_number l) (λ n. Some (read (Number n.value) n.rest)))
    (or_else (onward (after 46 l) (λ r. Some (read Any r)))
    (onward (after 33 l) (λ r. onward (as_number r) (λ n. Some (read (Other n.value) n.rest)))))

-- `^`, `$` or an item
abbrev pub has_part : Bool → List Item → Bool → Bool
has_part true is e = true
has_part false is true = true
has_part false [] false = false
has_part false (i ∷ is) false = true

-- what stands behind the items: maybe `$`, blanks, and no more
abbrev pub pattern_closed : Bool → List Item → Read Bool → Option Pattern
pattern_closed s is e = pick (has_part s is e.value) (ended (cut is_blank e.rest).rest (record { start = s; items = is; end = e.value })) None

-- blanks and maybe `^`
abbrev pub pattern_opened : List ℕ → Read Bool
pattern_opened l = optional 94 (cut is_blank l).rest

-- the items behind these and blanks
abbrev pub pattern_items : List ℕ → Read (List Item)
pattern_items l = all_parted item_read (cut is_blank (pattern_opened l).rest).rest

-- the pattern that these bytes write
unfoldable pub pattern_operand : List ℕ → Option Pattern
pattern_operand l = pattern_closed (pattern_opened l).value (pattern_items l).value (optional 36 (pattern_items l).rest)
