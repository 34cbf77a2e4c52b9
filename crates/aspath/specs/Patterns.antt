-- `-aspath`: items that match neighbouring members of the path, pinned to its ends by `^` and `$` or not.
use Rattle.std.specs.Prelude.{◌≡◌, Bool, true, false, not, List, [], ◌∷◌, ◌++◌}
use Rattle.octets.specs.Choice.{pick}
use Rattle.aspath.specs.declared.Item.{Item}
use Rattle.aspath.specs.declared.Item.TheVariants.{Number, Other, Any}
use Rattle.aspath.specs.Members.{Member, Holds, holds}

-- an item matches a member: the number is in it; the number isn't; always
unfoldable pub Fits : Item → Member → Type 0
Fits (Number n) m = Holds m n
Fits (Other n) m = Holds m n → ⊥
Fits Any m = Unit {0}

-- each item matches the member at its place
pub data EachFits : List Item → List Member → Type 0 where
  none : EachFits [] []
  more : {i : Item} {m : Member} {is : List Item} {ms : List Member} → Fits i m → EachFits is ms → EachFits (i ∷ is) (m ∷ ms)

-- a pattern: whether it starts with `^`, its items, whether it ends with `$`
pub record Pattern : Type 0 where
  pub start : Bool
  pub items : List Item
  pub end : Bool

-- the items match neighbouring members, from some place on: the first under `^`, up to the last under `$`
pub record Matches (p : Pattern) (path : List Member) : Type 0 where
  pub before : List Member
  pub middle : List Member
  pub after : List Member
  pub joined : path ≡ before ++ middle ++ after
  pub each : EachFits p.items middle
  pub starts : p.start ≡ true → before ≡ []
  pub ends : p.end ≡ true → after ≡ []

-- ---- what the code computes

abbrev pub fits : Item → Member → Bool
fits (Number n) m = holds m n
fits (Other n) m = not (holds m n)
fits Any m = true

-- the items match members from the front; to the end where end is true
unfoldable pub matches_here : Bool → List Item → List Member → Bool
matches_here end [] [] = true
matches_here end [] (m ∷ ms) = not end
matches_here end (i ∷ is) [] = false
matches_here end (i ∷ is) (m ∷ ms) = pick (fits i m) (matches_here end is ms) false

-- from some place on
unfoldable pub matches_some : Bool → List Item → List Member → Bool
matches_some end is [] = matches_here end is []
matches_some end is (m ∷ ms) = pick (matches_here end is (m ∷ ms)) true (matches_some end is ms)

abbrev pub matches : Pattern → List Member → Bool
matches p path = pick p.start (matches_here p.end p.items path) (matches_some p.end p.items path)
