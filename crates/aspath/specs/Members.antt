-- A path: its segments, and the members that tests look at.
use Rattle.std.specs.Prelude.{ℕ, Bool, List, [], ◌∷◌, ◌++◌, map, eqb}

pub data SegmentType : Type 0 where
  set sequence : SegmentType

-- a segment of an AS_PATH
pub record Segment : Type 0 where
  pub type : SegmentType
  pub numbers : List ℕ

-- a member of a path: a number of a segment
pub data Member : Type 0 where
  number : ℕ → Member

-- the path: the numbers of all segments, in wire order, in one list
unfoldable pub members : List Segment → List Member
members [] = []
members (s ∷ more) = map number s.numbers ++ members more

-- a number is in a member. Tests of a path know of a member only which numbers are in it.
pub data Holds : Member → ℕ → Type 0 where
  itself : {n : ℕ} → Holds (number n) n

-- some number in a member is as P says
pub record HoldsSome (P : ℕ → Type 0) (m : Member) : Type 0 where
  pub n : ℕ
  pub holds : Holds m n
  pub is : P n

-- ---- what the code computes

-- the member that the code's number stands for
abbrev pub member_of : ℕ → Member
member_of n = number n

unfoldable pub holds : Member → ℕ → Bool
holds (number m) n = eqb m n

-- some number in a member passes a test
unfoldable pub some_held : Member → (ℕ → Bool) → Bool
some_held (number m) test = test m
