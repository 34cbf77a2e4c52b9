-- What `is_bogon` and `some_bogon` decide: a number lies in a range of the table, and some number of a path does. Assumes nothing.
use Prim.Native.Nat.{ℕ}
use mathlib.Core.Path.{◌≡◌}
use mathlib.Core.Bool.{true}
use mathlib.Core.List.{List}
use borrow.Author.Tests.{leb-true, le-leb}
use Rattle.octets.proofs.Choices.{pick_both}
use Rattle.octets.proofs.Some.{passes_sound, passes_complete}
use Rattle.aspath.specs.declared.Range.{Range}
use Rattle.aspath.specs.Members.{Member}
use Rattle.aspath.specs.Bogons.{Within, Bogon, HasBogon, in_range, is_bogon, some_bogon}
use Rattle.aspath.proofs.MeaningMembers.{held_sound, held_complete}

-- a number that was found in a range lies in it
range_sound : (n : ℕ) (r : Range) → in_range n r ≡ true → Within n r
range_sound n r e = let b = (pick_both _ _).0 e in record { above = leb-true _ _ b.0; below = leb-true _ _ b.1 }

-- and none is missed
range_complete : (n : ℕ) (r : Range) → Within n r → in_range n r ≡ true
range_complete n r x = (pick_both _ _).1 (le-leb _ _ x.above, le-leb _ _ x.below)

-- a number that was found in the table is a bogon
pub bogon_sound : {n : ℕ} → is_bogon n ≡ true → Bogon n
unfolding is_bogon
bogon_sound {n} e = record { listed = passes_sound (range_sound n) e }

-- and none is missed
pub bogon_complete : {n : ℕ} → Bogon n → is_bogon n ≡ true
unfolding is_bogon
bogon_complete {n} b = passes_complete (range_complete n) b.listed

-- a path where a bogon was found has one
pub some_sound : {path : List Member} → some_bogon path ≡ true → HasBogon path
unfolding some_bogon
some_sound e = record { some = passes_sound (λ m h. held_sound (λ n. bogon_sound) h) e }

-- and none is missed
pub some_complete : {path : List Member} → HasBogon path → some_bogon path ≡ true
unfolding some_bogon
some_complete x = passes_complete (λ m h. held_complete (λ n. bogon_complete) h) x.some
