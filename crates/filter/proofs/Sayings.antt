-- The words of the vocabulary can be written, and every role is said by one. Assumes nothing.
use Prim.Native.Nat.{ℕ, ◌≤◌, ◌<◌}
use native.Mathlib.Omega.{arith}
use mathlib.Core.Path.{◌≡◌, refl}
use mathlib.Core.Bool.{Bool, true, false}
use mathlib.Core.List.{List, [], ◌∷◌}
use lib.Dec.{leb}
use lib.ListN.{length, get_or}
use borrow.Author.Tests.{leb-true}
use Rattle.octets.specs.Choice.{pick}
use Rattle.octets.specs.Lists.{Every, every_none, every_more, every_passes}
use Rattle.octets.proofs.Choices.{each}
use Rattle.octets.proofs.Every.{all_sound}
use Rattle.network.specs.declared.Relation.TheVariants.{Exact, Supernet, Subnet, Related}
use Rattle.program.specs.Readings.{has_loop, has_bogon, Operator, and, or}
use Rattle.operand.specs.declared.Name.{Name}
use Rattle.operand.specs.declared.Name.TheVariants.{MessageType as type_name, Attribute as attribute_name, Path as path_name, Peer as peer_name, Time as time_name, Network as network_name, Communities as communities_name}
use Rattle.filter.specs.Words.{Role, joins, flag, name, vocabulary, Says}
use Rattle.names.specs.Tables.{Row, row}
use Rattle.names.proofs.Finding.{in_each, in_place}
use Rattle.filter.proofs.Spelling.{Wordly}

-- ---- words can be written

-- every byte is one of words, as a test
unfoldable pub wordly : List ℕ → Bool
wordly [] = true
wordly (b ∷ bs) = pick (pick (leb 45 b) (leb b 126) false) (wordly bs) false

-- what passes is wordly
pub wordly_sound : (l : List ℕ) → wordly l ≡ true → Every Wordly l
unfolding wordly
wordly_sound [] e = every_none
wordly_sound (b ∷ bs) e =
    let x = each (pick (leb 45 b) (leb b 126) false) (wordly bs) e in
    let y = each (leb 45 b) (leb b 126) x.0 in
    every_more (record { low = leb-true 45 b y.0; high = leb-true b 126 y.1 }) (wordly_sound bs x.1)

-- and there is one
writable : List ℕ → Bool
writable w = pick (leb 1 (length w)) (wordly w) false

-- so it is with every row
all_writable : Every (λ (e : Row Role). writable e.word ≡ true) vocabulary
unfolding every_passes vocabulary writable wordly
all_writable = all_sound (λ (e : Row Role) t. t) refl

-- a word of the language: its bytes, and one at least
pub record Written (w : List ℕ) : Type 0 where
  pub some : 1 ≤ length w
  pub bytes : Every Wordly w

-- every word that says something is one
pub said_written : {w : List ℕ} {r : Role} → Says w r → Written w
unfolding writable
said_written {w} s =
    let x = each (leb 1 (length w)) (wordly w) (in_each (λ (v : List ℕ) (r : Role). writable v ≡ true) all_writable s) in
    record { some = leb-true 1 (length w) x.0; bytes = wordly_sound w x.1 }

-- ---- every role is said by a word

-- a word that says this, of at most so many bytes
pub record Said (most : ℕ) (r : Role) : Type 0 where
  pub word : List ℕ
  pub says : Says word r
  pub few : length word ≤ most

-- what stands past the end of rows
abbrev past : Row Role
past = row [] (joins and)

-- a row's word says the row's role
row_said : (i : ℕ) {most : ℕ} → i < length vocabulary → length (get_or vocabulary i past).word ≤ most → Said most (get_or vocabulary i past).value
row_said i h few = record { word = (get_or vocabulary i past).word; says = in_place vocabulary past i h; few = few }

-- `-loops`
pub loop_said : Said 6 (flag has_loop)
unfolding vocabulary
loop_said = row_said 2 (omega arith) (omega arith)

-- `-bogon-asn`
pub bogon_said : Said 10 (flag has_bogon)
unfolding vocabulary
bogon_said = row_said 3 (omega arith) (omega arith)

-- `-and`, `-or`
pub join_said : (o : Operator) → Said 4 (joins o)
unfolding vocabulary
join_said and = row_said 0 (omega arith) (omega arith)
join_said or = row_said 1 (omega arith) (omega arith)

-- the most bytes of a test's name
abbrev pub name_most : Name → ℕ
name_most type_name = 5
name_most attribute_name = 5
name_most path_name = 7
name_most peer_name = 5
name_most (network_name r) = 9
name_most time_name = 10
name_most communities_name = 12

-- the names of tests
pub name_said : (k : Name) → Said (name_most k) (name k)
unfolding vocabulary
name_said type_name = row_said 4 (omega arith) (omega arith)
name_said attribute_name = row_said 5 (omega arith) (omega arith)
name_said path_name = row_said 6 (omega arith) (omega arith)
name_said peer_name = row_said 7 (omega arith) (omega arith)
name_said (network_name Exact) = row_said 8 (omega arith) (omega arith)
name_said (network_name Supernet) = row_said 9 (omega arith) (omega arith)
name_said (network_name Subnet) = row_said 10 (omega arith) (omega arith)
name_said (network_name Related) = row_said 11 (omega arith) (omega arith)
name_said time_name = row_said 12 (omega arith) (omega arith)
name_said communities_name = row_said 13 (omega arith) (omega arith)
