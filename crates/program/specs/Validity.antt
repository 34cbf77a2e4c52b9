-- Valid programs (the paper's term), in words.
use Rattle.std.specs.Prelude.{ℕ, ◌+◌, ◌≤◌, ◌<◌, ◌≡◌, List, [], ◌∷◌, ◌++◌, length, get_or}
use Rattle.program.specs.declared.Class.TheVariants.{Test as aTest, Item as an_item}
use Rattle.program.specs.Readings.{Operator}
use Rattle.program.specs.Records.{Head, Record, head, flip, pass, Possible, Follows, weight_limit}
use Rattle.program.specs.Kinds.{class_of}
use Rattle.program.specs.Layout.{encode_all}

-- each test is followed by what may follow it, which stands nowhere else
pub data Grouped : List Record → Type 0 where
  end : Grouped []
  a_test : {h : Head} {following rest whole : List Record} → Follows h following → Grouped rest → whole ≡ head h ∷ (following ++ rest) → Grouped whole
  a_flip : {rest : List Record} → Grouped rest → Grouped (flip ∷ rest)
  a_pass : {o : Operator} {count : ℕ} {rest : List Record} → Grouped rest → Grouped (pass o count ∷ rest)

-- a place that a pass may land on: exactly the end, or a record that is no item
pub data Landing (records : List Record) (place : ℕ) : Type 0 where
  at_end : place ≡ length records → Landing records place
  on_record : place < length records → (class_of (get_or records place flip) ≡ an_item → ⊥) → Landing records place

pub record Valid (program : List ℕ) : Type 0 where
  -- the bytes make 1 to 512 whole records
  pub records : List Record
  pub laid : program ≡ encode_all records
  pub some : 1 ≤ length records
  pub few : length records ≤ weight_limit
  -- every record is one that compiling some text could give
  pub possible : (i : ℕ) → i < length records → Possible (get_or records i flip)
  -- the first is a test
  pub starts : class_of (get_or records 0 flip) ≡ aTest
  pub grouped : Grouped records
  pub lands : (i : ℕ) (o : Operator) (count : ℕ) → i < length records → get_or records i flip ≡ pass o count → Landing records (i + 1 + count)
