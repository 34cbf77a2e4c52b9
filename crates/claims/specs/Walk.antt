-- The walk, as a claim about a walker. The paper: "Each step hands out the next whole record, in order; or done when nothing remains; or cut,
-- with the bytes left, when 1 to 11 remain or the length runs past the end. After done or cut every further step answers the same."
use Rattle.std.specs.Prelude.{ℕ, ◌≤◌, ◌<◌, ◌≡◌, List, [], length, get_or}
use Rattle.walk.specs.declared.Step.TheVariants.{Record}
use Rattle.walk.specs.Split.{Splits, place_in}
use Rattle.walk.specs.Steps.{closing_of}
use Rattle.claims.specs.Functions.{Walker, step_by}

pub record Walks (walker : Walker) : Type 0 where
  -- any bytes are whole records, one after another, and a rest; and in one way only
  pub splits : (bytes : List ℕ) → (records : List (List ℕ)) × (rest : List ℕ) × Splits bytes records rest
  pub one_split : {bytes rest left : List ℕ} {records others : List (List ℕ)} → Splits bytes records rest → Splits bytes others left
      → (records ≡ others) × (rest ≡ left)
  -- the k-th step hands out the k-th record: its place and its length
  pub in_order : {bytes rest : List ℕ} {records : List (List ℕ)} → Splits bytes records rest → (k : ℕ) → k < length records
      → step_by walker bytes k ≡ Record (place_in records k) (length (get_or records k []))
  -- and every step after the last record gives the closing answer
  pub closing : {bytes rest : List ℕ} {records : List (List ℕ)} → Splits bytes records rest → (k : ℕ) → length records ≤ k
      → step_by walker bytes k ≡ closing_of rest
