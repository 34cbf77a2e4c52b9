-- A run of records (RFC 6396, section 2): how bytes split into records.
use Rattle.std.specs.Prelude.{ℕ, zero, suc, ◌+◌, ◌≤◌, ◌<◌, ◌≡◌, List, [], ◌∷◌, ◌++◌, length}
use Rattle.header.specs.Header.{header_size, length_field}
use Rattle.octets.specs.Rows.{Joined}

-- these bytes are a record, its size that of its header plus its length field
pub record IsRecord (r bytes : List ℕ) : Type 0 where
  pub same : bytes ≡ r
  pub headed : header_size ≤ length r
  pub sized : length r ≡ header_size + length_field r

-- what follows the last whole record: nothing, 1 to 11 bytes, or a header whose length runs past the end
pub data Rest : List ℕ → Type 0 where
  nothing : Rest []
  short : {rest : List ℕ} → 0 < length rest → length rest < header_size → Rest rest
  overrun : {rest : List ℕ} → header_size ≤ length rest → length rest < header_size + length_field rest → Rest rest

-- the bytes are the records joined, and then the rest
pub record Splits (bytes : List ℕ) (records : List (List ℕ)) (rest : List ℕ) : Type 0 where
  pub front : List ℕ
  pub split : bytes ≡ front ++ rest
  pub joined : Joined IsRecord records front
  pub closing : Rest rest

-- the place of the k-th record, counted from 0: the lengths of those before it together
unfoldable pub place_in : List (List ℕ) → ℕ → ℕ
place_in rs zero = 0
place_in [] (suc k) = 0
place_in (r ∷ rs) (suc k) = length r + place_in rs k
