-- Calls of `next` one after another on a fresh reader: the k-th answers the k-th step of the walk. Assumes nothing.
use Prim.Native.Nat.{ℕ, zero, suc, ◌≤◌, ◌<◌}
use mathlib.Core.Path.{◌≡◌, refl, ap}
use mathlib.Core.List.{List, []}
use lib.ListN.{length, get_or}
use denote.Ref.{Bor}
use Rattle.walk.specs.Split.{Splits}
use Rattle.walk.specs.Steps.{record_of, place_of, step_of, closing_of}
use Rattle.walk.specs.Readers.{step_on, moved, reader_of}
use Rattle.walk.proofs.Steps.{Stopped, step_same}
use Rattle.walk.proofs.Walks.{step_record, step_closing}

module _ (bytes : Bor (List ℕ)) where
  -- before the k-th call the reader holds the same bytes, and the place of the k-th step
  reader_is : (k : ℕ) → reader_of bytes k ≡ record { bytes = bytes; at = place_of bytes.now k }
  unfolding reader_of place_of
  reader_is zero = refl
  reader_is (suc k) = ap moved (reader_is k)

  -- the k-th call answers the k-th step
  pub call_step : (k : ℕ) → step_on (reader_of bytes k) ≡ step_of bytes.now k
  call_step k = ap step_on (reader_is k)

  -- after done or cut every further call answers the same
  pub call_same : (k n : ℕ) → k ≤ n → Stopped (step_on (reader_of bytes k)) → step_on (reader_of bytes n) ≡ step_on (reader_of bytes k)
  call_same k n h w = rw (call_step n, call_step k) (step_same bytes.now k n h (rw (call_step k) at w))

  module _ {rest : List ℕ} {rs : List (List ℕ)} (s : Splits bytes.now rs rest) where
    -- the k-th call hands out the k-th record
    pub call_record : (k : ℕ) → k < length rs → record_of bytes.now (step_on (reader_of bytes k)) ≡ get_or rs k []
    call_record k h = rw (call_step k) (step_record s k h).1

    -- after the last record every call gives the closing answer
    pub call_closing : (k : ℕ) → length rs ≤ k → step_on (reader_of bytes k) ≡ closing_of rest
    call_closing k h = rw (call_step k) (step_closing s k h)
