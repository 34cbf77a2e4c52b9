-- The walk's claim holds of ours. Assumes nothing.
use Prim.Native.Nat.{ℕ, zero, suc}
use mathlib.Core.Path.{◌≡◌, refl}
use mathlib.Core.List.{List}
use Rattle.walk.specs.Steps.{place_of}
use Rattle.walk.proofs.Splits.{split_exists, split_one}
use Rattle.walk.proofs.Walks.{step_record, step_closing}
use Rattle.claims.specs.Functions.{place_by, our_walker}
use Rattle.claims.specs.Walk.{Walks}

-- our walker's places are the walk's
place_by_lem : (bytes : List ℕ) (k : ℕ) → place_by our_walker bytes k ≡ place_of bytes k
unfolding place_by place_of
place_by_lem bytes zero = refl
place_by_lem bytes (suc k) = rw (place_by_lem bytes k)

pub walks : Walks our_walker
walks = record {
  splits = split_exists;
  one_split = split_one;
  in_order = λ s k h. rw (place_by_lem _ k) (step_record s k h).0;
  closing = λ s k h. rw (place_by_lem _ k) (step_closing s k h);
}
