-- A test of the bytes from each record on: walking over all records holds just where the test holds at each. Assumes nothing.
use Prim.Native.Nat.{ℕ, zero, suc, ◌<◌}
use native.Mathlib.Nat.{not-suc-le-zero}
use native.Mathlib.Omega.{arith}
use mathlib.Core.Path.{◌≡◌, refl, sym, ap, ◌∙◌}
use mathlib.Core.Bool.{Bool, true}
use mathlib.Core.List.{List, [], ◌∷◌, ◌++◌}
use lib.ListN.{length, drop}
use Rattle.octets.specs.Choice.{both}
use Rattle.octets.proofs.Choices.{each}
use Rattle.program.specs.Records.{Record}
use Rattle.program.specs.Layout.{encode, encode_all}
use Rattle.program.specs.Checks.{each_record}
use Rattle.program.proofs.ValidRecords.{after_record}

module _ (test : List ℕ → Bool) where
  -- over a record and more
  walk_next : (n : ℕ) (r : Record) (rest : List ℕ)
      → each_record test (suc n) (encode r ++ rest) ≡ both (test (encode r ++ rest)) (each_record test n rest)
  unfolding each_record
  walk_next n r rest = ap (λ (l : List ℕ). both (test (encode r ++ rest)) (each_record test n l)) (after_record r rest)

  over : (r : Record) (rs : List Record) → each_record test (suc (length rs)) (encode_all (r ∷ rs)) ≡ true
      → (test (encode r ++ encode_all rs) ≡ true) × (each_record test (length rs) (encode_all rs) ≡ true)
  unfolding encode_all
  over r rs e = each (test (encode r ++ encode_all rs)) (each_record test (length rs) (encode_all rs)) (sym (walk_next (length rs) r (encode_all rs)) ∙ e)

  -- where the walk holds, the test holds at each record
  pub walk_sound : (rs : List Record) → each_record test (length rs) (encode_all rs) ≡ true → (i : ℕ) → i < length rs → test (encode_all (drop i rs)) ≡ true
  unfolding encode_all
  walk_sound [] e i k = absurd (not-suc-le-zero k)
  walk_sound (r ∷ rs) e zero k = (over r rs e).0
  walk_sound (r ∷ rs) e (suc i) k = walk_sound rs (over r rs e).1 i (omega arith)

  -- and the other way round
  pub walk_complete : (rs : List Record) → ((i : ℕ) → i < length rs → test (encode_all (drop i rs)) ≡ true) → each_record test (length rs) (encode_all rs) ≡ true
  unfolding encode_all each_record
  walk_complete [] t = refl
  walk_complete (r ∷ rs) t =
      walk_next (length rs) r (encode_all rs) ∙ rw (t 0 (omega arith)) (walk_complete rs (λ i h. t (suc i) (omega arith)))
