-- A test of the bytes from each record on, made at one place after another. Assumes nothing.
use Prim.Native.Nat.{ℕ, zero, suc, ◌+◌, ◌-◌, ◌*◌, ◌/◌, ◌<◌, ◌≤◌}
use native.Mathlib.Numerals.{add-one}
use native.Mathlib.Omega.{arith}
use mathlib.Core.Path.{◌≡◌, refl, sym, ap, ◌∙◌}
use mathlib.Core.Bool.{Bool, true, false, ◌&&◌}
use mathlib.Core.List.{List}
use lib.ListN.{length, drop, length-drop}
use lib.Seq.{drop-drop}
use Rattle.std.specs.List.{range_with_len, list_all}
use Rattle.std.proofs.Math.Nat.{div-eq-sub-div, div-eq_of_lt}
use Rattle.octets.specs.Choice.{both}
use Rattle.program.specs.Layout.{record_size}
use Rattle.program.specs.Checks.{each_record}

and_both : (a b : Bool) → a && b ≡ both a b
and_both true b = refl
and_both false b = refl

module _ (test : List ℕ → Bool) where
  listed : (n a : ℕ) (l : List ℕ) → list_all (λ k. test (drop (record_size * k) l)) (range_with_len a n) ≡ each_record test n (drop (record_size * a) l)
  unfolding each_record
  listed zero a l = refl
  listed (suc n) a l =
      let next : record_size * (a + 1) ≡ record_size * a + record_size = omega arith in
      and_both (test (drop (record_size * a) l)) (list_all (λ k. test (drop (record_size * k) l)) (range_with_len (a + 1) n))
      ∙ ap (both (test (drop (record_size * a) l)))
      (listed n (a + 1) l ∙ ap (each_record test n) (ap (λ (k : ℕ). drop k l) next ∙ sym (drop-drop record_size (record_size * a) l)))

  -- it holds at each of so many places just where it holds at each record
  pub each_listed : (n : ℕ) (l : List ℕ) → list_all (λ k. test (drop (record_size * k) l)) (range_with_len 0 n) ≡ each_record test n l
  each_listed n l = listed n 0 l

  -- ---- over all records of bytes

  one_more : (l : List ℕ) → record_size ≤ length l
      → each_record test (length l / record_size) l ≡ both (test l) (each_record test (length (drop record_size l) / record_size) (drop record_size l))
  unfolding each_record
  one_more l h =
      let more : length l / record_size ≡ (length l - record_size) / record_size + 1 = div-eq-sub-div (omega arith) h in
      rw (more, add-one ((length l - record_size) / record_size), length-drop record_size l) refl

  -- where it doesn't hold at the first, it doesn't hold at each
  pub each_wrong : (l : List ℕ) → record_size ≤ length l → test l ≡ false → each_record test (length l / record_size) l ≡ false
  each_wrong l h e = one_more l h ∙ rw e refl

  -- where it does, the others decide
  pub each_further : (l : List ℕ) → record_size ≤ length l → test l ≡ true
      → each_record test (length l / record_size) l ≡ each_record test (length (drop record_size l) / record_size) (drop record_size l)
  each_further l h e = one_more l h ∙ rw e refl

  -- no record is left
  pub each_end : (l : List ℕ) → length l < record_size → each_record test (length l / record_size) l ≡ true
  unfolding each_record
  each_end l h =
      let none : length l / record_size ≡ 0 = div-eq_of_lt h in
      rw none refl
