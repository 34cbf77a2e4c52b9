-- Records laid over a buffer: behind others, and in a gap that was left for one. Assumes nothing.
use Prim.Native.Nat.{ℕ, suc, ◌+◌, ◌-◌, ◌*◌, ◌<◌}
use native.Mathlib.Nat.{add-zero, add-suc, suc-add}
use native.Mathlib.Omega.{arith}
use mathlib.Core.Path.{◌≡◌, refl, sym, ap, ◌∙◌}
use mathlib.Core.List.{List, [], ◌∷◌, ◌++◌, append-nil}
use lib.ListN.{length, set}
use lib.Seq.{sets, set_comm}
use Rattle.octets.proofs.Writes.{sets_append}
use Rattle.program.specs.Readings.{Operator, Reading, neg, joint, weight}
use Rattle.program.specs.Records.{Record, flip, pass}
use Rattle.program.specs.Kinds.{flip_kind, operator_kind}
use Rattle.program.specs.Layout.{record_size, fields_of, fields, laid, encode, encode_all}
use Rattle.program.specs.Compiling.{records, program_of}
use Rattle.program.proofs.LayoutLaws.{encode_length, encode_all_length, encode_all_append}
use Rattle.program.proofs.MachineLaws.{length_records}

-- a byte stored before bytes that were laid
set_sets : (vs l : List ℕ) (i j a : ℕ) → i < j → set (sets l j vs) i a ≡ sets (set l i a) j vs
set_sets [] l i j a h = refl
set_sets (b ∷ vs) l i j a h =
    set_sets vs (set l j b) i (suc j) a (omega arith) ∙ ap (λ (x : List ℕ). sets x (suc j) vs) (sym (set_comm l i j a b (omega arith)))

-- a gap that is filled after what follows it
fill_gap : (vs ws l : List ℕ) (i : ℕ) → sets (sets l (i + length vs) ws) i vs ≡ sets l i (vs ++ ws)
fill_gap [] ws l i = rw add-zero
fill_gap (a ∷ vs) ws l i =
    ap (λ (x : List ℕ). sets x (suc i) vs) (set_sets ws l i (i + suc (length vs)) a (omega arith))
    ∙ rw (add-suc, ← suc-add) (fill_gap vs ws (set l i a) (suc i))

-- records behind others
laid_behind : (rs more : List Record) (l : List ℕ) (n m : ℕ) → m ≡ n + length rs
    → sets (sets l (record_size * n) (encode_all rs)) (record_size * m) (encode_all more) ≡ sets l (record_size * n) (encode_all (rs ++ more))
laid_behind rs more l n m e =
    let i : record_size * m ≡ record_size * n + length (encode_all rs) = omega (arith, encode_all_length rs) in
    rw (i, encode_all_append rs more) (sym (sets_append (encode_all rs) (encode_all more) l (record_size * n)))

-- a record in the gap before others
laid_gap : (r : Record) (more : List Record) (l : List ℕ) (n : ℕ)
    → sets (sets l (record_size * (n + 1)) (encode_all more)) (record_size * n) (encode r) ≡ sets l (record_size * n) (encode_all (r ∷ more))
unfolding encode_all
laid_gap r more l n =
    let i : record_size * (n + 1) ≡ record_size * n + length (encode r) = omega (arith, encode_length r) in
    rw i (fill_gap (encode r) (encode_all more) l (record_size * n))

-- a flip behind the records of a reading
pub wrote_flip : (r : Reading) (old : List ℕ) (n : ℕ) {mid new : List ℕ} {m : ℕ} → mid ≡ sets old (record_size * n) (program_of r) → m ≡ n + weight r
    → new ≡ sets mid (record_size * m) (laid (fields flip_kind 0 0 0 0)) → new ≡ sets old (record_size * n) (program_of (neg r))
unfolding records fields_of encode_all
wrote_flip r old n {m = m} e c f =
    f ∙ rw (e, ← append-nil (laid (fields flip_kind 0 0 0 0))) (laid_behind (records r) (flip ∷ []) old n m (omega (arith, length_records r)))

-- a pass in the gap between the records of two readings
pub wrote_pass : (o : Operator) (a b : Reading) (old : List ℕ) (n : ℕ) {mid late new : List ℕ} {m j : ℕ} → mid ≡ sets old (record_size * n) (program_of a) → m ≡ n + weight a
    → late ≡ sets mid (record_size * (m + 1)) (program_of b) → j ≡ m + 1 + weight b → new ≡ sets late (record_size * m) (laid (fields (operator_kind o) 0 (j - m - 1) 0 0))
    → new ≡ sets old (record_size * n) (program_of (joint o a b))
unfolding records fields_of
wrote_pass o a b old n {mid = mid} {m = m} {j = j} e c f d g =
    let i : j - m - 1 ≡ length (records b) = omega (arith, length_records b) in
    g ∙ rw (f, i) (laid_gap (pass o (length (records b))) (records b) mid m ∙ rw e (laid_behind (records a) (pass o (length (records b)) ∷ records b) old n m (omega (arith, length_records a))))
