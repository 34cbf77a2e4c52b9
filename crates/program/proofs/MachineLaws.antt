-- Laws of a reading's records: how many they are, and what the machine makes of them. Assumes nothing.
use Prim.Native.Nat.{ℕ, zero, suc}
use native.Mathlib.Nat.{zero-add}
use native.Mathlib.Omega.{arith}
use mathlib.Core.Path.{◌≡◌, refl, sym, ap, ◌∙◌}
use mathlib.Core.Bool.{Bool, true, false}
use mathlib.Core.List.{List, [], ◌∷◌, ◌++◌, append_assoc, append-nil}
use lib.ListN.{length, drop, length-append, length-map}
use lib.Seq.{drop_at, take_at}
use Rattle.octets.specs.Choice.{pick}
use Rattle.octets.specs.Lists.{Every, every_none}
use Rattle.octets.proofs.Every.{every_map, every_places}
use Rattle.aspath.specs.declared.Item.TheVariants.{Number, Any}
use Rattle.program.specs.declared.Spent.{Spent}
use Rattle.program.specs.Spent.{spending, nothing, one_step, together}
use Rattle.program.specs.Readings.{Test, type_is, has_attribute, path_matches, peer_is, has_loop, has_bogon, network_is, time_is, has_communities, item_count}
use Rattle.program.specs.Readings.{Operator, and, or, open', joins, Reading, test, neg, joint, weight, verdict, spent}
use Rattle.program.specs.Records.{Head, Record, head, item, flip, pass, Possible, count_of, MayFollow, in_path, in_communities, Follows}
use Rattle.program.specs.Compiling.{head_of, items_of, following_of, records, program_of}
use Rattle.program.specs.Machine.{exec, machine}
use Rattle.program.proofs.LayoutLaws.{records_encoded}

-- ---- tests

-- the items of a test are as many as it counts
pub items_counted : (t : Test) → length (items_of t) ≡ item_count t
unfolding items_of item_count
items_counted (type_is c) = refl
items_counted (has_attribute c) = refl
items_counted (path_matches p) = refl
items_counted (peer_is p) = refl
items_counted has_loop = refl
items_counted has_bogon = refl
items_counted (network_is r n s) = refl
items_counted (time_is c s m) = refl
items_counted (has_communities cs) = length-map cs Number

-- and as its record says
pub head_counts : (t : Test) → count_of (head_of t) ≡ length (items_of t)
unfolding head_of items_of count_of
head_counts (type_is c) = refl
head_counts (has_attribute c) = refl
head_counts (path_matches p) = refl
head_counts (peer_is p) = refl
head_counts has_loop = refl
head_counts has_bogon = refl
head_counts (network_is r n s) = refl
head_counts (time_is c s m) = refl
head_counts (has_communities cs) = sym (length-map cs Number)

-- each may follow it
items_may : (t : Test) → Every (MayFollow (head_of t)) (items_of t)
unfolding head_of items_of
items_may (type_is c) = every_none
items_may (has_attribute c) = every_none
items_may (path_matches p) = every_places p.items Any (λ i h. in_path)
items_may (peer_is p) = every_none
items_may has_loop = every_none
items_may has_bogon = every_none
items_may (network_is r n s) = every_none
items_may (time_is c s m) = every_none
items_may (has_communities cs) = every_map {P = λ (n : ℕ). Unit {0}} Number (λ n q. in_communities) (every_places cs 0 (λ i h. tt))

-- so what follows a test's record is what may follow it
pub test_follows : (t : Test) → Follows (head_of t) (following_of t)
test_follows t = record { items = items_of t; are = refl; counted = sym (head_counts t); each = items_may t }

-- ---- how many records there are

-- as many as the reading weighs
pub length_records : (r : Reading) → length (records r) ≡ weight r
unfolding records weight
length_records (test t) = omega (arith, length-map (items_of t) item, items_counted t)
length_records (neg r) = length-append (records r) (flip ∷ []) ∙ omega (arith, length_records r)
length_records (joint o a b) =
    length-append (records a) (pass o (length (records b)) ∷ records b) ∙ omega (arith, length_records a, length_records b)

-- ---- the machine

-- truth of records is truth of tests
pub record Agrees (true_of : Test → Bool) (truth : Head → List Record → Bool) : Type 0 where
  pub same : (t : Test) → truth (head_of t) (following_of t) ≡ true_of t

-- records passed over
pub exec_over : (truth : Head → List Record → Bool) (k : ℕ) (flag : Bool) (s : Spent) (rs : List Record) → exec truth k flag s rs ≡ exec truth zero flag s (drop k rs)
unfolding exec
exec_over truth zero flag s rs = refl
exec_over truth (suc k) flag s [] = refl
exec_over truth (suc k) flag s (r ∷ rs) = exec_over truth k flag s rs

module _ {true_of : Test → Bool} {truth : Head → List Record → Bool} (agrees : Agrees true_of truth) where
  passed : (flag : Bool) (s : Spent) (xs rest : List Record) (n : ℕ) → length xs ≡ n → exec truth n flag s (xs ++ rest) ≡ exec truth zero flag s rest
  passed flag s xs rest n e = exec_over truth n flag s (xs ++ rest) ∙ ap (exec truth zero flag s) (drop_at xs rest n e)

  count : (flag : Bool) {m n : ℕ} (rs : List Record) → m ≡ n → exec truth zero flag (spending m) rs ≡ exec truth zero flag (spending n) rs
  count flag rs e = ap (λ (k : ℕ). exec truth zero flag (spending k) rs) e

  exec_test : (t : Test) (flag : Bool) (s : Spent) (rest : List Record)
      → exec truth zero flag s (head (head_of t) ∷ (following_of t ++ rest)) ≡ exec truth zero (true_of t) (together s one_step) rest
  unfolding exec
  exec_test t flag s rest =
      let long : length (following_of t) ≡ count_of (head_of t) = length-map (items_of t) item ∙ sym (head_counts t) in
      let all = following_of t ++ rest in
      ap (λ (f : List Record). exec truth (count_of (head_of t)) (truth (head_of t) f) (together s one_step) all) (take_at (following_of t) rest (count_of (head_of t)) long)
      ∙ ap (λ (b : Bool). exec truth (count_of (head_of t)) b (together s one_step) all) (agrees.same t)
      ∙ passed (true_of t) (together s one_step) (following_of t) rest (count_of (head_of t)) long

  -- a pass, where the right side goes as it should
  exec_pass : (o : Operator) (b : Reading)
      → ((flag : Bool) (s : Spent) (rest : List Record) → exec truth zero flag s (records b ++ rest) ≡ exec truth zero (verdict true_of b) (together s (spent true_of b)) rest)
      → (flag : Bool) (s : Spent) (rest : List Record)
      → exec truth zero flag s (pass o (length (records b)) ∷ (records b ++ rest))
      ≡ exec truth zero (joins o flag (verdict true_of b)) (together (together s one_step) (pick (open' o flag) (spent true_of b) nothing)) rest
  unfolding exec
  exec_pass and b f true s rest = f true (together s one_step) rest
  exec_pass and b f false s rest = passed false (together s one_step) (records b) rest (length (records b)) refl ∙ count _ rest (omega arith)
  exec_pass or b f true s rest = passed true (together s one_step) (records b) rest (length (records b)) refl ∙ count _ rest (omega arith)
  exec_pass or b f false s rest = f false (together s one_step) rest

  -- the machine comes through a reading's records with its verdict, spending what it does, whatever the flag was
  pub exec_reading : (r : Reading) (flag : Bool) (s : Spent) (rest : List Record)
      → exec truth zero flag s (records r ++ rest) ≡ exec truth zero (verdict true_of r) (together s (spent true_of r)) rest
  unfolding records verdict spent
  exec_reading (test t) flag s rest = exec_test t flag s rest
  exec_reading (neg r) flag s rest =
      rw (append_assoc (records r) (flip ∷ []) rest)
      (exec_reading r flag s (flip ∷ rest) ∙ (unfold exec in count _ rest (omega arith)))
  exec_reading (joint o a b) flag s rest =
      rw (append_assoc (records a) (pass o (length (records b)) ∷ records b) rest)
      (exec_reading a flag s _ ∙ exec_pass o b (exec_reading b) (verdict true_of a) (together s (spent true_of a)) rest ∙ count _ rest (omega arith))

  -- the machine finds a reading's verdict and spends what it does
  pub machine_reading : (r : Reading) → Every Possible (records r) → machine truth (program_of r) ≡ (verdict true_of r, spent true_of r)
  unfolding exec
  machine_reading r p =
      rw (records_encoded (records r) p, ← append-nil (records r)) (exec_reading r false nothing [] ∙ ap (λ (n : ℕ). (verdict true_of r, spending n)) (zero-add (spent true_of r).steps))
