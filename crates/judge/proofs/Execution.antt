-- Laws of the machine a record at a time, over a valid program: going on from the state after the next record is the machine. Assumes nothing.
use Prim.Native.Nat.{ℕ, zero, suc, ◌+◌, ◌*◌, ◌≤◌, ◌<◌}
use native.Mathlib.Omega.{arith}
use mathlib.Core.Path.{◌≡◌, refl, sym, ap, ◌∙◌}
use mathlib.Core.Bool.{Bool, not}
use Rattle.std.specs.Prelude.{Option, None, Some}
use mathlib.Core.List.{List, ◌∷◌, ◌++◌}
use lib.ListN.{length, get_or, take, drop, length-drop, drop_of_length-le}
use lib.Seq.{drop-drop, drop-cons}
use Rattle.octets.specs.Choice.{pick}
use Rattle.octets.proofs.Every.{every_place, every_drop}
use Rattle.message.specs.Message.{Message}
use Rattle.program.specs.declared.Fields.{Fields}
use Rattle.program.specs.declared.Spent.{Spent}
use Rattle.program.specs.declared.Class.{Class}
use Rattle.program.specs.declared.Class.TheVariants.{Test as aTest, Item as an_item, Flip as aFlip, Pass as aPass}
use Rattle.program.specs.Spent.{one_step, together}
use Rattle.program.specs.Readings.{and, or, open'}
use Rattle.program.specs.Records.{Record, head, item, flip, pass, count_of}
use Rattle.program.specs.Kinds.{class_of, class_is}
use Rattle.program.specs.Layout.{record_size, fields_of, encode, encode_all, fields_in, decode, records_in}
use Rattle.program.specs.Machine.{exec}
use Rattle.program.proofs.LayoutLaws.{encode_all_length, decode_encode, records_encoded}
use Rattle.program.proofs.MachineLaws.{exec_over}
use Rattle.program.proofs.ValidKinds.{class_kind, head_following, record_read}
use Rattle.program.proofs.ValidRecords.{Right, encode_all_drop, encode_all_at}
use Rattle.truth.specs.Records.{record_truth, truth_of, truth_at}
use Rattle.judge.specs.declared.MachineState.{MachineState}
use Rattle.judge.specs.Executing.{passed_over, on_from, state_by, state_after}

-- ---- the state after a record, of whatever program

-- a record is at most one step
few_steps : (c : Option Class) (f : Fields) (truth : Bool) (s : MachineState) → (state_by c f truth s).spent.steps ≤ suc s.spent.steps
few_steps (Some aTest) f truth s = omega arith
few_steps (Some an_item) f truth s = omega arith
few_steps (Some aFlip) f truth s = omega arith
few_steps (Some aPass) f truth s = omega arith
few_steps None f truth s = omega arith

-- the place is further by a record at least
far_on : (c : Option Class) (f : Fields) (truth : Bool) (s : MachineState) → s.at + record_size ≤ (state_by c f truth s).at
far_on (Some aTest) f truth s = omega arith
far_on (Some an_item) f truth s = omega arith
far_on (Some aFlip) f truth s = omega arith
far_on (Some aPass) f truth s = omega arith
far_on None f truth s = omega arith

-- past no other
pub on_next : (s : MachineState) (flag : Bool) (spent : Spent) → record { at = s.at + record_size; flag = flag; spent = spent } ≡ on_from s 0 flag spent
on_next s flag spent = ap (λ (n : ℕ). record { at = n; flag = flag; spent = spent }) {x = s.at + record_size} (omega arith)

module _ (m : Message) (program : List ℕ) (s : MachineState) where
  -- it goes by the class of the fields read
  pub after_class : (f : Fields) → f ≡ fields_in (drop s.at program) → (x : Option Class) → class_is f.kind ≡ x
      → state_by x f (truth_at m program s.at) s ≡ state_after m program s
  unfolding state_after
  after_class f e x c =
      ap (λ (y : Option Class). state_by y f (truth_at m program s.at) s) (sym c)
      ∙ ap (λ (g : Fields). state_by (class_is g.kind) g (truth_at m program s.at) s) e

  pub further : s.at + record_size ≤ (state_after m program s).at
  unfolding state_after
  further = far_on (class_is (fields_in (drop s.at program)).kind) (fields_in (drop s.at program)) (truth_at m program s.at) s

  -- there are no more steps than bytes gone over
  pub steps_few : s.spent.steps ≤ s.at → (state_after m program s).spent.steps ≤ (state_after m program s).at
  unfolding state_after
  steps_few h =
      let f = fields_in (drop s.at program) in
      let t = truth_at m program s.at in
      omega (arith, few_steps (class_is f.kind) f t s, far_on (class_is f.kind) f t s)

-- ---- of a program that is the bytes of records

module _ (m : Message) (program : List ℕ) {rs : List Record} (r : Right program rs) where
  -- the records from one on
  bytes_from : (k : ℕ) → drop (record_size * k) program ≡ encode_all (drop k rs)
  bytes_from k = ap (drop (record_size * k)) r.encoded ∙ encode_all_drop k rs

  read_from : (k : ℕ) → records_in (drop (record_size * k) program) ≡ drop k rs
  read_from k = ap records_in (bytes_from k) ∙ records_encoded (drop k rs) (every_drop k r.possible)

  module _ (k : ℕ) (h : k < length rs) where
    -- the record there
    abbrev here : Record
    here = get_or rs k flip

    bytes_here : drop (record_size * k) program ≡ encode here ++ encode_all (drop (suc k) rs)
    bytes_here = bytes_from k ∙ encode_all_at rs k h

    fields_here : fields_in (drop (record_size * k) program) ≡ fields_of here
    fields_here = ap fields_in bytes_here ∙ record_read here (every_place r.possible flip k h) (encode_all (drop (suc k) rs))

    decoded_here : decode (drop (record_size * k) program) ≡ Some here
    decoded_here = ap decode bytes_here ∙ decode_encode here (every_place r.possible flip k h) (encode_all (drop (suc k) rs))

    truth_here : truth_at m program (record_size * k) ≡ truth_of m (Some here) (drop (suc k) rs)
    unfolding truth_at
    truth_here =
        let e : record_size * k + record_size ≡ record_size * suc k = omega arith in
        rw (decoded_here, e, read_from (suc k)) refl

  -- what the machine comes to from a record on
  abbrev goes : ℕ → Bool → Spent → Bool × Spent
  goes k flag spent = exec (record_truth m) zero flag spent (drop k rs)

  -- the state after a record: past some more, and the machine goes on from there
  record Next (k : ℕ) (s : MachineState) : Type 0 where
    over : ℕ
    flag : Bool
    spent : Spent
    is : state_after m program s ≡ on_from s over flag spent
    on : exec (record_truth m) over flag spent (drop (suc k) rs) ≡ goes k s.flag s.spent

  module _ (k : ℕ) (h : k < length rs) (s : MachineState) (at_k : s.at ≡ record_size * k) where
    -- by the record there
    by_record : (x : Record) → get_or rs k flip ≡ x → state_after m program s ≡ state_by (Some (class_of x)) (fields_of x) (truth_of m (Some x) (drop (suc k) rs)) s
    unfolding state_after
    by_record x e =
        let f : fields_in (drop s.at program) ≡ fields_of x = ap (λ (n : ℕ). fields_in (drop n program)) at_k ∙ fields_here k h ∙ ap fields_of e in
        let t : truth_at m program s.at ≡ truth_of m (Some x) (drop (suc k) rs)
        = ap (truth_at m program) at_k ∙ truth_here k h ∙ ap (λ (y : Record). truth_of m (Some y) (drop (suc k) rs)) e in
        ap (λ (g : Fields). state_by (class_is g.kind) g (truth_at m program s.at) s) f
        ∙ ap (λ (c : Option Class). state_by c (fields_of x) (truth_at m program s.at) s) (class_kind x)
        ∙ ap (λ (b : Bool). state_by (Some (class_of x)) (fields_of x) b s) t

    machine_at : (x : Record) → get_or rs k flip ≡ x → exec (record_truth m) zero s.flag s.spent (x ∷ drop (suc k) rs) ≡ goes k s.flag s.spent
    machine_at x e = ap (exec (record_truth m) zero s.flag s.spent) (ap (λ (y : Record). y ∷ drop (suc k) rs) (sym e) ∙ sym (drop-cons rs k flip h))

    next_by : (x : Record) → get_or rs k flip ≡ x → Next k s
    unfolding exec fields_of passed_over
    next_by (head x) e = record {
      over = count_of x;
      flag = record_truth m x (take (count_of x) (drop (suc k) rs));
      spent = together s.spent one_step;
      is = by_record (head x) e ∙ ap (λ (n : ℕ). on_from s n (record_truth m x (take (count_of x) (drop (suc k) rs))) (together s.spent one_step)) (head_following x);
      on = machine_at (head x) e;
    }
    next_by (item x) e = record { over = 0; flag = s.flag; spent = s.spent; is = by_record (item x) e; on = machine_at (item x) e }
    next_by flip e = record { over = 0; flag = not s.flag; spent = together s.spent one_step; is = by_record flip e; on = machine_at flip e }
    next_by (pass and n) e = record {
      over = pick (open' and s.flag) 0 n;
      flag = s.flag;
      spent = together s.spent one_step;
      is = by_record (pass and n) e;
      on = machine_at (pass and n) e;
    }
    next_by (pass or n) e = record {
      over = pick (open' or s.flag) 0 n;
      flag = s.flag;
      spent = together s.spent one_step;
      is = by_record (pass or n) e;
      on = machine_at (pass or n) e;
    }

  -- a state stands at a record, or behind the last, and the machine comes from there to what it comes to
  pub record Stands (s : MachineState) (o : Bool × Spent) : Type 0 where
    pub place : ℕ
    pub at_place : s.at ≡ record_size * place
    pub comes : exec (record_truth m) zero s.flag s.spent (drop place rs) ≡ o

  -- so does the state after the record there
  pub stands_next : {s : MachineState} {o : Bool × Spent} → Stands s o → s.at + record_size ≤ length program → Stands (state_after m program s) o
  stands_next {s} {o} x h = after (next_by x.place within s x.at_place (get_or rs x.place flip) refl)
    where
      within : x.place < length rs
      within = omega (arith, x.at_place, ap length r.encoded, encode_all_length rs)

      after : Next x.place s → Stands (state_after m program s) o
      after n = rw n.is (record {
        place = suc x.place + n.over;
        at_place = omega (arith, x.at_place);
        comes = ap (exec (record_truth m) zero n.flag n.spent) (sym (drop-drop n.over (suc x.place) rs))
            ∙ sym (exec_over (record_truth m) n.over n.flag n.spent (drop (suc x.place) rs))
            ∙ n.on
            ∙ x.comes;
      })

  -- and where no record is left, that is its flag and what it spent
  pub stands_end : {s : MachineState} {o : Bool × Spent} → Stands s o → length (drop s.at program) < record_size → (s.flag, s.spent) ≡ o
  unfolding exec
  stands_end {s} x h =
      let past : length rs ≤ x.place = omega (arith, x.at_place, length-drop s.at program, ap length r.encoded, encode_all_length rs) in
      ap (exec (record_truth m) zero s.flag s.spent) (sym (drop_of_length-le rs past)) ∙ x.comes
