-- The machine finds the verdict of a reading on a message, and spends what the reading does. Assumes nothing.
use Prim.Native.Nat.{ℕ}
use mathlib.Core.Path.{◌≡◌, refl, sym, ap, ◌∙◌}
use mathlib.Core.Bool.{Bool, true}
use Rattle.std.specs.Prelude.{Option, Some}
use mathlib.Core.List.{List, [], ◌∷◌, map, map-map}
use lib.ListN.{length}
use borrow.Author.Tests.{eq-eqb}
use mathlib.Core.Logic.{◌↔◌}
use Rattle.octets.specs.Lists.{Every}
use Rattle.message.specs.Message.{Message}
use Rattle.message.specs.Represents.{Represents}
use Rattle.aspath.specs.declared.Item.TheVariants.{Number}
use Rattle.program.specs.declared.Spent.{Spent}
use Rattle.program.specs.Readings.{Test, type_is, has_attribute, path_matches, peer_is, has_loop, has_bogon, network_is, time_is, has_communities}
use Rattle.program.specs.Readings.{Reading, verdict, spent}
use Rattle.program.specs.Records.{Record, item, PossibleHead, Possible}
use Rattle.program.specs.Compiling.{head_of, items_of, following_of, records, program_of}
use Rattle.program.specs.Machine.{machine}
use Rattle.program.proofs.MachineLaws.{Agrees, machine_reading}
use Rattle.truth.specs.Means.{Means, test_holds}
use Rattle.truth.specs.Records.{item_of, number_of, each_of, record_truth}
use Rattle.truth.specs.Verdict.{HasVerdict, Spends}
use Rattle.truth.proofs.Addresses.{PrefixesAddressed, OperandsAddressed, represented_addressed, head_addressed}
use Rattle.truth.proofs.Meanings.{means_sound, means_complete}
use Rattle.truth.proofs.Spending.{spends_exactly}
use Rattle.truth.proofs.Verdicts.{verdict_exactly}

-- records that are each what a function made are those that it was made of
each_same : {A : Type 0} (one : Record → Option A) (made : A → Record) → ((a : A) → one (made a) ≡ Some a) → (xs : List A) → each_of one (map made xs) ≡ Some xs
unfolding each_of
each_same one made e [] = refl
each_same one made e (a ∷ xs) = rw (e a, each_same one made e xs) refl

-- the records of communities are numbers
asked_same : (cs : List ℕ) → each_of number_of (map item (map Number cs)) ≡ Some cs
asked_same cs = ap (each_of number_of) (map-map item Number cs) ∙ each_same number_of (λ c. item (Number c)) (λ c. refl) cs

-- the record of a test, with those that follow it, is as true as the test
pub test_truth : (m : Message) (t : Test) → record_truth m (head_of t) (following_of t) ≡ test_holds m t
unfolding record_truth head_of items_of
test_truth m (type_is c) = refl
test_truth m (has_attribute c) = refl
test_truth m (path_matches p) = rw (each_same item_of item (λ i. refl) p.items, eq-eqb (length p.items) (length p.items) refl) refl
test_truth m (peer_is p) = refl
test_truth m has_loop = refl
test_truth m has_bogon = refl
test_truth m (network_is r n s) = refl
test_truth m (time_is c s n) = refl
test_truth m (has_communities cs) = rw (asked_same cs, eq-eqb (length cs) (length cs) refl) refl

-- so the truth of a record that some text could give is what its test means on the message
pub record_means : {m : Message} {bytes : List ℕ} → Represents m bytes → (t : Test) → PossibleHead (head_of t)
    → (record_truth m (head_of t) (following_of t) ≡ true) ↔ Means m t
record_means {m} x t p =
    (λ e. means_sound m t (sym (test_truth m t) ∙ e), λ y. test_truth m t ∙ means_complete (represented_addressed x) (head_addressed t p) y)

-- every test's record
truths_agree : (m : Message) → Agrees (test_holds m) (record_truth m)
truths_agree m = record { same = test_truth m }

module _ (m : Message) (r : Reading) (possible : Every Possible (records r)) where
  -- the machine on a reading's program finds the reading's verdict on the message, and spends what the reading does
  pub machine_truth : machine (record_truth m) (program_of r) ≡ (verdict (test_holds m) r, spent (test_holds m) r)
  machine_truth = machine_reading (truths_agree m) r possible

-- so it answers a verdict and what was spent exactly where they are the reading's in words
pub machine_exactly : {m : Message} {r : Reading} → PrefixesAddressed m → OperandsAddressed r → Every Possible (records r) → {b : Bool} {s : Spent}
    → (machine (record_truth m) (program_of r) ≡ (b, s)) ↔ (HasVerdict m r b × Spends m r s)
machine_exactly {m} {r} prefixes operands possible {b} {s} = (there, back)
  where
    v : (verdict (test_holds m) r ≡ b) ↔ HasVerdict m r b
    v = verdict_exactly prefixes r operands

    x : (spent (test_holds m) r ≡ s) ↔ Spends m r s
    x = spends_exactly prefixes r operands

    there : machine (record_truth m) (program_of r) ≡ (b, s) → HasVerdict m r b × Spends m r s
    there e =
        let same = sym (machine_truth m r possible) ∙ e in
        (v.0 (ap (λ (y : Bool × Spent). y.0) same), x.0 (ap (λ (y : Bool × Spent). y.1) same))

    back : HasVerdict m r b × Spends m r s → machine (record_truth m) (program_of r) ≡ (b, s)
    back h = machine_truth m r possible ∙ rw (v.1 h.0, x.1 h.1)
