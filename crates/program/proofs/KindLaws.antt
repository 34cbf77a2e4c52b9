-- Laws of kinds: a number that stands for a kind is that kind's, and each kind has one. Assumes nothing.
use Prim.Native.Nat.{ℕ, ◌≤◌}
use native.Mathlib.Decide.{dec_le, ℕ_discrete}
use native.Mathlib.Omega.{arith}
use mathlib.Core.Path.{◌≡◌, refl, sym, ap, ◌∙◌}
use mathlib.Core.Bool.{false}
use lib.Dec.{eqb}
use borrow.Author.Rules.{rules}
use denote.Enum.Bare.{true_same, false_same}
use Rattle.std.specs.Option.{option_eq}
use Rattle.std.specs.Prelude.{Option, Some, None}
use borrow.Author.Tests.{ne_eqb, eq-eqb}
use Rattle.octets.proofs.Ranges.{within}
use Rattle.program.specs.declared.Kind.{Kind}
use Rattle.program.specs.declared.Kind.TheVariants.{MessageType, Attribute, Path, Item, Peer, Loops, Bogon, Network, Time, Flip, And, Or, Communities}
use Rattle.program.specs.declared.Class.{Class}
use Rattle.program.specs.declared.Class.TheVariants.{Test as aTest, Item as an_item, Flip as aFlip, Pass as aPass}
use Rattle.program.specs.contracts.Kind.{the_type}
use Rattle.program.specs.contracts.KindPartialEq.TheImpl as kind_eq
use Rattle.program.specs.contracts.ClassPartialEq.TheImpl as class_eq
use Rattle.program.specs.Kinds.{kind_is}
use Rattle.program.specs.Checks.{is_test_class, is_item_class, is_pass_class}

-- the number of a kind
abbrev pub number_of : Kind → ℕ
number_of MessageType = 1
number_of Attribute = 2
number_of Path = 3
number_of Item = 4
number_of Peer = 5
number_of Loops = 6
number_of Bogon = 7
number_of Network = 8
number_of Time = 9
number_of Flip = 10
number_of And = 11
number_of Or = 12
number_of Communities = 13

-- stands for it
pub kind_same : (k : Kind) → kind_is (number_of k) ≡ Some k
unfolding kind_is
kind_same MessageType = refl
kind_same Attribute = refl
kind_same Path = refl
kind_same Item = refl
kind_same Peer = refl
kind_same Loops = refl
kind_same Bogon = refl
kind_same Network = refl
kind_same Time = refl
kind_same Flip = refl
kind_same And = refl
kind_same Or = refl
kind_same Communities = refl

-- a number that stands for none is no kind's
pub no_kind : {n : ℕ} → kind_is n ≡ None → (k : Kind) → n ≡ number_of k → ⊥
no_kind e k q =
    let s : kind_is (number_of k) ≡ Some k = kind_same k in
    cc (ap kind_is q)

said : {j k : Kind} → Some j ≡ Some k → number_of j ≡ number_of k
said e = ap number_of cc

-- a number that is none of theirs stands for none
pub none_said : (n : ℕ) → (n ≤ 13 → n ≡ 0) → kind_is n ≡ None
unfolding kind_is
none_said n h = simp (
  ne_eqb n 1 (λ e. omega arith),
  ne_eqb n 2 (λ e. omega arith),
  ne_eqb n 3 (λ e. omega arith),
  ne_eqb n 4 (λ e. omega arith),
  ne_eqb n 5 (λ e. omega arith),
  ne_eqb n 6 (λ e. omega arith),
  ne_eqb n 7 (λ e. omega arith),
  ne_eqb n 8 (λ e. omega arith),
  ne_eqb n 9 (λ e. omega arith),
  ne_eqb n 10 (λ e. omega arith),
  ne_eqb n 11 (λ e. omega arith),
  ne_eqb n 12 (λ e. omega arith),
  ne_eqb n 13 (λ e. omega arith),
)

-- one that stands for a kind is its number
pub kind_number : {n : ℕ} {k : Kind} → kind_is n ≡ Some k → n ≡ number_of k
unfolding kind_is
kind_number {n} {k} e = go (dec_le n 13) e
  where
    go : Dec (n ≤ 13) → kind_is n ≡ Some k → n ≡ number_of k
    go (no m) e = let z : kind_is n ≡ None = none_said n (λ h. absurd (m h)) in cc
    go (yes h) e = within 13 (λ m. kind_is m ≡ Some k → m ≡ number_of k) n h
        (λ e. cc) said said said said said said said said said said said said said e

-- one that stands for a kind is no other's number
pub other_kind : {n : ℕ} {k : Kind} → kind_is n ≡ Some k → (j : Kind) → (k ≡ j → ⊥) → n ≡ number_of j → ⊥
other_kind e j h q =
    let s : kind_is (number_of j) ≡ Some j = kind_same j in
    h (cc (e, ap kind_is q, s))

-- `==` on kinds compares their numbers
pub kind_test : (n : ℕ) (k : Kind) → option_eq kind_eq.eq-value.it (kind_is n) (Some k) ≡ eqb n (number_of k)
kind_test n k = go (ℕ_discrete n (number_of k))
  where
    other : (n ≡ number_of k → ⊥) → (o : Option Kind) → kind_is n ≡ o → option_eq kind_eq.eq-value.it o (Some k) ≡ false
    other m None e = refl
    other m (Some j) e = false_same the_type (search rules) j k (λ p. m (kind_number e ∙ ap number_of p))

    go : Dec (n ≡ number_of k) → option_eq kind_eq.eq-value.it (kind_is n) (Some k) ≡ eqb n (number_of k)
    go (yes q) =
        ap (λ (o : Option Kind). option_eq kind_eq.eq-value.it o (Some k)) (ap kind_is q ∙ kind_same k) ∙ true_same the_type k k refl ∙ sym (eq-eqb _ _ q)
    go (no m) = other m (kind_is n) refl ∙ sym (ne_eqb _ _ m)

-- `==` on classes

pub test_test : (o : Option Class) → option_eq class_eq.eq-value.it o (Some aTest) ≡ is_test_class o
test_test None = refl
test_test (Some aTest) = refl
test_test (Some an_item) = refl
test_test (Some aFlip) = refl
test_test (Some aPass) = refl

pub item_test : (o : Option Class) → option_eq class_eq.eq-value.it o (Some an_item) ≡ is_item_class o
item_test None = refl
item_test (Some aTest) = refl
item_test (Some an_item) = refl
item_test (Some aFlip) = refl
item_test (Some aPass) = refl

pub pass_test : (o : Option Class) → option_eq class_eq.eq-value.it o (Some aPass) ≡ is_pass_class o
pass_test None = refl
pass_test (Some aTest) = refl
pass_test (Some an_item) = refl
pass_test (Some aFlip) = refl
pass_test (Some aPass) = refl
