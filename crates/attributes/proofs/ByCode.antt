-- Raw attributes by their codes: the six whose bodies are looked at, and the others. Assumes nothing.
use Prim.Native.Nat.{ℕ}
use native.Mathlib.Decide.{ℕ_discrete}
use mathlib.Core.Path.{◌≡◌}
use mathlib.Core.Bool.{true}
use mathlib.Core.List.{List}
use lib.Dec.{eqb}
use borrow.Author.Tests.{ne_eqb}
use Rattle.octets.specs.Choice.{pick}
use Rattle.attributes.specs.Attribute.{other, origin_code, as_path_code, next_hop_code, atomic_aggregate_code, aggregator_code, communities_code}
use Rattle.attributes.specs.Wire.{Raw}
use Rattle.attributes.specs.Bodies.{Unchecked, body_right, said}

abbrev coded : ℕ → List ℕ → Raw
coded n body = record { code = n; body = body }

-- what holds of each of the six, and of the others, holds of every raw attribute
pub by_code : {P : Raw → Type 0} → ((body : List ℕ) → P (coded origin_code body)) → ((body : List ℕ) → P (coded as_path_code body))
    → ((body : List ℕ) → P (coded next_hop_code body)) → ((body : List ℕ) → P (coded atomic_aggregate_code body))
    → ((body : List ℕ) → P (coded aggregator_code body)) → ((body : List ℕ) → P (coded communities_code body)) → ((r : Raw) → Unchecked r.code → P r) → (r : Raw) → P r
by_code {P} origin path next-hop atomic aggregator communities others r =
    go (is origin_code) (is as_path_code) (is next_hop_code) (is atomic_aggregate_code) (is aggregator_code) (is communities_code)
  where
    is : (n : ℕ) → Dec (r.code ≡ n)
    is n = ℕ_discrete r.code n

    go : Dec (r.code ≡ origin_code) → Dec (r.code ≡ as_path_code) → Dec (r.code ≡ next_hop_code) → Dec (r.code ≡ atomic_aggregate_code)
        → Dec (r.code ≡ aggregator_code) → Dec (r.code ≡ communities_code) → P r
    go (yes a) b c d e f = rw a (origin r.body)
    go (no a) (yes b) c d e f = rw b (path r.body)
    go (no a) (no b) (yes c) d e f = rw c (next-hop r.body)
    go (no a) (no b) (no c) (yes d) e f = rw d (atomic r.body)
    go (no a) (no b) (no c) (no d) (yes e) f = rw e (aggregator r.body)
    go (no a) (no b) (no c) (no d) (no e) (yes f) = rw f (communities r.body)
    go (no a) (no b) (no c) (no d) (no e) (no f) =
        others r (record { no_origin = a; no_path = b; no_next_hop = c; no_atomic = d; no_aggregator = e; no_communities = f })

-- a choice by the codes of the six is the last where the code is another
pick_other : {A : Type 0} {code : ℕ} → Unchecked code → (a b c d e f g : A)
    → pick (eqb code origin_code) a (pick (eqb code as_path_code) b (pick (eqb code next_hop_code) c (pick (eqb code atomic_aggregate_code) d
    (pick (eqb code aggregator_code) e (pick (eqb code communities_code) f g)))))
    ≡ g
pick_other u a b c d e f g =
    simp (ne_eqb _ _ u.no_origin, ne_eqb _ _ u.no_path, ne_eqb _ _ u.no_next_hop, ne_eqb _ _ u.no_atomic, ne_eqb _ _ u.no_aggregator, ne_eqb _ _ u.no_communities)

-- what one of the others says
pub said_other : (w : ℕ) (r : Raw) → Unchecked r.code → said w r ≡ other r.code r.body
unfolding said
said_other w r u = pick_other u _ _ _ _ _ _ _

-- its body is right
pub right_other : (w code : ℕ) (body : List ℕ) → Unchecked code → body_right w code body ≡ true
unfolding body_right
right_other w code body u = pick_other u _ _ _ _ _ _ _
