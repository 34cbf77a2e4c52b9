-- Laws of the record that fields say, by their kind. Assumes nothing.
use Prim.Native.Nat.{ℕ}
use native.Mathlib.Decide.{ℕ_discrete}
use mathlib.Core.Path.{◌≡◌}
use Rattle.std.specs.Prelude.{Option, None, Some}
use lib.Dec.{eqb}
use borrow.Author.Tests.{eq-eqb, ne_eqb}
use Rattle.octets.specs.Choice.{pick, onward}
use Rattle.program.specs.declared.Fields.{Fields}
use Rattle.program.specs.Readings.{and, or}
use Rattle.program.specs.Records.{type, attribute, peer, loops, bogon, time, communities, Record, head, item, flip, pass}
use Rattle.program.specs.Kinds.{type_kind, attribute_kind, path_kind, item_kind, peer_kind, loops_kind, bogon_kind, network_kind, time_kind}
use Rattle.program.specs.Kinds.{flip_kind, and_kind, or_kind, communities_kind}
use Rattle.program.specs.Layout.{relation_is, side_is, comparison_is, item_is, peer_is, path_is, operand_of, network_said, record_is}

module _ (P : Option Record → Type 0) where
  choose : (k n : ℕ) {r s : Option Record} → (k ≡ n → P r) → P s → P (pick (eqb k n) r s)
  choose k n {r} {s} f g = go (ℕ_discrete k n)
    where
      go : Dec (k ≡ n) → P (pick (eqb k n) r s)
      go (yes e) = rw (eq-eqb _ _ e) (f e)
      go (no h) = rw (ne_eqb _ _ h) g

  -- what holds of what fields of each kind say holds of what fields say
  pub by_kind : (f : Fields)
      → (f.kind ≡ type_kind → P (Some (head (type f.a))))
      → (f.kind ≡ attribute_kind → P (Some (head (attribute f.a))))
      → (f.kind ≡ path_kind → P (onward (path_is f.variant f.count) (λ h. Some (head h))))
      → (f.kind ≡ item_kind → P (onward (item_is f.variant f.a) (λ i. Some (item i))))
      → (f.kind ≡ peer_kind → P (onward (peer_is f.variant f.a f.b) (λ p. Some (head (peer p)))))
      → (f.kind ≡ loops_kind → P (Some (head loops)))
      → (f.kind ≡ bogon_kind → P (Some (head bogon)))
      → (f.kind ≡ network_kind → P (onward (network_said (relation_is f.variant) (operand_of f) (side_is f.b)) (λ h. Some (head h))))
      → (f.kind ≡ time_kind → P (onward (comparison_is f.variant) (λ c. Some (head (time c f.a f.b)))))
      → P (Some flip)
      → P (Some (pass and f.count))
      → P (Some (pass or f.count))
      → (f.kind ≡ communities_kind → P (Some (head (communities f.count))))
      → P None
      → P (record_is f)
  unfolding record_is
  by_kind f a b c d e g h i j k l m n o =
      let kind = f.kind in
      choose kind type_kind a
      (choose kind attribute_kind b
      (choose kind path_kind c
      (choose kind item_kind d
      (choose kind peer_kind e
      (choose kind loops_kind g
      (choose kind bogon_kind h
      (choose kind network_kind i
      (choose kind time_kind j
      (choose kind flip_kind (λ q. k)
      (choose kind and_kind (λ q. l)
      (choose kind or_kind (λ q. m)
      (choose kind communities_kind n o))))))))))))
