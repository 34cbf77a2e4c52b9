-- What the code makes of the communities that it counted. Assumes nothing.
use Prim.Native.Nat.{ℕ, ◌-◌}
use native.Mathlib.Omega.{arith}
use mathlib.Core.Path.{◌≡◌, refl, sym, ap, ◌∙◌}
use mathlib.Core.Bool.{Bool, true, false}
use Rattle.std.specs.Prelude.{Option, None, Some}
use mathlib.Core.List.{List, [], ◌∷◌, map}
use lib.ListN.{length, get_or, drop_of_length-le, length-map}
use Rattle.octets.specs.Choice.{pick, onward}
use Rattle.octets.proofs.Choices.{alike}
use Rattle.aspath.specs.declared.Item.{Item}
use Rattle.aspath.specs.declared.Item.TheVariants.{Number}
use Rattle.program.specs.Kinds.{communities_kind}
use Rattle.program.specs.Layout.{fields, head_fields}
use Rattle.program.specs.Readings.{has_communities}
use Rattle.program.specs.Records.{item}
use Rattle.program.specs.Compiling.{head_of, items_of}
use Rattle.operand.specs.declared.Head.{Head}
use Rattle.operand.specs.declared.Listed.TheVariants.{Communities}
use Rattle.operand.specs.declared.Name.TheVariants.{Communities as communities_name}
use Rattle.operand.specs.Fronts.{Read, ended}
use Rattle.operand.specs.Parted.{parted_read, all_parted}
use Rattle.operand.specs.Communities.{community_read, blank_end, one_or_more, communities_operand}
use Rattle.operand.specs.Listed.{listed_read, listed_records}
use Rattle.operand.specs.Tests.{meaning, following_meant, meant_of}
use Rattle.token.specs.Next.{is_blank}
use Rattle.operand.proofs.Said.{ended_end, ended_left}
use Rattle.operand.proofs.MeantFollows.{some_follow}
use Rattle.operand.proofs.ListedReads.{communities_listed}
use Rattle.operand.proofs.OperandCommunities.{asked_in}

-- the records of communities that are meant are those that are read
pub communities_follow : (s : List ℕ) {h : Head} → Some h ≡ meant_of (meaning communities_name s) → listed_records Communities s ≡ following_meant (meaning communities_name s)
unfolding meaning items_of
communities_follow s e =
    sym (some_follow (communities_operand s) has_communities (λ cs m. ap (map item) (ap (map Number) (sym (asked_in s m)) ∙ ap (λ (r : Read (List Item)). r.value) (sym (communities_listed s)))) e)

module _ (s : List ℕ) {rest : List ℕ} {count : ℕ} (n : count ≡ length (all_parted (listed_read Communities) s).value) (l : rest ≡ (all_parted (listed_read Communities) s).rest) where
  -- the communities
  abbrev asked : List ℕ
  asked = (all_parted community_read s).value

  counted : count ≡ length asked
  counted = n ∙ rw (communities_listed s) (length-map asked Number)

  behind : rest ≡ (all_parted community_read s).rest
  behind = l ∙ rw (communities_listed s)

  -- an operand with none
  pub broken_none : count ≡ 0 → None ≡ meant_of (meaning communities_name s)
  unfolding meaning communities_operand
  broken_none z = rw (drop_of_length-le asked {i = 0} (omega (arith, counted))) (go (blank_end s) (all_parted community_read s).rest)
    where
      go : (b : Bool) (rest : List ℕ) → None ≡ meant_of (onward (pick b None (onward (ended rest []) one_or_more)) (λ cs. Some (has_communities cs)))
      go true rest = refl
      go false [] = refl
      go false (r ∷ rs) = refl

  -- with bytes left behind
  pub broken_left : (length rest ≡ 0 → ⊥) → None ≡ meant_of (meaning communities_name s)
  unfolding meaning communities_operand
  broken_left h = rw (← behind, ended_left rest asked h, alike {A = Option (List ℕ)} {z = None} (blank_end s) refl refl)

  -- communities
  pub communities_here : (count ≡ 0 → ⊥) → length rest ≡ 0 → is_blank (get_or s (length s - 1) 0) ≡ false
      → Some (record { fields = fields communities_kind 0 count 0 0; following = count }) ≡ meant_of (meaning communities_name s)
  unfolding meaning communities_operand blank_end head_of items_of head_fields
  communities_here f e b = rw (b, ← behind, ended_end rest asked e, counted) (go asked (λ z. f (counted ∙ z)))
    where
      go : (cs : List ℕ) → (length cs ≡ 0 → ⊥)
          → Some (record { fields = fields communities_kind 0 (length cs) 0 0; following = length cs }) ≡ meant_of (onward (one_or_more cs) (λ cs. Some (has_communities cs)))
      go [] f = absurd (f refl)
      go (c ∷ cs) f = rw (length-map (map Number cs) item, length-map cs Number)

-- an operand with a blank at its end
pub broken_blank : (s : List ℕ) → is_blank (get_or s (length s - 1) 0) ≡ true → None ≡ meant_of (meaning communities_name s)
unfolding meaning communities_operand blank_end
broken_blank s b = rw b

-- none is listed in no bytes
pub some_bytes : (s : List ℕ) {count : ℕ} → count ≡ length (all_parted (listed_read Communities) s).value → (count ≡ 0 → ⊥) → length s ≡ 0 → ⊥
unfolding parted_read
some_bytes [] n f z = f n
some_bytes (x ∷ xs) n f z = omega arith
