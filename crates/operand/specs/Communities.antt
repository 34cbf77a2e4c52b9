-- `-communities` (request 1): one or more communities parted by blanks, each `N:M` or a name. No blank stands at the ends.
use Rattle.std.specs.Prelude.{ℕ, ◌-◌, ◌≤◌, ◌≡◌, Bool, List, [], ◌∷◌, ◌++◌, length, get_or, Option, None, Some}
use Rattle.octets.specs.Choice.{pick, or_else, onward}
use Rattle.names.specs.Tables.{In, found}
use Rattle.communities.specs.Communities.{half_limit, community}
use Rattle.communities.specs.Names.{community_names}
use Rattle.token.specs.Next.{is_blank, is_letter}
use Rattle.operand.specs.Fronts.{Read, read, ended, after, cut}
use Rattle.operand.specs.Decimals.{Below, number}
use Rattle.operand.specs.Parted.{PartedText, all_parted}

-- two halves, each 0 to 65535, with a colon between; or a name
pub data CommunityText : List ℕ → ℕ → Type 0 where
  halves : {bs cs l : List ℕ} {n m : ℕ} → Below half_limit bs n → Below half_limit cs m → l ≡ bs ++ (58 ∷ cs) → CommunityText l (community n m)
  by_name : {bs : List ℕ} {c : ℕ} → In community_names bs c → CommunityText bs c

-- one or more, with blanks between
pub record CommunitiesOperand (bs cs : List ℕ) : Type 0 where
  pub parted : PartedText CommunityText bs cs
  pub some : 1 ≤ length cs

-- ---- what the code computes

-- the halves at the front
unfoldable pub halves_read : List ℕ → Option (Read ℕ)
halves_read l =
    onward (number half_limit l) (λ n. onward (after 58 n.rest) (λ r. onward (number half_limit r) (λ m.
    Some (read (community n.value m.value) m.rest))))

-- the name at the front: letters up to the first byte that is none
unfoldable pub name_read : List ℕ → Option (Read ℕ)
name_read l = onward (found community_names (cut is_letter l).value) (λ c. Some (read c (cut is_letter l).rest))

-- the community at the front
unfoldable pub community_read : List ℕ → Option (Read ℕ)
community_read l = or_else (name_read l) (halves_read l)

-- a blank stands at the end
unfoldable pub blank_end : List ℕ → Bool
blank_end l = is_blank (get_or l (length l - 1) 0)

-- one or more
abbrev pub one_or_more : List ℕ → Option (List ℕ)
one_or_more [] = None
one_or_more (c ∷ cs) = Some (c ∷ cs)

-- the communities that these bytes write
unfoldable pub communities_operand : List ℕ → Option (List ℕ)
communities_operand l =
    pick (blank_end l) None
    (onward (ended (all_parted community_read l).rest (all_parted community_read l).value) one_or_more)
