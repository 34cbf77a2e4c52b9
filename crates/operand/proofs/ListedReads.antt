-- One of a list in an operand, an item of a pattern or a community: its reader, and that all communities are read as numbers. Assumes nothing.
use Prim.Native.Nat.{ℕ}
use mathlib.Core.Path.{◌≡◌}
use mathlib.Core.List.{List}
use lib.ListN.{length}
use Rattle.aspath.specs.declared.Item.{Item}
use Rattle.aspath.specs.declared.Item.TheVariants.{Number}
use Rattle.operand.specs.Parted.{all_parted}
use Rattle.operand.specs.Patterns.{ItemText}
use Rattle.operand.specs.Communities.{CommunityText, community_read}
use Rattle.operand.specs.Listed.{listed_read}
use Rattle.operand.specs.declared.Listed.{Listed}
use Rattle.operand.specs.declared.Listed.TheVariants.{Items, Communities}
use Rattle.operand.proofs.AsNumberLaws.{BehindAs}
use Rattle.operand.proofs.OperandItems.{item_reads}
use Rattle.operand.proofs.OperandCommunities.{BehindCommunity, community_reads}
use Rattle.operand.proofs.PartedLaws.{ReadsOne}
use Rattle.operand.proofs.PartedMade.{Made, makes_all, made_reads, parted_made}

-- how one is written
abbrev pub ListedText : Listed → List ℕ → Item → Type 0
ListedText Items = ItemText
ListedText Communities = Made Number CommunityText

-- what may stand behind it
abbrev pub ListedBehind : Listed → List ℕ → Type 0
ListedBehind Items = BehindAs
ListedBehind Communities = BehindCommunity

-- its reader
pub listed_reads : (k : Listed) → ReadsOne (ListedText k) (listed_read k) (ListedBehind k)
unfolding listed_read
listed_reads Items = item_reads
listed_reads Communities = made_reads Number community_reads

-- communities are read as numbers
pub communities_listed : (l : List ℕ) → all_parted (listed_read Communities) l ≡ makes_all Number (all_parted community_read l)
unfolding listed_read
communities_listed l = parted_made Number community_read (length l) l
