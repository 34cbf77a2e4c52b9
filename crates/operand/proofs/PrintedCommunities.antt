-- What a line prints of a community is an operand's text for it: both go by one table of names. Assumes nothing.
use Prim.Native.Nat.{ℕ, ◌/◌, ◌%◌, ◌^◌, ◌<◌}
use native.Mathlib.Omega.{arith}
use mathlib.Core.Path.{◌≡◌, refl}
use mathlib.Core.List.{List}
use Rattle.octets.specs.Decimal.{decimal}
use Rattle.octets.specs.Lists.{every_none, every_more}
use Rattle.octets.proofs.Decimal.{decimal_is}
use Rattle.names.specs.Tables.{here, there}
use Rattle.names.proofs.Finding.{named_each}
use Rattle.communities.specs.Communities.{half_limit, community}
use Rattle.communities.specs.Names.{community_names}
use Rattle.communities.specs.Text.{halves_text, community_text}
use Rattle.operand.specs.Decimals.{Below}
use Rattle.operand.specs.Communities.{CommunityText, halves, by_name}

half_is : (n : ℕ) → n < half_limit → Below half_limit (decimal n) n
half_is n h = record { decimal = decimal_is n (omega arith); below = h }

halves_are : (c : ℕ) → c < 2 ^ 32 → CommunityText (halves_text c) c
unfolding halves_text
halves_are c h =
    let x : CommunityText (halves_text c) (community (c / half_limit) (c % half_limit)) = halves (half_is (c / half_limit) (omega arith)) (half_is (c % half_limit) (omega arith)) refl in
    let e : community (c / half_limit) (c % half_limit) ≡ c = omega arith in
    rw e at x

pub printed_is : (c : ℕ) → c < 2 ^ 32 → CommunityText (community_text c) c
unfolding community_text community_names
printed_is c h =
    named_each (λ (w : List ℕ). CommunityText w c) c
    (every_more (λ e. rw (← e) (by_name here)) (every_more (λ e. rw (← e) (by_name (there here))) (every_more (λ e. rw (← e) (by_name (there (there here)))) every_none)))
    (halves_are c h)
