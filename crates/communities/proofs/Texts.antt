-- Laws of a community's text: it is short. Assumes nothing.
use Prim.Native.Nat.{ℕ, ◌/◌, ◌%◌, ◌≤◌}
use native.Mathlib.Omega.{arith}
use mathlib.Core.List.{List}
use lib.ListN.{length, length-append}
use Rattle.octets.specs.Lists.{every_none, every_more}
use Rattle.octets.proofs.Decimal.{digits_length, digits_few}
use Rattle.names.proofs.Finding.{named_each}
use Rattle.communities.specs.Communities.{half_limit}
use Rattle.communities.specs.Names.{community_names}
use Rattle.communities.specs.Text.{halves_text, community_text}

-- no text is longer than `NO_EXPORT_SUBCONFED`
abbrev pub longest_text : ℕ
longest_text = 19

halves_short : (c : ℕ) → length (halves_text c) ≤ longest_text
unfolding halves_text
halves_short c = simp length-append (omega (arith, digits_length 10 (c / half_limit), digits_few 4 9 (c % half_limit) (omega arith)))

pub text_short : (c : ℕ) → length (community_text c) ≤ longest_text
unfolding community_text community_names
text_short c =
    named_each (λ (w : List ℕ). length w ≤ longest_text) c
    (every_more (λ e. omega arith) (every_more (λ e. omega arith) (every_more (λ e. omega arith) every_none)))
    (halves_short c)
