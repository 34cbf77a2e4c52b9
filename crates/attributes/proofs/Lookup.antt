-- What `find` answers, against the raw attributes of a section and what they say. Assumes nothing.
use Prim.Native.Nat.{ℕ, zero, suc, ◌+◌}
use native.Mathlib.Decide.{ℕ_discrete}
use mathlib.Core.Path.{◌≡◌, refl, sym, ap, ◌∙◌}
use mathlib.Core.Bool.{Bool, true, false}
use mathlib.Core.List.{List, [], ◌∷◌, map}
use Rattle.std.specs.Prelude.{Option, Some, None, option_map}
use Rattle.std.specs.Option.{is_some}
use lib.ListN.{length, get_or, drop}
use lib.Seq.{drop-drop}
use lib.Dec.{eqb}
use borrow.Author.Tests.{eq-eqb, ne_eqb}
use Rattle.octets.specs.Choice.{pick, or_else}
use Rattle.octets.specs.Numbers.{number_at}
use Rattle.octets.specs.Rows.{items_in}
use Rattle.aspath.specs.Wire.{segments_of}
use Rattle.network.specs.Networks.{address_size}
use Rattle.communities.specs.Communities.{communities_of}
use Rattle.attributes.specs.declared.Body.{Body}
use Rattle.attributes.specs.Attribute.{Attribute, first_of, ask_origin, ask_path, ask_next_hop, ask_atomic, ask_aggregator, ask_communities}
use Rattle.attributes.specs.Attribute.{origin_code, as_path_code, next_hop_code, atomic_aggregate_code, aggregator_code, communities_code}
use Rattle.attributes.specs.Wire.{Raw, attribute_size, raw_of, raws_of, codes}
use Rattle.attributes.specs.Codes.{elem}
use Rattle.attributes.specs.Bodies.{aggregator_of, said, attributes_of}
use Rattle.attributes.specs.Finding.{first_body, body_at, find_in, find_of}
use Rattle.attributes.proofs.ByCode.{by_code, said_other}

-- ---- what is found

module _ (code : ℕ) (s : List ℕ) where
  body_in : (f at : ℕ) → body_at s (find_in f code at (drop at s)) ≡ first_body code (items_in attribute_size raw_of f (drop at s))
  unfolding find_in first_body items_in raw_of
  body_in zero at = refl
  body_in (suc f) at = go (ℕ_discrete (attribute_size (drop at s)) 0) (ℕ_discrete (get_or (drop at s) 1 0) code) (body_in f (at + attribute_size (drop at s)))
    where
      go : Dec (attribute_size (drop at s) ≡ 0) → Dec (get_or (drop at s) 1 0 ≡ code)
          → body_at s (find_in f code (at + attribute_size (drop at s)) (drop (at + attribute_size (drop at s)) s))
          ≡ first_body code (items_in attribute_size raw_of f (drop (at + attribute_size (drop at s)) s))
          → body_at s (find_in (suc f) code at (drop at s)) ≡ first_body code (items_in attribute_size raw_of (suc f) (drop at s))
      go (yes z) c ih = simp (eq-eqb _ _ z)
      go (no n) (yes c) ih = simp (ne_eqb _ _ n, eq-eqb _ _ c, drop-drop)
      go (no n) (no c) ih = simp (ne_eqb _ _ n, ne_eqb _ _ c, drop-drop) ih

  -- what is found is the first body with the code
  find_body : body_at s (find_of code s) ≡ first_body code (raws_of s)
  find_body = body_in (length s) 0

-- an answer is there just where its body is
there_at : (s : List ℕ) (f : Option Body) → is_some f ≡ is_some (body_at s f)
there_at s (Some b) = refl
there_at s None = refl

first_there : (code : ℕ) (raws : List Raw) → is_some (first_body code raws) ≡ elem code (codes raws)
unfolding first_body elem
first_there code [] = refl
first_there code (r ∷ raws) = go (eqb r.code code) (first_there code raws)
  where
    go : (b : Bool) → is_some (first_body code raws) ≡ elem code (codes raws)
        → is_some (pick b (Some r.body) (first_body code raws)) ≡ pick b true (elem code (codes raws))
    go true ih = refl
    go false ih = ih

-- a code is found exactly where it is one of the section's codes
pub code_found : (code : ℕ) (s : List ℕ) → is_some (find_of code s) ≡ elem code (codes (raws_of s))
code_found code s = there_at s (find_of code s) ∙ ap is_some (find_body code s) ∙ first_there code (raws_of s)

-- ---- what the attributes say

-- a question that just the attributes with a code answer, by their bodies
pub record Asks {A : Type 0} (w : ℕ) (ask : Attribute → Option A) (give : List ℕ → A) (code : ℕ) : Type 0 where
  pub answers : (r : Raw) → ask (said w r) ≡ pick (eqb r.code code) (Some (give r.body)) None

module _ {A : Type 0} {w : ℕ} {ask : Attribute → Option A} {give : List ℕ → A} {code : ℕ} (asks : Asks w ask give code) where
  -- it is answered by the first body with the code
  first_said : (raws : List Raw) → first_of ask (map (said w) raws) ≡ option_map give (first_body code raws)
  unfolding first_of first_body
  first_said [] = refl
  first_said (r ∷ raws) = rw (asks.answers r, first_said raws) (go (eqb r.code code))
    where
      go : (b : Bool) → or_else (pick b (Some (give r.body)) None) (option_map give (first_body code raws))
          ≡ option_map give (pick b (Some r.body) (first_body code raws))
      go true = refl
      go false = refl

  -- of a section it is answered by the body that is found
  pub first_found : (s : List ℕ) → first_of ask (attributes_of w s) ≡ option_map give (body_at s (find_of code s))
  first_found s = first_said (raws_of s) ∙ ap (option_map give) (sym (find_body code s))

-- the six that are asked
pub asks_origin : (w : ℕ) → Asks w ask_origin (λ body. get_or body 0 0) origin_code
unfolding said ask_origin
asks_origin w = record {
  answers = by_code (λ body. refl) (λ body. refl) (λ body. refl) (λ body. refl) (λ body. refl) (λ body. refl)
      (λ r u. rw (said_other w r u) (simp (ne_eqb _ _ u.no_origin)));
}

pub asks_path : (w : ℕ) → Asks w ask_path (segments_of w) as_path_code
unfolding said ask_path
asks_path w = record {
  answers = by_code (λ body. refl) (λ body. refl) (λ body. refl) (λ body. refl) (λ body. refl) (λ body. refl)
      (λ r u. rw (said_other w r u) (simp (ne_eqb _ _ u.no_path)));
}

pub asks_next_hop : (w : ℕ) → Asks w ask_next_hop (λ body. number_at body 0 address_size) next_hop_code
unfolding said ask_next_hop
asks_next_hop w = record {
  answers = by_code (λ body. refl) (λ body. refl) (λ body. refl) (λ body. refl) (λ body. refl) (λ body. refl)
      (λ r u. rw (said_other w r u) (simp (ne_eqb _ _ u.no_next_hop)));
}

pub asks_atomic : (w : ℕ) → Asks w ask_atomic (λ body. tt) atomic_aggregate_code
unfolding said ask_atomic
asks_atomic w = record {
  answers = by_code (λ body. refl) (λ body. refl) (λ body. refl) (λ body. refl) (λ body. refl) (λ body. refl)
      (λ r u. rw (said_other w r u) (simp (ne_eqb _ _ u.no_atomic)));
}

pub asks_aggregator : (w : ℕ) → Asks w ask_aggregator (aggregator_of w) aggregator_code
unfolding said ask_aggregator
asks_aggregator w = record {
  answers = by_code (λ body. refl) (λ body. refl) (λ body. refl) (λ body. refl) (λ body. refl) (λ body. refl)
      (λ r u. rw (said_other w r u) (simp (ne_eqb _ _ u.no_aggregator)));
}

pub asks_communities : (w : ℕ) → Asks w ask_communities communities_of communities_code
unfolding said ask_communities
asks_communities w = record {
  answers = by_code (λ body. refl) (λ body. refl) (λ body. refl) (λ body. refl) (λ body. refl) (λ body. refl)
      (λ r u. rw (said_other w r u) (simp (ne_eqb _ _ u.no_communities)));
}
