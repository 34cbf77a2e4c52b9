-- Laws of the attributes that the iterator has left: which comes first, what their bodies are, and which has a code. Assumes nothing.
use Prim.Native.Nat.{ℕ, zero, suc, ◌+◌, ◌-◌, ◌≤◌}
use native.Mathlib.Decide.{ℕ_discrete}
use native.Mathlib.Omega.{arith}
use mathlib.Core.Path.{◌≡◌, refl, sym, ap, ◌∙◌}
use mathlib.Core.Bool.{Bool, true, false, ◌&&◌}
use mathlib.Core.List.{List, [], ◌∷◌, map}
use Rattle.std.specs.Prelude.{option_map}
use Rattle.std.specs.List.{list_all, find}
use lib.ListN.{length, get_or, drop, length-drop}
use lib.Seq.{drop-drop}
use lib.Dec.{eqb}
use borrow.Author.Tests.{eq-eqb, ne_eqb}
use Rattle.octets.specs.Choice.{pick}
use Rattle.octets.specs.Parts.{part_at}
use Rattle.octets.specs.Rows.{items_in, items}
use Rattle.octets.proofs.Rows.{items_end, items_next}
use Rattle.attributes.specs.declared.Placed.{Placed}
use Rattle.attributes.specs.Wire.{Raw, attribute_header, body_size, attribute_size, raw_of, raws_of}
use Rattle.attributes.specs.Bodies.{body_right, all_right}
use Rattle.attributes.specs.Finding.{find_in, find_of}
use Rattle.attributes.specs.Left.{placed_of}
use Rattle.attributes.proofs.Sizes.{Step, size_stands, attribute_sizes}

-- an attribute with its body read
raw_at : List ℕ → Placed → Raw
raw_at s a = record { code = a.code; body = part_at s a.body.start a.body.len }

module _ (s : List ℕ) where
  -- those from a place on
  abbrev pub left_from : ℕ → List Placed
  left_from at = items attribute_size (placed_of s) (drop at s)

  -- where one stands, its place is in the section
  within : (at : ℕ) → (attribute_size (drop at s) ≡ 0 → ⊥) → length s - length (drop at s) ≡ at
  within at n = let x = size_stands (drop at s) n in omega (arith, x.long, x.fits, length-drop at s)

  -- it is the first of those left
  pub left_next : (at : ℕ) {h r : ℕ} → Step s at r → h ≡ attribute_header (drop at s)
      → left_from at ≡ record { code = get_or s (at + 1) 0; body = record { start = at + h; len = at + r - (at + h) } } ∷ left_from (at + r)
  unfolding placed_of
  left_next at {h} {r} x e =
      let start : length s - length (drop at s) + attribute_header (drop at s) ≡ at + h = omega (arith, within at x.some) in
      let len : body_size (drop at s) ≡ at + r - (at + h) = omega (arith, x.parts) in
      items_next attribute_size (placed_of s) attribute_sizes (drop at s) x.some ∙ rw (x.next, x.code, start, len) refl

  -- a comes first of those left from a place on: it stands there, and the others are left from its end on
  pub record Came (at : ℕ) (a : Placed) (more : List Placed) : Type 0 where
    pub some : attribute_size (drop at s) ≡ 0 → ⊥
    pub code : get_or (drop at s) 1 0 ≡ a.code
    pub fits : a.body.start + a.body.len ≤ length s
    pub next : drop (attribute_size (drop at s)) (drop at s) ≡ drop (a.body.start + a.body.len) s
    pub others : left_from (a.body.start + a.body.len) ≡ more

  pub came : (at : ℕ) {a : Placed} {more : List Placed} → left_from at ≡ a ∷ more → Came at a more
  unfolding placed_of
  came at {a} {more} e = go (ℕ_discrete (attribute_size (drop at s)) 0)
    where
      go : Dec (attribute_size (drop at s) ≡ 0) → Came at a more
      go (yes z) =
          let c : ◌≡◌ {A = List Placed} [] (a ∷ more) = sym (items_end attribute_size (placed_of s) (drop at s) z) ∙ e in
          absurd (omega (arith, ap length c))
      go (no n) =
          let x = size_stands (drop at s) n in
          let c = sym (items_next attribute_size (placed_of s) attribute_sizes (drop at s) n) ∙ e in
          let first : placed_of s (drop at s) ≡ a = cc in
          let rest : items attribute_size (placed_of s) (drop (attribute_size (drop at s)) (drop at s)) ≡ more = cc in
          let end : at + attribute_size (drop at s) ≡ a.body.start + a.body.len = rw (← first) (omega (arith, within at n, x.parts)) in
          let next : drop (attribute_size (drop at s)) (drop at s) ≡ drop (a.body.start + a.body.len) s = rw (← end) (drop-drop (attribute_size (drop at s)) at s) in
          record {
            some = n;
            code = ap (λ (b : Placed). b.code) first;
            fits = rw (← end) (omega (arith, x.long, x.fits, length-drop at s));
            next = next;
            others = rw (← next) rest;
          }

  -- where none comes, none stands there
  pub none_came : (at : ℕ) → left_from at ≡ [] → attribute_size (drop at s) ≡ 0
  none_came at e = go (ℕ_discrete (attribute_size (drop at s)) 0)
    where
      go : Dec (attribute_size (drop at s) ≡ 0) → attribute_size (drop at s) ≡ 0
      go (yes z) = z
      go (no n) =
          let c = sym (items_next attribute_size (placed_of s) attribute_sizes (drop at s) n) ∙ e in
          absurd (omega (arith, ap length c))

  -- ---- their bodies

  raw_same : (at : ℕ) → (attribute_size (drop at s) ≡ 0 → ⊥) → raw_at s (placed_of s (drop at s)) ≡ raw_of (drop at s)
  unfolding raw_at raw_of placed_of
  raw_same at n = rw (within at n, drop-drop (attribute_header (drop at s)) at s) refl

  raws_in : (f at : ℕ) → map (raw_at s) (items_in attribute_size (placed_of s) f (drop at s)) ≡ items_in attribute_size raw_of f (drop at s)
  unfolding items_in
  raws_in zero at = refl
  raws_in (suc f) at = go (ℕ_discrete (attribute_size (drop at s)) 0) (raws_in f (at + attribute_size (drop at s)))
    where
      go : Dec (attribute_size (drop at s) ≡ 0)
          → map (raw_at s) (items_in attribute_size (placed_of s) f (drop (at + attribute_size (drop at s)) s))
          ≡ items_in attribute_size raw_of f (drop (at + attribute_size (drop at s)) s)
          → map (raw_at s) (items_in attribute_size (placed_of s) (suc f) (drop at s)) ≡ items_in attribute_size raw_of (suc f) (drop at s)
      go (yes z) ih = simp (eq-eqb _ _ z)
      go (no n) ih = simp (ne_eqb _ _ n, drop-drop) (cc (raw_same at n, ih))

  module _ (w : ℕ) where
    -- the body of an attribute is right
    abbrev pub right_at : Placed → Bool
    right_at a = body_right w a.code (part_at s a.body.start a.body.len)

    all_raws : (xs : List Placed) → list_all right_at xs ≡ all_right w (map (raw_at s) xs)
    unfolding all_right raw_at
    all_raws [] = refl
    all_raws (a ∷ xs) = rw (all_raws xs) (go (right_at a))
      where
        go : (b : Bool) → (b && all_right w (map (raw_at s) xs)) ≡ pick b (all_right w (map (raw_at s) xs)) false
        go true = refl
        go false = refl

    -- every body is right
    pub all_left : list_all right_at (left_from 0) ≡ all_right w (raws_of s)
    all_left = all_raws (left_from 0) ∙ ap (all_right w) (raws_in (length s) 0)

  -- ---- the first with a code

  module _ (code : ℕ) where
    -- it has the code
    abbrev pub has_code : Placed → Bool
    has_code a = eqb a.code code

    find_left : (f at : ℕ) → option_map (λ (a : Placed). a.body) (find has_code (items_in attribute_size (placed_of s) f (drop at s)))
        ≡ find_in f code at (drop at s)
    unfolding items_in find_in placed_of
    find_left zero at = refl
    find_left (suc f) at =
        go (ℕ_discrete (attribute_size (drop at s)) 0) (ℕ_discrete (get_or (drop at s) 1 0) code) (find_left f (at + attribute_size (drop at s)))
      where
        go : Dec (attribute_size (drop at s) ≡ 0) → Dec (get_or (drop at s) 1 0 ≡ code)
            → option_map (λ (a : Placed). a.body) (find has_code (items_in attribute_size (placed_of s) f (drop (at + attribute_size (drop at s)) s)))
            ≡ find_in f code (at + attribute_size (drop at s)) (drop (at + attribute_size (drop at s)) s)
            → option_map (λ (a : Placed). a.body) (find has_code (items_in attribute_size (placed_of s) (suc f) (drop at s))) ≡ find_in (suc f) code at (drop at s)
        go (yes z) c ih = simp (eq-eqb _ _ z)
        go (no n) (yes c) ih = simp (ne_eqb _ _ n, eq-eqb _ _ c, within at n)
        go (no n) (no c) ih = simp (ne_eqb _ _ n, ne_eqb _ _ c, drop-drop) ih

    -- its body is what is found
    pub found_left : option_map (λ (a : Placed). a.body) (find has_code (left_from 0)) ≡ find_of code s
    found_left = find_left (length s) 0
