-- Laws of cursors: the members from a cursor on, and what a step says of them. Assumes nothing.
use Prim.Native.Nat.{ℕ, zero, suc, ◌+◌, ◌-◌, ◌*◌, ◌≤◌}
use native.Mathlib.Nat.{zero-mul, suc-mul, add-zero, lt_of_not-le}
use native.Mathlib.Decide.{dec_le, ℕ_discrete}
use native.Mathlib.Omega.{arith}
use mathlib.Core.Path.{◌≡◌, refl, sym, ap, ◌∙◌}
use mathlib.Core.List.{List, [], ◌∷◌, ◌++◌, map}
use lib.ListN.{length, get_or, drop, length-drop}
use lib.Seq.{get_or-drop, drop-drop}
use lib.Dec.{eqb-suc-zero}
use borrow.Author.Tests.{le-leb, lt-leb, eq-eqb, ne_eqb}
use Rattle.octets.proofs.Numbers.{number_drop}
use Rattle.octets.proofs.Rows.{items_end, items_next}
use Rattle.std.specs.Prelude.{Option, Some, None}
use Rattle.aspath.specs.declared.Cursor.{Cursor}
use Rattle.aspath.specs.Members.{Member, number, members, member_of}
use Rattle.aspath.specs.Wire.{segment_size, segment_of, numbers_in, members_of}
use Rattle.aspath.specs.Cursors.{numbers_from, remaining, next_at}
use Rattle.aspath.proofs.Segments.{Stands, stands_size, size_stands, segment_sizes}

module _ (w : ℕ) where
  -- where no segment stands, there are no members
  members_none : (l : List ℕ) → segment_size w l ≡ 0 → members_of w l ≡ []
  unfolding members
  members_none l z = rw (items_end (segment_size w) (segment_of w) l z) refl

  -- from the end on there are none
  members_past : (s : List ℕ) (at : ℕ) → length s ≤ at → members_of w (drop at s) ≡ []
  members_past s at h = members_none (drop at s) (omega (arith, (segment_sizes w).fits (drop at s), length-drop at s))

  -- where one stands, the members are its numbers and those after it
  members_next : (l : List ℕ) → (segment_size w l ≡ 0 → ⊥)
      → members_of w l ≡ map number (numbers_in w (get_or l 1 0) (drop 2 l)) ++ members_of w (drop (segment_size w l) l)
  unfolding members segment_of
  members_next l n = rw (items_next (segment_size w) (segment_of w) (segment_sizes w) l n) refl

module _ (w : ℕ) (s : List ℕ) where
  -- where all the numbers asked for are there, none is left out
  numbers_all : (n at : ℕ) → at + n * w ≤ length s → numbers_in w n (drop at s) ≡ numbers_from w s at n
  unfolding numbers_in numbers_from
  numbers_all zero at h = refl
  numbers_all (suc n) at h =
      let here : at + w ≤ length s = omega (arith, suc-mul n w) in
      let rest : at + w + n * w ≤ length s = omega (arith, suc-mul n w) in
      simp (le-leb _ _ here, number_drop s at 0 w, add-zero, drop-drop, numbers_all n (at + w) rest)

  -- a step's answer as a list: its member and those after it
  abbrev view : Option (ℕ × Cursor) → List Member
  view (Some x) = member_of x.0 ∷ remaining w s x.1
  view None = []

  -- at the front of a segment
  start : (at : ℕ) → Dec (segment_size w (drop at s) ≡ 0) → view (next_at w s (record { at = at; left = 0 })) ≡ members_of w (drop at s)
  unfolding next_at numbers_from remaining
  start at (yes z) = simp (eq-eqb _ _ z) (sym (members_none w (drop at s) z))
  start at (no n) = go (get_or s (at + 1) 0) refl
    where
      stands : Stands w s at
      stands = size_stands w s at n

      go : (count : ℕ) → get_or s (at + 1) 0 ≡ count → view (next_at w s (record { at = at; left = 0 })) ≡ members_of w (drop at s)
      go zero e = absurd (omega (arith, stands.some))
      go (suc k) e =
          let fits : at + 2 + suc k * w ≤ length s = omega (arith, rw e at stands.fits) in
          let here : at + 2 + w ≤ length s = omega (arith, suc-mul k w) in
          let m : suc k - 1 ≡ k = omega arith in
          let p : at + 2 + w + k * w ≡ at + (2 + suc k * w) = omega (arith, suc-mul k w) in
          simp (ne_eqb _ _ n, e, m)
          (rw (members_next w (drop at s) n, stands_size w s at stands, get_or-drop at s 1 0, e, drop-drop 2 at s, drop-drop (2 + suc k * w) at s, numbers_all (suc k) (at + 2) fits)
          (simp (le-leb _ _ here, p)))

  -- at any cursor
  next_view : (at left : ℕ) → view (next_at w s (record { at = at; left = left })) ≡ remaining w s (record { at = at; left = left })
  unfolding next_at numbers_from remaining
  next_view at zero = simp (zero-mul, add-zero) (start at (ℕ_discrete (segment_size w (drop at s)) 0))
  next_view at (suc n) = go (dec_le (at + w) (length s))
    where
      m : suc n - 1 ≡ n
      m = omega arith

      p : at + w + n * w ≡ at + suc n * w
      p = omega (arith, suc-mul n w)

      go : Dec (at + w ≤ length s) → view (next_at w s (record { at = at; left = suc n })) ≡ remaining w s (record { at = at; left = suc n })
      go (yes h) = simp (eqb-suc-zero n, le-leb _ _ h, m, p)
      go (no f) =
          let k : length s ≤ at + suc n * w = omega (arith, suc-mul n w, lt_of_not-le f) in
          simp (eqb-suc-zero n, lt-leb _ _ (lt_of_not-le f), members_past w s (at + suc n * w) k)

  -- what a step's answer says of the members from a cursor on: one, and those from the next cursor on
  pub member_view : {x : ℕ × Cursor} (c : Cursor) → next_at w s c ≡ Some x → remaining w s c ≡ member_of x.0 ∷ remaining w s x.1
  member_view c e = sym (next_view c.at c.left) ∙ ap view e

  -- none
  pub end_view : (c : Cursor) → next_at w s c ≡ None → remaining w s c ≡ []
  end_view c e = sym (next_view c.at c.left) ∙ ap view e

  -- from the cursor where a path starts on, they are all of it
  pub whole_path : remaining w s (record { at = 0; left = 0 }) ≡ members_of w s
  unfolding numbers_from remaining
  whole_path = simp zero-mul
