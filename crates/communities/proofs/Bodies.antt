-- Laws of bodies of communities: where one stands, and reading them back. Assumes nothing.
use Prim.Native.Nat.{ℕ, zero, suc, ◌+◌, ◌-◌, ◌%◌, ◌≤◌, ◌<◌}
use native.Mathlib.Nat.{lt_of_not-le}
use native.Mathlib.Decide.{dec_le, ℕ_discrete}
use native.Mathlib.Omega.{arith}
use mathlib.Core.Path.{◌≡◌, refl, sym, ap, ◌∙◌}
use mathlib.Core.List.{List, [], ◌∷◌, ◌++◌}
use lib.ListN.{length, take, drop, length-append, length-drop}
use lib.Seq.{drop-drop}
use lib.Dec.{eqb}
use borrow.Author.Tests.{lt-ltb, le-ltb, eq-eqb, ne_eqb}
use Rattle.octets.specs.Numbers.{Octets, number_at, Field}
use Rattle.octets.specs.Rows.{whole}
use Rattle.octets.proofs.Fields.{field_sound, field_same}
use Rattle.octets.proofs.Numbers.{number_here}
use Rattle.octets.proofs.Rows.{Sizes, Reads, items_end, items_next, whole_end, whole_bad, whole_next}
use Rattle.communities.specs.Communities.{community_size, size_at, community_of, communities_of}

-- a community stands where there are bytes enough
pub size_here : (l : List ℕ) → community_size ≤ length l → size_at l ≡ community_size
unfolding size_at
size_here l h = simp (le-ltb _ _ h)

-- and only there
pub size_none : (l : List ℕ) → length l < community_size → size_at l ≡ 0
unfolding size_at
size_none l h = simp (lt-ltb _ _ h)

-- where one stands there are bytes enough
pub size_long : (l : List ℕ) → (size_at l ≡ 0 → ⊥) → community_size ≤ length l
size_long l n = go (dec_le community_size (length l))
  where
    go : Dec (community_size ≤ length l) → community_size ≤ length l
    go (yes h) = h
    go (no h) = absurd (n (size_none l (lt_of_not-le h)))

-- a community has no more bytes than there are
pub community_sizes : Sizes size_at
community_sizes = record { fits = λ l. go l (dec_le community_size (length l)) }
  where
    go : (l : List ℕ) → Dec (community_size ≤ length l) → size_at l ≤ length l
    go l (yes h) = omega (arith, size_here l h)
    go l (no h) = omega (arith, size_none l (lt_of_not-le h))

-- communities are read back
pub community_reads : Reads (Field community_size) size_at community_of
community_reads = record {
  fits = community_sizes.fits;
  some = λ x. omega (arith, x.long);
  exact = exact;
  same = λ x rest. field_same community_size x rest;
  sound = sound;
}
  where
    exact : {c : ℕ} {bytes : List ℕ} → Field community_size c bytes → (rest : List ℕ) → size_at (bytes ++ rest) ≡ length bytes
    exact {c} {bytes} x rest = size_here (bytes ++ rest) (simp length-append (omega (arith, x.long))) ∙ sym x.long

    sound : (l : List ℕ) → Octets l → (size_at l ≡ 0 → ⊥) → Field community_size (community_of l) (take (size_at l) l)
    sound l o n = let h = size_long l n in rw (size_here l h) (field_sound community_size l o h)

-- ---- a body from a place on

module _ (s : List ℕ) (at : ℕ) where
  -- the community there, and those after it
  pub communities_next : community_size ≤ length s - at → communities_of (drop at s) ≡ number_at s at community_size ∷ communities_of (drop (at + community_size) s)
  communities_next h =
      let l = drop at s in
      let e = size_here l (simp length-drop h) in
      rw (items_next size_at community_of community_sizes l (λ z. omega arith), e, drop-drop community_size at s, number_here s at community_size) refl

  -- none is left
  pub communities_end : length s - at < community_size → communities_of (drop at s) ≡ []
  communities_end h = items_end size_at community_of (drop at s) (size_none (drop at s) (simp length-drop h))

-- ---- whole bodies

whole_in : (f : ℕ) (l : List ℕ) → length l ≤ f → whole size_at l ≡ eqb (length l % community_size) 0
whole_in zero l k =
    let z : length l ≡ 0 = omega arith in
    let e : length l % community_size ≡ 0 = omega arith in
    whole_end size_at l z ∙ sym (eq-eqb _ _ e)
whole_in (suc f) l k = go (dec_le community_size (length l)) (ℕ_discrete (length l) 0) (whole_in f (drop community_size l))
  where
    go : Dec (community_size ≤ length l) → Dec (length l ≡ 0)
        → (length (drop community_size l) ≤ f → whole size_at (drop community_size l) ≡ eqb (length (drop community_size l) % community_size) 0)
        → whole size_at l ≡ eqb (length l % community_size) 0
    go (yes h) d ih =
        let s = size_here l h in
        let e : length (drop community_size l) % community_size ≡ length l % community_size = simp length-drop (omega arith) in
        whole_next size_at community_sizes l (λ z. omega arith)
        ∙ rw s (ih (simp length-drop (omega arith)) ∙ ap (λ (m : ℕ). eqb m 0) e)
    go (no h) (yes z) ih =
        let e : length l % community_size ≡ 0 = omega arith in
        whole_end size_at l z ∙ sym (eq-eqb _ _ e)
    go (no h) (no n) ih =
        let s = lt_of_not-le h in
        let m : length l % community_size ≡ 0 → ⊥ = λ e. n (omega arith) in
        whole_bad size_at l (omega arith) (size_none l s) ∙ sym (ne_eqb _ _ m)

-- bytes are communities to their end where their number is a multiple of a community's
pub whole_multiple : (l : List ℕ) → whole size_at l ≡ eqb (length l % community_size) 0
whole_multiple l = whole_in (length l) l (omega arith)
