-- What `fits` and `matches` decide: an item takes a member, and the items of a pattern match neighbouring members of a path. Assumes nothing.
use Prim.Native.Nat.{ℕ}
use native.Mathlib.Omega.{arith}
use mathlib.Core.Path.{◌≡◌, refl, sym, ap, ◌∙◌}
use mathlib.Core.Bool.{Bool, true, false}
use mathlib.Core.List.{List, [], ◌∷◌, ◌++◌, append_assoc}
use borrow.Author.Tests.{not-true}
use Rattle.aspath.specs.declared.Item.{Item}
use Rattle.aspath.specs.declared.Item.TheVariants.{Number, Other, Any}
use Rattle.aspath.specs.Members.{Member, holds}
use Rattle.aspath.specs.Patterns.{Fits, EachFits, none, more, Pattern, Matches, fits, matches_here, matches_some, matches}
use Rattle.octets.proofs.Choices.{never, either, second, each}
use Rattle.aspath.proofs.MeaningMembers.{holds_sound, holds_complete, holds_not, not_holds}

-- an item that was found to take a member takes it
pub fits_sound : (i : Item) (m : Member) → fits i m ≡ true → Fits i m
unfolding Fits
fits_sound (Number n) m e = holds_sound e
fits_sound (Other n) m e = holds_not (not-true (holds m n) e)
fits_sound Any m e = tt

-- and none is missed
pub fits_complete : (i : Item) (m : Member) → Fits i m → fits i m ≡ true
unfolding Fits
fits_complete (Number n) m x = holds_complete x
fits_complete (Other n) m x = rw (not_holds x)
fits_complete Any m x = refl

-- the items match members from the front, to the end where end is true
record Here (end : Bool) (is : List Item) (path : List Member) : Type 0 where
  middle : List Member
  after : List Member
  joined : path ≡ middle ++ after
  items : EachFits is middle
  ends : end ≡ true → after ≡ []

-- items that were found to match from the front do
here_sound : (end : Bool) (is : List Item) (path : List Member) → matches_here end is path ≡ true → Here end is path
unfolding matches_here
here_sound end [] [] e = record { middle = []; after = []; joined = refl; items = none; ends = λ h. refl }
here_sound end [] (m ∷ ms) e =
    record { middle = []; after = m ∷ ms; joined = refl; items = none; ends = λ h. never (sym (not-true end e) ∙ h) }
here_sound end (i ∷ is) [] e = never e
here_sound end (i ∷ is) (m ∷ ms) e = go (here_sound end is ms) (each (fits i m) (matches_here end is ms) e)
  where
    go : (matches_here end is ms ≡ true → Here end is ms) → (fits i m ≡ true) × (matches_here end is ms ≡ true) → Here end (i ∷ is) (m ∷ ms)
    go ih b =
        let o = ih b.1 in
        record { middle = m ∷ o.middle; after = o.after; joined = ap (λ (l : List Member). m ∷ l) o.joined; items = more (fits_sound i m b.0) o.items; ends = o.ends }

-- and none are missed
here_complete : (end : Bool) {is : List Item} {middle : List Member} (after : List Member) → EachFits is middle → (end ≡ true → after ≡ [])
    → matches_here end is (middle ++ after) ≡ true
unfolding matches_here
here_complete end [] none f = refl
here_complete true (m ∷ ms) none f = let e : ◌≡◌ {A = ℕ} 0 1 = cc (f refl) in absurd (omega arith)
here_complete false (m ∷ ms) none f = refl
here_complete end after (more {i = i} {m = m} x xs) f = rw (fits_complete i m x) (here_complete end after xs f)

-- from some place on
record Somewhere (end : Bool) (is : List Item) (path : List Member) : Type 0 where
  before : List Member
  rest : List Member
  joined : path ≡ before ++ rest
  here : Here end is rest

-- items that were found to match from some place on do
some_sound : (end : Bool) (is : List Item) (path : List Member) → matches_some end is path ≡ true → Somewhere end is path
unfolding matches_some
some_sound end is [] e = record { before = []; rest = []; joined = refl; here = here_sound end is [] e }
some_sound end is (m ∷ ms) e = go (some_sound end is ms)
  where
    go : (matches_some end is ms ≡ true → Somewhere end is ms) → Somewhere end is (m ∷ ms)
    go ih =
        either
        (matches_here end is (m ∷ ms))
        (matches_some end is ms)
        e
        (λ h. record { before = []; rest = m ∷ ms; joined = refl; here = here_sound end is (m ∷ ms) h })
        (λ h.
        let o = ih h in
        record { before = m ∷ o.before; rest = o.rest; joined = ap (λ (l : List Member). m ∷ l) o.joined; here = o.here })

-- and none are missed
some_complete : (end : Bool) (is : List Item) (before rest : List Member) → matches_here end is rest ≡ true → matches_some end is (before ++ rest) ≡ true
unfolding matches_some
some_complete end is [] [] e = e
some_complete end is [] (m ∷ ms) e = rw e
some_complete end is (b ∷ before) rest e = second (matches_here end is (b ∷ before ++ rest)) (some_complete end is before rest e)

-- a path that was found to match a pattern matches it
pub matches_sound : {p : Pattern} {path : List Member} → matches p path ≡ true → Matches p path
matches_sound {p} {path} e = go p.start refl
  where
    go : (b : Bool) → p.start ≡ b → Matches p path
    go true s =
        let o = here_sound p.end p.items path (rw s at e) in
        record { before = []; middle = o.middle; after = o.after; joined = o.joined; each = o.items; starts = λ h. refl; ends = o.ends }
    go false s =
        let o = some_sound p.end p.items path (rw s at e) in
        let h = o.here in
        record {
          before = o.before;
          middle = h.middle;
          after = h.after;
          joined = o.joined ∙ ap (λ (l : List Member). o.before ++ l) h.joined ∙ sym (append_assoc o.before h.middle h.after);
          each = h.items;
          starts = λ t. never (sym s ∙ t);
          ends = h.ends;
        }

-- and none is missed
pub matches_complete : {p : Pattern} {path : List Member} → Matches p path → matches p path ≡ true
matches_complete {p} {path} o = go p.start refl
  where
    here : matches_here p.end p.items (o.middle ++ o.after) ≡ true
    here = here_complete p.end o.after o.each o.ends

    go : (b : Bool) → p.start ≡ b → matches p path ≡ true
    go true s = rw (s, o.joined, o.starts s) here
    go false s = rw (s, o.joined, append_assoc) (some_complete p.end p.items o.before (o.middle ++ o.after) here)
