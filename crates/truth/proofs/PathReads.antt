-- Laws of a pattern's items against the members that are left, and against those from a cursor on. Assumes nothing.
use Prim.Native.Nat.{ℕ}
use Rattle.std.specs.Prelude.{Option, Some, None, is_some}
use Rattle.std.specs.Iterator.{YieldsFirstBy}
use mathlib.Core.Path.{◌≡◌, refl, sym, ◌∙◌}
use mathlib.Core.Bool.{Bool, true, false, not}
use mathlib.Core.List.{List, [], ◌∷◌}
use Rattle.octets.proofs.Choices.{never}
use Rattle.aspath.specs.declared.Cursor.{Cursor}
use Rattle.aspath.specs.declared.Item.{Item}
use Rattle.aspath.specs.declared.Members.{Members}
use Rattle.aspath.specs.Members.{Member, member_of}
use Rattle.aspath.specs.Wire.{width_bytes}
use Rattle.aspath.specs.Cursors.{remaining, next_at, left}
use Rattle.aspath.specs.Patterns.{fits, matches_here, matches_some, matches}
use Rattle.program.specs.declared.Fields.{Fields}
use Rattle.program.specs.Layout.{is_start, is_end}
use Rattle.aspath.proofs.Cursors.{member_view, end_view}
use Rattle.truth.specs.Matching.{matches_at, matches_from, pattern_of}

module _ (m after : Members) where
  -- a step that gives nothing had nothing left
  pub ended : (r : Option ℕ) → YieldsFirstBy member_of left m r after → is_some r ≡ false → left m ≡ []
  ended None s e = s.0
  ended (Some n) s e = never (sym e)

  -- one that gives a member had it left, and those after it
  pub stepped : (r : Option ℕ) → YieldsFirstBy member_of left m r after → is_some r ≡ true → (n : ℕ) × (left m ≡ member_of n ∷ left after)
  stepped None s e = never e
  stepped (Some n) s e = (n, s)

  -- no item is left, and the path has to end: no member may be
  pub here_last : (end : Bool) (r : Option ℕ) (none : Bool) → end ≡ true → YieldsFirstBy member_of left m r after → is_some r ≡ not none
      → none ≡ matches_here end [] (left m)
  unfolding matches_here
  here_last end None true t s e = rw s.0 refl
  here_last end None false t s e = never e
  here_last end (Some n) true t s e = never (sym e)
  here_last end (Some n) false t s e = rw (s, t) refl

module _ (end : Bool) where
  -- no item is left, and the path has not to end
  pub here_all : (ms : List Member) → end ≡ false → matches_here end [] ms ≡ true
  unfolding matches_here
  here_all [] e = refl
  here_all (m ∷ ms) e = rw e refl

  module _ (i : Item) (is : List Item) where
    -- an item is left and no member
    pub here_end : matches_here end (i ∷ is) [] ≡ false
    unfolding matches_here
    here_end = refl

    module _ (m : Member) (ms : List Member) where
      -- the item doesn't match the member
      pub here_other : fits i m ≡ false → matches_here end (i ∷ is) (m ∷ ms) ≡ false
      unfolding matches_here
      here_other h = rw h refl

      -- it does
      pub here_next : fits i m ≡ true → matches_here end (i ∷ is) (m ∷ ms) ≡ matches_here end is ms
      unfolding matches_here
      here_next h = rw h refl

-- what the items match from a cursor on, they match of the members from it on
pub at_members : (end : Bool) (w : ℕ) (s : List ℕ) (is : List Item) (c : Cursor) → matches_at end is w s c ≡ matches_here end is (remaining w s c)
unfolding matches_at matches_here
at_members end w s [] c = go (next_at w s c) refl end
  where
    go : (n : Option (ℕ × Cursor)) → next_at w s c ≡ n → (e : Bool) → matches_at e [] w s c ≡ matches_here e [] (remaining w s c)
    go (Some x) e true = rw (e, member_view w s c e) refl
    go (Some x) e false = rw (member_view w s c e) refl
    go None e true = rw (e, end_view w s c e) refl
    go None e false = rw (end_view w s c e) refl
at_members end w s (i ∷ is) c = go (next_at w s c) refl (at_members end w s is)
  where
    go : (n : Option (ℕ × Cursor)) → next_at w s c ≡ n → ((d : Cursor) → matches_at end is w s d ≡ matches_here end is (remaining w s d))
        → matches_at end (i ∷ is) w s c ≡ matches_here end (i ∷ is) (remaining w s c)
    go (Some x) e ih = rw (e, member_view w s c e, ih x.1) refl
    go None e ih = rw (e, end_view w s c e) refl

-- so what is told of the members that an iterator has left is told by the cursor that it holds
pub by_cursor : (end : Bool) (is : List Item) (m : Members) {r : Bool} → r ≡ matches_here end is (left m)
    → (r ≡ matches_here end is (left m)) × (r ≡ matches_from end is m)
by_cursor end is m h = (h, h ∙ sym (at_members end (width_bytes m.width) m.body.now is m.place))

-- ---- from some place on

module _ (end : Bool) (is : List Item) where
  -- from this one
  pub some_here : (ms : List Member) → matches_here end is ms ≡ true → matches_some end is ms ≡ true
  unfolding matches_some
  some_here [] h = h
  some_here (m ∷ ms) h = rw h refl

  -- not from here, and none is left
  pub some_none : matches_here end is [] ≡ false → matches_some end is [] ≡ false
  unfolding matches_some
  some_none h = h

  -- not from here: from one of those after it
  pub some_next : (m : Member) (ms : List Member) → matches_here end is (m ∷ ms) ≡ false → matches_some end is (m ∷ ms) ≡ matches_some end is ms
  unfolding matches_some
  some_next m ms h = rw h refl

-- ---- the pattern of a path record

module _ (f : Fields) (is : List Item) (path : List Member) where
  -- pinned to the first member
  pub pinned : is_start f.variant ≡ true → matches (pattern_of f is) path ≡ matches_here (is_end f.variant) is path
  pinned e = rw e refl

  -- not so
  pub free : is_start f.variant ≡ false → matches (pattern_of f is) path ≡ matches_some (is_end f.variant) is path
  free e = rw e refl
