-- `truth::matches` meets its contract, by whether `^` stands. Assumes nothing.
use native.Mathlib.Omega.{arith}
use mathlib.Core.Path.{◌≡◌, refl, sym, ◌∙◌}
use mathlib.Core.Bool.{true}
use mathlib.Core.List.{List}
use lib.Dec.{leb}
use borrow.Author.Tests.{lt-leb, le-leb}
use Rattle.octets.proofs.Choices.{alike}
use Rattle.aspath.specs.Members.{Member}
use Rattle.aspath.specs.Cursors.{left}
use Rattle.aspath.specs.Patterns.{matches}
use Rattle.truth.specs.Matching.{items_in, pattern_of, path_matches}
use Rattle.truth.proofs.ItemReads.{path_stands}
use Rattle.truth.proofs.PathReads.{pinned, free}
use mathlib.Core.List.{List}
use Prim.Native.Nat.{ℕ, ◌≤◌}
use Rattle.program.specs.declared.Fields.{Fields}
use Rattle.program.specs.Checks.{following_in, follows_in}
use Rattle.truth.proofs.matches.Goals.{then-f-gt-LAST_ENDS-via-then-f-gt-LAST_ENDS, then-f-gt-LAST_ENDS-via-else-f-gt-LAST_ENDS+then-not-follows}
use Rattle.truth.proofs.matches.Goals as goal

-- where what follows may, whether the items match is what is left
told : (f : Fields) (behind : List ℕ) (path : List Member) (n : ℕ) → f.variant ≤ 3 → follows_in f behind ≡ true → n ≡ following_in f
    → path_matches f behind path ≡ matches (pattern_of f (items_in n behind)) path
told f behind path n h e d = rw (le-leb f.variant 3 h, e, d) refl

pub returns-then-f-gt-LAST_ENDS : goal.returns-then-f-gt-LAST_ENDS
returns-then-f-gt-LAST_ENDS c = elim c.then-f-gt-LAST_ENDS.branch [
  | then-f-gt-LAST_ENDS-via-then-f-gt-LAST_ENDS w ↦ rw (lt-leb _ 3 w.if-f-gt-LAST_ENDS.true) refl
  | then-f-gt-LAST_ENDS-via-else-f-gt-LAST_ENDS+then-not-follows w ↦
      rw (sym w.follows.ensures ∙ w.if-not-follows.true) (sym (alike (leb c.args.f.variant 3) refl refl))
]

pub matches_here-requires : goal.matches_here-requires
matches_here-requires c = let a = c.args in
    rw c.following-count.ensures (sym (path_stands a.f a.behind.now c.requires) ∙ sym c.follows.ensures ∙ c.if-not-follows.false)

pub returns-then-is_start : goal.returns-then-is_start
returns-then-is_start c = let a = c.args in
    let path = left a.path in
    let follow = sym c.follows.ensures ∙ c.if-not-follows.false in
    let start = sym c.is_start.ensures ∙ c.if-is_start.true in
    rw (
      told a.f a.behind.now path _ (omega arith) follow c.following-count.ensures,
      pinned a.f _ path start,
      ← c.is_end-end.ensures,
    ) c.matches_here.ensures.0

pub matches_some-requires : goal.matches_some-requires
matches_some-requires c = let a = c.args in
    rw c.following-count.ensures (sym (path_stands a.f a.behind.now c.requires) ∙ sym c.follows.ensures ∙ c.if-not-follows.false)

pub returns : goal.returns
returns c = let a = c.args in
    let path = left a.path in
    let follow = sym c.follows.ensures ∙ c.if-not-follows.false in
    let start = sym c.is_start.ensures ∙ c.if-is_start.false in
    rw (
      told a.f a.behind.now path _ (omega arith) follow c.following-count.ensures,
      free a.f _ path start,
      ← c.is_end-end.ensures,
    ) c.matches_some.ensures
