-- `truth::matches_here` meets its contract. The loop's invariant: all items match all members just where those left match those left.
use Prim.Native.Nat.{ℕ, ◌*◌}
use native.Mathlib.Omega.{arith}
use mathlib.Core.Path.{◌≡◌, refl, sym, ap, ◌∙◌}
use mathlib.Core.Bool.{Bool, not}
use mathlib.Core.List.{List, [], ◌∷◌}
use lib.ListN.{drop}
use Rattle.std.specs.Prelude.{Some}
use Rattle.aspath.specs.declared.Item.{Item}
use Rattle.aspath.specs.Members.{Member}
use Rattle.aspath.specs.Patterns.{matches_here}
use Rattle.program.specs.Records.{item}
use Rattle.program.specs.Layout.{record_size, decode}
use Rattle.program.specs.Checks.{last_variant}
use Rattle.truth.specs.Records.{item_of}
use Rattle.truth.specs.Matching.{items_in}
use Rattle.truth.proofs.ItemReads.{finds_items, one_read, each_none, Next, next_left, passed_next}
use Rattle.truth.proofs.PathReads.{here_all, here_last, here_end, here_other, here_next, by_cursor}
use Rattle.truth.proofs.matches_here.Goals as goal

-- whether all match is whether those left do
whole : (end : Bool) {r : Bool} {is js : List Item} {ms ns : List Member} → matches_here end is ms ≡ r → is ≡ js → ms ≡ ns → matches_here end js ns ≡ r
whole end h e d = rw (e, d) at h

-- no item is left
none : (n : ℕ) (l : List ℕ) → n ≡ 0 → items_in n l ≡ []
none n l z = ap (λ (n : ℕ). items_in n l) z ∙ each_none item_of l

-- the item read, and those after it
stands : {n more : ℕ} {l : List ℕ} {i : Item} → Next item_of last_variant n more l → decode l ≡ Some (item i)
    → items_in n l ≡ i ∷ items_in more (drop record_size l)
stands h e = h.all ∙ rw (one_read item_of h.decoded e refl) refl

pub returns-in_default : goal.returns-in_default
returns-in_default c = let a = c.args in
    let l = c.loop-n in
    let h = next_left finds_items {n = l.n} {count = a.count} (drop (record_size * l.n) a.records.now) (omega arith) l.invariant.0 in
    by_cursor a.end _ a.from (sym (here_end a.end _ _) ∙ whole a.end l.invariant.1 h.all c.in_default.ensures.steps.0)

pub item_at-requires : goal.item_at-requires
item_at-requires c = let a = c.args in
    let l = c.loop-n in
    let h = next_left finds_items {n = l.n} {count = a.count} (drop (record_size * l.n) a.records.now) (omega arith) l.invariant.0 in
    h.is_item_lem

pub returns-then-not-takes : goal.returns-then-not-takes
returns-then-not-takes c = let a = c.args in
    let l = c.loop-n in
    let h = next_left finds_items {n = l.n} {count = a.count} (drop (record_size * l.n) a.records.now) (omega arith) l.invariant.0 in
    by_cursor a.end _ a.from (sym (here_other a.end _ _ _ _ (sym c.takes.ensures ∙ c.if-not-takes.true))
    ∙ whole a.end l.invariant.1 (stands h c.item_at.ensures) c.in-Some.ensures.steps)

pub loop-n-preserved : goal.loop-n-preserved
loop-n-preserved c = let a = c.args in
    let l = c.loop-n in
    let h = next_left finds_items {n = l.n} {count = a.count} (drop (record_size * l.n) a.records.now) (omega arith) l.invariant.0 in
    let match = sym (here_next a.end _ _ _ _ (sym c.takes.ensures ∙ c.if-not-takes.false))
    ∙ whole a.end l.invariant.1 (stands h c.item_at.ensures) c.in-Some.ensures.steps in
    let after = passed_next l.n a.records.now in
    (rw after at h.rest, rw after at match)

pub returns-then-not-end : goal.returns-then-not-end
returns-then-not-end c = let a = c.args in
    let l = c.loop-n in
    by_cursor a.end _ a.from (ap not c.if-not-end.true ∙ sym (here_all a.end _ c.if-not-end.true)
    ∙ whole a.end l.invariant.1 (none _ (drop (record_size * l.n) a.records.now) (omega arith)) refl)

pub returns-else-not-end : goal.returns-else-not-end
returns-else-not-end c = let a = c.args in
    let l = c.loop-n in
    by_cursor a.end _ a.from (here_last l.path c.next-else-not-end.new.self a.end c.next-else-not-end.result _ c.if-not-end.false c.next-else-not-end.ensures.steps c.is_none.ensures
    ∙ whole a.end l.invariant.1 (none _ (drop (record_size * l.n) a.records.now) (omega arith)) refl)
