-- `truth::holds_each` meets its contract. The loop's invariant: all numbers are held just where those left are. Assumes nothing.
use Prim.Native.Nat.{ℕ, ◌-◌, ◌*◌}
use native.Mathlib.Omega.{arith}
use mathlib.Core.Path.{◌≡◌, refl, sym, ap, ◌∙◌}
use mathlib.Core.Bool.{true, false}
use mathlib.Core.List.{List, [], ◌∷◌}
use lib.ListN.{drop}
use Rattle.octets.specs.Lists.{every_passes}
use Rattle.communities.specs.Communities.{communities_of, is_held, holds_all}
use Rattle.program.specs.declared.Fields.{Fields}
use Rattle.program.specs.Layout.{record_size, fields_in}
use Rattle.program.specs.Checks.{number_variant}
use Rattle.truth.specs.Records.{number_of}
use Rattle.truth.specs.Matching.{numbers_in}
use Rattle.truth.proofs.ItemReads.{finds_numbers, number_decoded, one_read, each_none, Next, next_left, passed_next}
use Rattle.truth.proofs.holds_each.Goals as goal

module _ (held : List ℕ) where
  -- the first number is missing
  one_missing : (c : ℕ) (cs : List ℕ) → is_held held c ≡ false → holds_all held (c ∷ cs) ≡ false
  unfolding holds_all every_passes
  one_missing c cs e = rw e refl

  -- it is held
  one_held : (c : ℕ) (cs : List ℕ) → is_held held c ≡ true → holds_all held (c ∷ cs) ≡ holds_all held cs
  unfolding holds_all every_passes
  one_held c cs e = rw e refl

  -- none is left
  none_left : holds_all held [] ≡ true
  unfolding holds_all every_passes
  none_left = refl

-- the number read, and those after it
stands : {n more : ℕ} {l : List ℕ} {f : Fields} → Next number_of number_variant n more l → f ≡ fields_in l
    → numbers_in n l ≡ f.a ∷ numbers_in more (drop record_size l)
stands {l = l} h e =
    h.all ∙ rw (one_read number_of h.decoded (number_decoded (fields_in l) h.is_item_lem) refl ∙ ap (λ (f : Fields). f.a) (sym e)) refl

pub returns-then-not-has : goal.returns-then-not-has
returns-then-not-has c = let a = c.args in
    let l = c.loop-n in
    let h = next_left finds_numbers {n = l.n} {count = a.count} (drop (record_size * l.n) a.records.now) (omega arith) l.invariant.0 in
    let held = communities_of a.body.now in
    sym ((sym l.invariant.1 ∙ ap (holds_all held) (stands h c.fields_at-asked.ensures))
    ∙ one_missing held _ _ (sym c.has.ensures ∙ c.if-not-has.true))

pub loop-n-preserved : goal.loop-n-preserved
loop-n-preserved c = let a = c.args in
    let l = c.loop-n in
    let h = next_left finds_numbers {n = l.n} {count = a.count} (drop (record_size * l.n) a.records.now) (omega arith) l.invariant.0 in
    let held = communities_of a.body.now in
    let same = sym (one_held held _ _ (sym c.has.ensures ∙ c.if-not-has.false))
    ∙ sym (sym l.invariant.1 ∙ ap (holds_all held) (stands h c.fields_at-asked.ensures)) in
    let after = passed_next l.n a.records.now in
    (rw after at h.rest, rw after at same)

pub returns : goal.returns
returns c = let a = c.args in
    let l = c.loop-n in
    let held = communities_of a.body.now in
    let rest = drop (record_size * l.n) a.records.now in
    let z : a.count - l.n ≡ 0 = omega arith in
    let none = ap (λ (n : ℕ). numbers_in n rest) z ∙ each_none number_of rest in
    sym (sym l.invariant.1 ∙ ap (holds_all held) none ∙ none_left held)
