-- `program::grouped` meets its contract. The loop's invariant: the records are grouped just where those that are left are. Assumes nothing.
use Prim.Native.Nat.{ℕ}
use native.Mathlib.Omega.{arith}
use mathlib.Core.Path.{◌≡◌, refl, sym, ap, ◌∙◌}
use mathlib.Core.List.{List, [], ◌∷◌}
use lib.ListN.{length, drop, length-drop}
use lib.Dec.{eqb}
use borrow.Author.Tests.{ne_eqb}
use Rattle.octets.specs.Rows.{whole}
use Rattle.octets.proofs.Rows.{sized_some, sized_none, whole_end, whole_bad, whole_next}
use Rattle.program.specs.Checks.{group_size}
use Rattle.program.proofs.ValidGroups.{group_sizes}
use Rattle.program.proofs.grouped.Goals as goal

-- where no group stands, the end must
at_end : (l : List ℕ) → group_size l ≡ 0 → eqb (length l) 0 ≡ whole group_size l
at_end [] z = sym (whole_end group_size [] refl)
at_end (b ∷ l) z = ne_eqb _ _ (λ e. omega arith) ∙ sym (whole_bad group_size (b ∷ l) (omega arith) z)

pub loop-size-smaller : goal.loop-size-smaller
loop-size-smaller c =
    let l = c.loop-size.rest.now in
    let z = sized_some (sym c.in-Some.is ∙ c.group_size.ensures) in
    omega (arith, ap length c.rest-rest.ensures, length-drop c.in-Some.size l, group_sizes.fits l, z.same, z.some)

pub loop-size-preserved : goal.loop-size-preserved
loop-size-preserved c =
    let l = c.loop-size.rest.now in
    let z = sized_some (sym c.in-Some.is ∙ c.group_size.ensures) in
    ap (whole group_size) (c.rest-rest.ensures ∙ ap (λ (k : ℕ). drop k l) (sym z.same)) ∙ sym (whole_next group_size group_sizes l z.some) ∙ c.loop-size.invariant

pub returns : goal.returns
returns c = c.is_empty.ensures ∙ at_end c.loop-size.rest.now (sized_none (sym c.in_default.is ∙ c.group_size.ensures)) ∙ c.loop-size.invariant
