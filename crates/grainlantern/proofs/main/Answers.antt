-- `grainlantern::main` goes on with what compiling answered, is safe and ends. A refusal's place lies within the text, so it fits 32 bits.
use native.Mathlib.Omega.{arith}
use lib.ListN.{replicate, length-take, length-drop}
use Rattle.grainlantern.proofs.Compiled.{place_fits, refused_at, lent}
use Rattle.grainlantern.proofs.main.Goals as goal

pub overflow_cast-place : goal.overflow_cast-place
overflow_cast-place c = let fits = place_fits _ (replicate 8192 0) _ _ c.compile.ensures c.in-Err.is in
    omega (arith, fits (rw c.part.ensures (simp (length-take, length-drop) (omega arith))))

pub refuse-requires : goal.refuse-requires
refuse-requires c = refused_at _ (replicate 8192 0) _ _ c.compile.ensures c.in-Err.is c.from-number.ensures

pub filter_records-requires : goal.filter_records-requires
filter_records-requires c = lent _ (replicate 8192 0) _ _ c.compile.ensures c.in-Ok.is c.part-in-Ok.ensures
