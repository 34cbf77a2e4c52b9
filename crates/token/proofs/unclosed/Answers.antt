-- `token::unclosed` meets its contract. The loop's invariant: the quote that isn't closed from here on is the text's. Assumes nothing.
use Prim.Native.Nat.{ℕ, ◌<◌}
use native.Mathlib.Omega.{arith}
use mathlib.Core.Path.{◌≡◌, refl, sym, ap, ◌∙◌}
use mathlib.Core.List.{List}
use lib.ListN.{length}
use Rattle.std.proofs.Common.{rules}
use Rattle.token.specs.Next.{next_at}
use Rattle.token.specs.declared.Lexeme.{Lexeme}
use Rattle.token.specs.declared.Sort.TheVariants as sorts
use Rattle.token.proofs.Nexts.{Searched, search_on, search_found, search_end}
use Rattle.token.proofs.unclosed.Goals as goal

-- the search goes on behind a lexeme of another sort
goes_on : (text : List ℕ) (at : ℕ) {l : Lexeme} → l ≡ next_at text at → at < length text → (l.sort ≡ sorts.Unclosed → ⊥) → Searched text at l
goes_on text at e h n = rw e (search_on text at h (λ k. n (ap (λ (x : Lexeme). x.sort) e ∙ k)))

pub loop-at-init : goal.loop-at-init
loop-at-init c = (omega arith, refl)

pub returns-then-eq : goal.returns-then-eq
returns-then-eq c = let text = c.args.text.now in
    let l = c.loop-at in
    let e = c.next-found.ensures in
    let k : c.next-found.result.sort ≡ sorts.Unclosed = search rules in
    ap (λ (x : Lexeme). x.start) e ∙ (search_found text l.at (sym (ap (λ (x : Lexeme). x.sort) e) ∙ k) ∙ l.invariant.1)

pub loop-at-smaller : goal.loop-at-smaller
loop-at-smaller c = let text = c.args.text.now in
    let l = c.loop-at in
    let s = goes_on text l.at c.next-found.ensures (omega arith) (search rules) in
    omega arith

pub loop-at-preserved : goal.loop-at-preserved
loop-at-preserved c = let text = c.args.text.now in
    let l = c.loop-at in
    let s = goes_on text l.at c.next-found.ensures (omega arith) (search rules) in
    (s.within, s.same ∙ l.invariant.1)

pub returns : goal.returns
returns c = let text = c.args.text.now in
    let l = c.loop-at in
    let z : l.at ≡ length text = omega arith in
    rw z (sym (search_end text) ∙ (rw z at l.invariant.1))
