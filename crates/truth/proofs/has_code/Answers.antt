-- `truth::has_code` meets its contract, by what is found. Assumes nothing.
use mathlib.Core.Path.{sym, ap, ◌∙◌}
use Rattle.std.specs.Option.{is_some}
use Rattle.octets.specs.Numbers.{Octets}
use Rattle.attributes.proofs.Lookup.{code_found}
use Rattle.truth.proofs.CodeReads.{over_none}
use Rattle.truth.proofs.has_code.Goals as goal

pub returns-then-code-ge-CODE_LIMIT : goal.returns-then-code-ge-CODE_LIMIT
returns-then-code-ge-CODE_LIMIT c = let s = c.args.section.now in
    let o : Octets s = record { below = λ i. (c.type_inv.section i).fits } in
    sym (over_none s o c.if-code-ge-CODE_LIMIT.true)

pub returns : goal.returns
returns c = let a = c.args in
    c.is_some.ensures ∙ ap is_some c.find.ensures ∙ code_found a.code a.section.now
