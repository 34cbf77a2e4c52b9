-- `program::items_stand` meets its contract: the chain makes the test at each place. Assumes nothing.
use Rattle.std.proofs.Common.{rules, ◌∙◌, ℕ, ◌*◌, drop, arith}
use Rattle.std.proofs.lemmas.Iterator.{YieldsList-from_range}
use Rattle.std.proofs.lemmas.Iterator.Search.{all_from_yields_List}
use Rattle.program.specs.Layout.{record_size}
use Rattle.program.specs.Checks.{item_stands}
use Rattle.program.proofs.Walks.{each_listed}
use Rattle.program.proofs.items_stand.Goals as goal

pub returns : goal.returns
returns c =
    let s = c.args.records.now in
    let last = c.args.last in
    let n = c.args.count in
    all_from_yields_List (λ (k : ℕ). item_stands last (drop (record_size * k) s)) _ _ _ c.all.ensures.ran (YieldsList-from_range 0 n n (search rules) (omega arith)) (λ x b q k. search rules)
    ∙ each_listed (item_stands last) n s
