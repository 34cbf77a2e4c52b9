-- `attributes::find` meets its contract: the search of the iterator for the first attribute with the code. Assumes nothing.
use mathlib.Core.Path.{◌≡◌, refl, sym, ap, ◌∙◌}
use Rattle.std.proofs.Common.{rules, tests}
use Rattle.std.specs.Option.{option_map}
use Rattle.std.proofs.lemmas.Iterator.Adapters.{option_map_id}
use Rattle.std.proofs.lemmas.Iterator.Consumers.{YieldsList-from_first}
use Rattle.std.proofs.lemmas.Iterator.Search.{find_from_yields_List}
use Rattle.attributes.specs.declared.Placed.{Placed}
use Rattle.attributes.specs.Left.{attributes_left}
use Rattle.attributes.proofs.Left.{has_code, found_left}
use Rattle.attributes.proofs.find.Goals as goal

pub returns : goal.returns
returns c = let a = c.args in
    let e = find_from_yields_List (has_code a.s.now a.code) c.find.new.self _ c.find.result c.find.ensures.ran
    (YieldsList-from_first (λ h. h) attributes_left _ refl) (λ x b q k. search (rules, tests)) in
    let m : c.map.result ≡ option_map (λ (b : Placed). b.body) c.find.result = search (rules, tests) in
    m ∙ ap (option_map (λ (b : Placed). b.body)) (sym (option_map_id c.find.result) ∙ e) ∙ found_left a.s.now a.code
