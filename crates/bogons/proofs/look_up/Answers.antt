-- `bogons::look_up` meets its contract: each way through the code is one through the tree. Assumes nothing.
use native.Mathlib.Omega.{arith}
use mathlib.Core.Path.{◌∙◌}
use Rattle.bogons.specs.Bogons.{bogons}
use Rattle.bogons.specs.Search.{leaf, size, pair, three, four, seven, bogon_search}
use Rattle.bogons.proofs.Search.{last_bound, first_part, second_part, pair_search, promised}
use Rattle.bogons.proofs.look_up.Goals as goal

pub returns-then-n-table : goal.returns-then-n-table
unfolding bogon_search bogons size
returns-then-n-table c = promised _ (c.search_pair.ensures ∙ first_part _ bogons pair seven 0 (omega arith) (pair_search _ bogons 0))

pub returns-then-n-table-3 : goal.returns-then-n-table-3
unfolding bogon_search bogons size
returns-then-n-table-3 c = promised _ (c.decided.ensures ∙ second_part _ bogons pair seven 0 (omega arith)
    (first_part _ bogons three four 2 (omega arith) (first_part _ bogons leaf pair 2 (omega arith) (last_bound _ bogons 2))))

pub returns-then-n-table-2 : goal.returns-then-n-table-2
unfolding bogon_search bogons size
returns-then-n-table-2 c = promised _ (c.search_pair-then-n-table-2.ensures ∙ second_part _ bogons pair seven 0 (omega arith)
    (first_part _ bogons three four 2 (omega arith) (second_part _ bogons leaf pair 2 (omega arith) (pair_search _ bogons 3))))

pub returns-then-n-table-4 : goal.returns-then-n-table-4
unfolding bogon_search bogons size
returns-then-n-table-4 c = promised _ (c.search_pair-then-n-table-4.ensures ∙ second_part _ bogons pair seven 0 (omega arith)
    (second_part _ bogons three four 2 (omega arith) (first_part _ bogons pair pair 5 (omega arith) (pair_search _ bogons 5))))

pub returns : goal.returns
unfolding bogon_search bogons size
returns c = promised _ (c.search_pair-2.ensures ∙ second_part _ bogons pair seven 0 (omega arith)
    (second_part _ bogons three four 2 (omega arith) (second_part _ bogons pair pair 5 (omega arith) (pair_search _ bogons 7))))
