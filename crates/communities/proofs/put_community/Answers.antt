-- `communities::put_community` meets its contract: an arm for each name. Assumes nothing.
use native.Mathlib.Omega.{arith}
use borrow.Author.Tests.{ne_eqb}
use Rattle.names.specs.Tables.{name_of}
use Rattle.communities.specs.Names.{community_names}
use Rattle.communities.specs.Text.{community_text}
use Rattle.communities.proofs.put_community.Goals as goal

pub returns-in-4294967041 : goal.returns-in-4294967041
unfolding community_text community_names name_of
returns-in-4294967041 c = rw c.in-4294967041.is c.put_bytes.ensures

pub returns-in-4294967042 : goal.returns-in-4294967042
unfolding community_text community_names name_of
returns-in-4294967042 c = rw c.in-4294967042.is c.put_bytes-in-4294967042.ensures

pub returns-in-4294967043 : goal.returns-in-4294967043
unfolding community_text community_names name_of
returns-in-4294967043 c = rw c.in-4294967043.is c.put_bytes-in-4294967043.ensures

pub returns-in_default : goal.returns-in_default
unfolding community_text community_names name_of
returns-in_default c = let n = c.args.community in
    simp (ne_eqb 4294967041 n (λ e. omega arith), ne_eqb 4294967042 n (λ e. omega arith), ne_eqb 4294967043 n (λ e. omega arith)) c.put_halves.ensures
