-- `operand::named_community` meets its contract: the letters there, if they are a name. Assumes nothing.
use Prim.Native.Nat.{ℕ}
use native.Mathlib.Omega.{arith}
use mathlib.Core.Path.{◌≡◌, sym, ◌∙◌}
use mathlib.Core.List.{List}
use Rattle.std.specs.Prelude.{Option, Some}
use lib.ListN.{take, drop}
use Rattle.octets.specs.Choice.{onward}
use Rattle.names.specs.Tables.{found}
use Rattle.communities.specs.Names.{community_names}
use Rattle.token.specs.Next.{is_letter, run, run_end}
use Rattle.token.proofs.Runs.{end_within}
use Rattle.operand.specs.Fronts.{read, cut}
use Rattle.operand.specs.Communities.{name_read}
use Rattle.operand.proofs.named_community.Goals as goal

-- a name by the place where its letters end
name_of : (s : List ℕ) {e : ℕ} {w r : List ℕ} {o : Option ℕ} → e ≡ run_end is_letter s 0 → w ≡ take e s → r ≡ drop e s → o ≡ found community_names w
    → name_read s ≡ onward o (λ c. Some (read c r))
unfolding name_read cut
name_of s {e} h t d f =
    let z : e ≡ run is_letter s = h ∙ omega arith in
    rw (f, t, d, z)

pub split_at-requires : goal.split_at-requires
split_at-requires c = rw c.letters_end.ensures (end_within is_letter c.args.s.now 0 (omega arith))

pub returns-in_err-community : goal.returns-in_err-community
returns-in_err-community c =
    let x = c.split_at.ensures in
    rw c.from_residual.ensures (sym (name_of c.args.s.now c.letters_end.ensures x.front x.back c.named.ensures ∙ rw c.in_err-community.was))

pub returns : goal.returns
returns c =
    let x = c.split_at.ensures in
    sym (name_of c.args.s.now c.letters_end.ensures x.front x.back c.named.ensures ∙ rw c.in_ok-community.was)
