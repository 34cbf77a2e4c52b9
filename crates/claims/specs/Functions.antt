-- What the demands speak of, as functions of all that is lent, so that a demand can be said of others too. A compiler stands in crate filter, a
-- judge in crate judge, a runner in crate run; here is the walker.
use Rattle.std.specs.Prelude.{ℕ, zero, suc, List, eqb, Option, Some, None}
use Rattle.octets.specs.Choice.{pick}
use Rattle.walk.specs.declared.Step.{Step}
use Rattle.walk.specs.Steps.{step_at, place_after}
use Rattle.filter.specs.Functions.{Compiling, reported}
use Rattle.judge.specs.declared.Tally.{Tally}
use Rattle.judge.specs.Functions.{Judging, Judge}

-- judging with the reported bytes, unchanged, where the text compiles; else nothing is judged
abbrev pub judged_with : Judge → Compiling → List ℕ → List ℕ → Option Tally → Option Judging
judged_with judge c bytes lines counting = pick (eqb c.number 0) (Some (judge (reported c) bytes lines counting)) None

-- of bytes and the place that is held: the answer, and the place held afterwards
abbrev pub Walker : Type 0
Walker = List ℕ → ℕ → Step × ℕ

-- the place held before the k-th step, counted from 0, and what that step answers
unfoldable pub place_by : Walker → List ℕ → ℕ → ℕ
place_by walker bytes zero = 0
place_by walker bytes (suc k) = (walker bytes (place_by walker bytes k)).1

abbrev pub step_by : Walker → List ℕ → ℕ → Step
step_by walker bytes k = (walker bytes (place_by walker bytes k)).0

-- ---- ours, as its promise settles it

abbrev pub our_walker : Walker
our_walker bytes at = (step_at bytes at, place_after (step_at bytes at) at)
