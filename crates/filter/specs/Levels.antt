-- A level (the paper's term) is a `(` or `!` whose factor is unfinished.
use Rattle.std.specs.Prelude.{ℕ, zero, suc, ◌+◌, ◌-◌, ◌≡◌, List, ◌++◌, length, leb, ltb}
use Rattle.octets.specs.Choice.{pick}
use Rattle.program.specs.Readings.{Reading}
use Rattle.token.specs.Tokens.{Token}
use Rattle.filter.specs.Grammar.{Part, expression, Reads, flagged, tested, negated, grouped, single, anded, lone, ored}

-- the most levels open at once
abbrev pub level_limit : ℕ
level_limit = 32

-- the `(` and `!` among the first n tokens whose factor goes on after them
unfoldable pub open_at : {p : Part} {ts : List Token} {r : Reading} → Reads p ts r → ℕ → ℕ
open_at (flagged q) n = 0
open_at (tested q o m) n = 0
open_at (negated f) zero = 0
open_at (negated {ts = ts} f) (suc n) = pick (ltb n (length ts)) (suc (open_at f n)) 0
open_at (grouped e) zero = 0
open_at (grouped {ts = ts} e) (suc n) = pick (leb n (length ts)) (suc (open_at e n)) 0
open_at (single f) n = open_at f n
open_at (anded {ts = ts} w c q f) n = pick (leb n (length ts)) (open_at c n) (open_at f (n - (length ts + 1)))
open_at (lone c) n = open_at c n
open_at (ored {ts = ts} w e q c) n = pick (leb n (length ts)) (open_at e n) (open_at c (n - (length ts + 1)))

-- so many levels are open after these tokens: in some continuation of them, and so in all
pub record Open (ts : List Token) (levels : ℕ) : Type 0 where
  pub more : List Token
  pub reading : Reading
  pub reads : Reads expression (ts ++ more) reading
  pub counted : open_at reads (length ts) ≡ levels
