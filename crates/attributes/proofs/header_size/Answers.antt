-- `attributes::header_size` meets its contract. Assumes nothing.
use native.Mathlib.Omega.{arith}
use mathlib.Core.Path.{◌≡◌, ap, ◌∙◌}
use lib.ListN.{get_or}
use Rattle.octets.proofs.Numbers.{number_one}
use Rattle.attributes.specs.Wire.{length_width}
use Rattle.attributes.proofs.Sizes.{header_at}
use Rattle.attributes.proofs.header_size.Goals as goal

pub returns : goal.returns
returns c = let a = c.args in
    let s = a.s.now in
    let e : c.length_width.result ≡ length_width (get_or s a.at 0) =
    c.length_width.ensures.0 ∙ ap length_width (c.number.ensures ∙ number_one s a.at) in
    (rw (header_at s a.at) (omega arith), omega arith)
