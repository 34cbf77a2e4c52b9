-- `line::put_lines` meets its contract: one line after another, of the parts and of no attributes. Assumes nothing.
use Rattle.line.proofs.Lines.{lines_written}
use Rattle.line.proofs.put_lines.Goals as goal

pub returns : goal.returns
returns c = let a = c.args in
    lines_written a.s.now a.parts c.part_of-announced.ensures c.part_of-attributes.ensures c.part_of-withdrawn.ensures c.part-none.ensures
    c.put_line-place.ensures c.put_line.ensures
