use Rattle.std.proofs.Common.{arith}
use Rattle.cell_memory.specs.Shown.{kept_in}
use Rattle.cell_memory.proofs.Runs.{length-cells}
use Rattle.cell_memory.proofs.cells.Cells.len.Goals as goal

pub returns : goal.returns
returns c = let all = length-cells (kept_in c.args.self.now) 0 c.args.self.now.bytes.items c.args.self.now.marks.items in omega arith
