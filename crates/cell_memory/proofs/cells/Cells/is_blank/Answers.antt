use Rattle.std.proofs.Common.{arith, get_or}
use Rattle.cell_memory.specs.Shown.{kept_in, shown}
use Rattle.cell_memory.proofs.Parts.{blank_read, some_known}
use Rattle.cell_memory.proofs.Runs.{length-cells}
use Rattle.sym_expr.specs.Values.{Blank}
use Rattle.cell_memory.proofs.cells.Cells.is_blank.Goals as goal

pub index-requires : goal.index-requires
index-requires c = let all = length-cells (kept_in c.args.self.now) 0 c.args.self.now.bytes.items c.args.self.now.marks.items in omega arith

pub returns-in-Some : goal.returns-in-Some
returns-in-Some c = some_known (get_or (shown c.args.self.now) c.args.at Blank) c.in-Some.field-0 c.in-Some.ensures

pub returns-in-None : goal.returns-in-None
returns-in-None c = let self = c.args.self.now in blank_read (kept_in self) self.bytes.items self.marks.items c.args.at c.index.result.now c.requires c.index.ensures c.in-None.ensures
