use Rattle.std.proofs.Common.{◌∙◌, sym, ap}
use Rattle.cell_memory.specs.Wholes.{whole_in}
use Rattle.cell_memory.proofs.RunCells.{whole_itself_in}
use Rattle.cell_memory.proofs.cells.Cells.whole.Goals as goal

pub returns-in-Some : goal.returns-in-Some
returns-in-Some c = sym (ap whole_in c.in-Some.ensures ∙ whole_itself_in c.in-Some.whole c.args.count c.requires.some)
