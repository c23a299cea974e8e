use Rattle.std.proofs.Common.{◌∙◌, sym}
use Rattle.cell_memory.specs.Shown.{shown}
use Rattle.cell_memory.proofs.Parts.{whole_read}
use Rattle.cell_memory.proofs.cells.Cells.whole_by_cells.Goals as goal

pub returns-in-Some : goal.returns-in-Some
returns-in-Some c = c.whole_of.ensures ∙ sym (whole_read (shown c.args.self.now) c.args.at c.args.count _ c.requires.some c.requires.inside c.in-Some.ensures)

pub returns-in-None : goal.returns-in-None
returns-in-None c = sym (whole_read (shown c.args.self.now) c.args.at c.args.count _ c.requires.some c.requires.inside c.in-None.ensures)
