use Rattle.std.proofs.Common.{◌∙◌, get_or, sym}
use Rattle.cell_memory.proofs.RunCells.{all_same}
use Rattle.cell_memory.proofs.stored.run_count.Goals as goal

pub returns-then-are_all-clause-bytes : goal.returns-then-are_all-clause-bytes
returns-then-are_all-clause-bytes c = all_same (get_or c.args.bytes.now 0 0) c.args.bytes.now (sym c.are_all.ensures ∙ c.if-are_all.true)
