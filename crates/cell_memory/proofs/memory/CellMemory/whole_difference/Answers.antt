use Rattle.std.proofs.Common.{◌∙◌, take, drop, sym, ap}
use Rattle.std.specs.Option.{option_and_then}
use Rattle.cell_memory.specs.Memory.{cells_of}
use Rattle.cell_memory.specs.Wholes.{difference_in}
use Rattle.cell_memory.proofs.Taken.{difference_is}
use Rattle.cell_memory.proofs.memory.CellMemory.whole_difference.Goals as goal

pub returns-in-Some : goal.returns-in-Some
returns-in-Some c = c.difference.ensures ∙ ap (option_and_then difference_in) c.in-Some.ensures ∙ sym (difference_is (take 4 (drop c.args.at (cells_of c.args.self.now c.args.object))))

pub returns-in-None : goal.returns-in-None
returns-in-None c = ap (option_and_then difference_in) c.in-None.ensures ∙ sym (difference_is (take 4 (drop c.args.at (cells_of c.args.self.now c.args.object))))
