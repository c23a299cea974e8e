use Rattle.std.proofs.Common.{◌∙◌, take, drop, sym, ap}
use Rattle.std.specs.Option.{option_and_then, option_map}
use Rattle.cell_memory.specs.declared.whole.Entry.{Entry}
use Rattle.cell_memory.specs.Memory.{cells_of}
use Rattle.cell_memory.specs.Wholes.{entry_in}
use Rattle.cell_memory.proofs.Taken.{entry_is}
use Rattle.sym_expr.specs.Symbolic.{entry_step}
use Rattle.cell_memory.proofs.memory.CellMemory.entry.Goals as goal

pub returns-in-Some : goal.returns-in-Some
returns-in-Some c = λ g signed width.
    entry_is g c.args.count signed width (take c.args.count (drop c.args.at (cells_of c.args.self.now c.args.object)))
    ∙ ap (option_map (λ (e : Entry). entry_step g c.args.count signed width e.scale e.first e.second)) (sym (c.entry.ensures ∙ ap (option_and_then (entry_in c.args.count)) c.in-Some.ensures))

pub returns-in-None : goal.returns-in-None
returns-in-None c = λ g signed width.
    entry_is g c.args.count signed width (take c.args.count (drop c.args.at (cells_of c.args.self.now c.args.object)))
    ∙ ap (option_map (λ (e : Entry). entry_step g c.args.count signed width e.scale e.first e.second)) (sym (ap (option_and_then (entry_in c.args.count)) c.in-None.ensures))
