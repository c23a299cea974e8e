use Rattle.std.proofs.Common.{◌∙◌, ◌≤◌, Some, take, drop, subst, sym, ap}
use Rattle.std.specs.Option.{option_map}
use Rattle.cell_memory.specs.Shown.{shown}
use Rattle.cell_memory.specs.Wholes.{number_of}
use Rattle.cell_memory.proofs.Numbers.{number_is}
use Rattle.cell_memory.proofs.cells.Cells.number.Goals as goal

pub number_of-requires : goal.number_of-requires
number_of-requires c = subst (λ n. n ≤ 8) (sym c.in-Some.ensures.count) c.requires.count

pub returns-in-Some : goal.returns-in-Some
returns-in-Some c = ap Some c.number_of.ensures ∙ ap (option_map number_of) c.in-Some.ensures.bytes ∙ sym (number_is (take c.args.count (drop c.args.at (shown c.args.self.now))))

pub returns-in-None : goal.returns-in-None
returns-in-None c = ap (option_map number_of) c.in-None.ensures.bytes ∙ sym (number_is (take c.args.count (drop c.args.at (shown c.args.self.now))))
