use Rattle.std.specs.List.{AllByRecursion as Every}
use Rattle.edge_repair.specs.Repaired.{repaired_module}
use Rattle.repaired_programs.specs.Intervals.{BringsOne}
use Rattle.repaired_programs.specs.Programs.{repaired_program}
use Rattle.sym_expr.specs.declared.patches.Function.{Function}
use Rattle.sym_expr.specs.Program.{program}
use Rattle.sym_expr.specs.TableOk.{function_words}
use Rattle.repaired_programs.proofs.Brought.{functions_short, IsShort}
use Rattle.repaired_programs.proofs.Lists.{every_both, every_weaker}
use Rattle.repaired_programs.proofs.Names.{AimsOne}
use Rattle.repaired_programs.proofs.Said.{function_one}
use Rattle.repaired_programs.proofs.laws.functions_say_one.Goals as goal

pub returns : goal.returns
returns c = λ m t p l typed aims.
    every_weaker (λ (f : Function). Every IsShort (function_words f) × Every (AimsOne l (repaired_program m t p) (program m t p) (repaired_module m t p) m p) (function_words f)) (BringsOne m t p l)
    (λ f k. function_one c.words_are_of_images.ensures c.whole_blocks_are_one_part.ensures m t p l f k.0 k.1) p.functions
    (every_both (λ (f : Function). Every IsShort (function_words f)) (λ (f : Function). Every (AimsOne l (repaired_program m t p) (program m t p) (repaired_module m t p) m p) (function_words f)) p.functions (functions_short p typed) aims)
