use Rattle.std.specs.Prelude.{All}
use Rattle.sym_expr.specs.declared.program.Program.{Program}
use Rattle.sym_step.specs.Found.{IsSlot}
use Rattle.sym_step.proofs.cache.Cache.new.Given as goal

abbrev pub invariant-loop : goal.invariant-loop
invariant-loop l = (g : Program) → All (IsSlot g) l.slots.items
