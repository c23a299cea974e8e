use Rattle.std.proofs.Common.{◌≡◌, ◌+◌, ◌∙◌, OnOk, ap, sym, subst, arith}
use Rattle.cell_memory.specs.Memory.{cells_of, placed_in}
use Rattle.cell_memory.proofs.Objects.{less_room, value_parts}
use Rattle.sym_expr.specs.States.{value_cells}
use Rattle.cell_memory.proofs.memory.CellMemory.put_value.Goals as goal

pub returns-in-Num-clause-ok : goal.returns-in-Num-clause-ok
returns-in-Num-clause-ok c = c.put_number.ensures.cells ∙ ap (λ v. placed_in (cells_of c.args.self.now) c.args.object c.args.at (value_cells v)) (sym c.in-Num.is)

pub returns-in-Num-clause-room : goal.returns-in-Num-clause-room
returns-in-Num-clause-room c = λ other more has. less_room c.put_number.new.self other more (more + 1) (omega arith) (c.put_number.ensures.room other (more + 1) has)

pub returns-in_default : goal.returns-in_default
returns-in_default c = record {
  ok = subst (λ cs. OnOk c.put_whole.result (cells_of c.put_whole.new.self ≡ placed_in (cells_of c.args.self.now) c.args.object c.args.at cs)) (value_parts c.args.value c.in_default.not-Num) c.put_whole.ensures.ok;
  err = c.put_whole.ensures.err;
  succeeds = c.put_whole.ensures.succeeds;
  room = c.put_whole.ensures.room;
}
