use Rattle.std.proofs.Common.{List, take, subst, sym}
use Rattle.aux_tables.specs.Found.{IsFound}
use Rattle.gt_model.specs.declared.tables.Aux.{Aux}
use Rattle.ir_check.specs.Faults.{aux_fault}
use Rattle.ir_check.proofs.First.{none_item}
use Rattle.ir_check.proofs.Stopping.{stops_at, taken_item}
use Rattle.ir_check.proofs.tables.read_tables.Goals as goal

pub returns-in-Err : goal.returns-in-Err
returns-in-Err c = stops_at aux_fault c.args.tables.now c.loop-table.table-index c.table-item.result c.in-Err.end c.loop-table.invariant.0 c.loop-table-test.true c.table-item.is c.in-Err.ensures

pub loop-table-preserved : goal.loop-table-preserved
loop-table-preserved c = (
  none_item aux_fault c.args.tables.now c.loop-table.table-index c.table-item.result c.loop-table.invariant.0 c.loop-table-test.true c.table-item.is (sym c.in_default.ensures.0),
  subst (λ (ts : List Aux). IsFound ts c.add_table.new.found) (taken_item c.args.tables.now c.loop-table.table-index c.table-item.result c.loop-table-test.true c.table-item.is)
      (c.in_default.ensures.1 (take c.loop-table.table-index c.args.tables.now) c.loop-table.invariant.1),
)
