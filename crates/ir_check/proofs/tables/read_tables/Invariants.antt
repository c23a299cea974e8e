use Rattle.std.proofs.Common.{◌≡◌, take, None}
use Rattle.aux_tables.specs.Found.{IsFound}
use Rattle.ir_check.specs.Faults.{aux_fault}
use Rattle.ir_check.specs.Spans.{first_in}
use Rattle.ir_check.proofs.tables.read_tables.Given as goal

abbrev pub invariant-loop-table : goal.invariant-loop-table
invariant-loop-table l = (first_in aux_fault (take l.table-index l.tables) ≡ None) × IsFound (take l.table-index l.tables) l.found
