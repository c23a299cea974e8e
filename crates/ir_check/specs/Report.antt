-- What a check answers: the first fault, or how much there is of everything.
use Rattle.std.specs.Prelude.{length, sum_by, count_by, is_none, Option, Some, None, Result, Ok, Err}
use Rattle.std.specs.Option.{option_map_or}
use Rattle.gt_model.specs.declared.edges.Cfg.{Cfg}
use Rattle.gt_model.specs.declared.intervals.Interval.{Interval}
use Rattle.gt_model.specs.declared.ir.Ir.{Ir}
use Rattle.gt_model.specs.declared.modules.Module.{Module}
use Rattle.gt_model.specs.declared.tables.Aux.{Aux}
use Rattle.ir_check.specs.declared.profile.Profile.{Profile}
use Rattle.ir_check.specs.declared.report.CheckReport.{CheckReport}
use Rattle.ir_check.specs.Faults.{check_fault}
use Rattle.aux_tables.specs.ModuleTables.{shape_of_table}
use Rattle.node_arena.specs.declared.fault.CheckFault.{CheckFault}
use Rattle.sym_expr.specs.Modules.{intervals_of, blocks_of}

-- nodes of the whole module, edges of the IR, all tables of the module, and those whose type isn't parsed
abbrev pub report_of : Ir → Module → CheckReport
report_of ir m = record {
  sections = length m.sections;
  intervals = length (intervals_of m.sections);
  blocks = length (blocks_of (intervals_of m.sections));
  symbols = length m.symbols;
  exprs = sum_by (λ (i : Interval). length i.exprs) (intervals_of m.sections);
  edges = option_map_or (λ (c : Cfg). length c.edges) ir.cfg 0;
  tables = length m.aux;
  opaque = count_by (λ (a : Aux). is_none (shape_of_table a)) m.aux;
}

-- the report, where there is no fault
abbrev pub unless : CheckReport → Option CheckFault → Result CheckReport CheckFault
unless report None = Ok report
unless report (Some fault) = Err fault

abbrev pub checked : Profile → Ir → Module → Result CheckReport CheckFault
checked profile ir m = unless (report_of ir m) (check_fault profile m)
