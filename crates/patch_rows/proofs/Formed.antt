-- A module that passed its checks has a program that can be laid out and linked.
use Rattle.std.proofs.Common.{◌≡◌, ◌≤◌, ◌<◌, ◌^◌, length, Option, Some, None, Ok, not, refl, ap, arith}
use Rattle.std.proofs.lemmas.List.Concat.{length-flat_map}
use Rattle.std.proofs.lemmas.List.Filters.{sum_by-filter_both}
use Rattle.aux_tables.specs.ModuleTables.{tables_of}
use Rattle.gt_model.specs.declared.ir.Ir.{Ir}
use Rattle.gt_model.specs.declared.modules.Module.{Module}
use Rattle.gt_model.specs.declared.modules.Section.{Section}
use Rattle.ir_check.specs.declared.profile.Profile.{Profile}
use Rattle.ir_check.specs.declared.report.CheckReport.{CheckReport}
use Rattle.ir_check.specs.Faults.{check_fault}
use Rattle.ir_check.specs.Report.{checked, report_of, unless}
use Rattle.node_arena.specs.declared.fault.CheckFault.{CheckFault}
use Rattle.sym_expr.specs.Linkable.{formed, linkable}
use Rattle.sym_expr.specs.Modules.{intervals_of, is_loaded, loaded_intervals, loaded_sections}

-- the loaded intervals are some of the intervals
loaded_few : (m : Module) → length (loaded_intervals m) ≤ length (intervals_of m.sections)
loaded_few m =
    let both = sum_by-filter_both is_loaded (λ (s : Section). not (is_loaded s)) (λ (s : Section). refl) (λ (s : Section). length s.intervals) m.sections in
    let loaded = length-flat_map (λ (s : Section). s.intervals) (loaded_sections m) in
    let all = length-flat_map (λ (s : Section). s.intervals) m.sections in
    omega arith

-- a report that is answered is that of the module
reported : (known report : CheckReport) (fault : Option CheckFault) → unless known fault ≡ Ok report → known ≡ report
reported known report None is = cc
reported known report (Some fault) is = absurd (cc)

pub intervals_counted : (profile : Profile) (ir : Ir) (m : Module) (report : CheckReport) → checked profile ir m ≡ Ok report → length (intervals_of m.sections) ≡ report.intervals
intervals_counted profile ir m report is = ap (λ (r : CheckReport). r.intervals) (reported (report_of ir m) report (check_fault profile m) is)

pub linkable_formed : (ir : Ir) (m : Module) → linkable ir m (tables_of m) → length (intervals_of m.sections) < 2 ^ 39 → formed ir m (tables_of m)
linkable_formed ir m l few =
    let loaded = loaded_few m in
    let f = l.faultless in
    let small = f.small in
    record {
      linked = l.linked;
      in_order = l.in_order;
      member = l.member;
      faultless = record {
        no_thread_local = f.no_thread_local;
        small = omega arith;
        no_long = f.no_long;
        inside = f.inside;
        apart = f.apart;
        straight = f.straight;
        entered = f.entered;
        exprs = f.exprs;
      };
      few = omega arith;
    }
