use Rattle.std.proofs.Common.{sym, ◌∙◌}
use Rattle.std.specs.Str.{bytes_eq}
use Rattle.indexmap.specs.IndexMap.{get}
use Rattle.ir_check.proofs.NamedAims.{exprs_found}
use Rattle.ir_check.proofs.exprs.check_exprs.Goals as goal

pub returns-in-Some : goal.returns-in-Some
returns-in-Some c =
    sym (exprs_found c.args.graph.now c.args.«module» c.args.plain.now (get bytes_eq c.args.part.now.sites) (get bytes_eq c.in_ok-aims.aims) c.args.tables c.as_slice-intervals.result.now c.exprs_fault.result c.requires.part.sites c.in_ok-aims.ensures
    c.requires.said
    (c.as_slice-intervals.ensures.value ∙ c.requires.part.intervals)
    c.exprs_fault.ensures)
    ∙ c.in-Some.is

pub returns : goal.returns
returns c = (
  sym (exprs_found c.args.graph.now c.args.«module» c.args.plain.now (get bytes_eq c.args.part.now.sites) (get bytes_eq c.in_ok-aims.aims) c.args.tables c.as_slice-intervals.result.now c.exprs_fault.result c.requires.part.sites c.in_ok-aims.ensures
      c.requires.said
      (c.as_slice-intervals.ensures.value ∙ c.requires.part.intervals)
      c.exprs_fault.ensures)
      ∙ c.in-None.is,
  tt,
)
