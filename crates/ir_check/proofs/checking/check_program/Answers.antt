use Rattle.std.proofs.Common.{List, ap, ◌∙◌}
use Rattle.aux_tables.specs.ModuleTables.{tables_among}
use Rattle.gt_model.specs.declared.tables.Aux.{Aux}
use Rattle.node_arena.specs.declared.nodes.ModuleNode.{ModuleNode}
use Rattle.ir_check.proofs.Stages.{at_part, at_tables, at_places, at_exprs, at_end}
use Rattle.ir_check.proofs.checking.check_program.Goals as goal

pub check_exprs-requires-clause-said : goal.check_exprs-requires-clause-said
check_exprs-requires-clause-said c =
    c.parts-all.ensures.tables c.as_slice-tables.result.now c.in-Ok.ensures.1
    ∙ ap (λ (tables : List Aux). tables_among tables) (c.as_slice-tables.ensures ∙ ap (λ (n : ModuleNode). n.aux) c.module.ensures.value)

pub returns-in-Some-part_fault : goal.returns-in-Some-part_fault
returns-in-Some-part_fault c =
    at_part c.args.graph.now c.args.«module» c.args.profile.now c.in_ok-part.part c.in_ok-part.ensures.value c.in_default.ensures c.in-Some-part_fault.fault c.in-Some-part_fault.ensures

pub returns-in-Err : goal.returns-in-Err
returns-in-Err c =
    at_tables c.args.graph.now c.args.«module» c.args.profile.now c.in_ok-part.part c.in_ok-part.ensures.value c.in_default.ensures c.in_default-part_fault.ensures
    c.as_slice-tables.result.now (c.as_slice-tables.ensures ∙ ap (λ (n : ModuleNode). n.aux) c.module.ensures.value) c.in-Err.end c.in-Err.ensures

pub returns-in-Err-check_places : goal.returns-in-Err-check_places
returns-in-Err-check_places c =
    at_places c.args.graph.now c.args.«module» c.args.profile.now c.in_ok-part.part c.in_ok-part.ensures.value c.in_default.ensures c.in_default-part_fault.ensures
    c.as_slice-tables.result.now (c.as_slice-tables.ensures ∙ ap (λ (n : ModuleNode). n.aux) c.module.ensures.value) c.in-Ok.ensures.0
    c.in-Err-check_places.end c.in-Err-check_places.ensures

pub returns-in-Err-check_exprs : goal.returns-in-Err-check_exprs
returns-in-Err-check_exprs c =
    at_exprs c.args.graph.now c.args.«module» c.args.profile.now c.in_ok-part.part c.in_ok-part.ensures.value c.in_default.ensures c.in_default-part_fault.ensures
    c.as_slice-tables.result.now (c.as_slice-tables.ensures ∙ ap (λ (n : ModuleNode). n.aux) c.module.ensures.value) c.in-Ok.ensures.0 c.in_default-check_places.ensures.0
    c.in-Err-check_exprs.end c.in-Err-check_exprs.ensures

pub returns : goal.returns
returns c =
    at_end c.args.graph.now c.args.«module» c.args.profile.now c.in_ok-part.part c.in_ok-part.ensures.value c.in_default.ensures c.in_default-part_fault.ensures
    c.as_slice-tables.result.now (c.as_slice-tables.ensures ∙ ap (λ (n : ModuleNode). n.aux) c.module.ensures.value) c.in-Ok.ensures.0 c.in_default-check_places.ensures.0
    c.in_default-check_exprs.ensures.0 c.in_ok-report.report c.in_ok-report.ensures
