use Rattle.std.proofs.Common.{List, subst, ◌∙◌}
use Rattle.std.specs.Prelude.{IfOk}
use Rattle.gt_model.specs.declared.modules.Module.{Module}
use Rattle.gt_model.specs.Typed.{typed_module}
use Rattle.node_arena.specs.Arenas.{module_at}
use Rattle.node_arena.specs.Plain.{ir_of, plain_module}
use Rattle.sym_expr.specs.TableOk.{table_ok}
use Rattle.patch_lines.specs.declared.line.PatchLine.{PatchLine}
use Rattle.patch_lines.specs.Answers.{Gives}
use Rattle.patch_lines.specs.Building.{outcome}
use Rattle.patch_table.specs.PatchText.{GivesBy, patch_text}
use Rattle.patch_table.proofs.Tables.{all_member, gives_table, taken_tables}
use Rattle.patch_table.proofs.reading.read_patches.Goals as goal

pub returns-clause-given : goal.returns-clause-given
returns-clause-given c =
    subst (λ m. GivesBy c.build_table.result (patch_text c.args.text.now m)) (c.in_ok-index.ensures.of ∙ c.in_ok-plain.ensures)
    (gives_table c.args.text.now c.in_ok-index.index.module c.in_ok-lines.lines c.build_table.result c.in_ok-lines.ensures.says
    (subst (λ ls. Gives c.build_table.result (outcome c.in_ok-index.index.module ls)) c.as_slice.ensures c.build_table.ensures))

pub returns-clause-accepted : goal.returns-clause-accepted
returns-clause-accepted c =
    let g = c.args.graph.now in
    let m = plain_module g (module_at g c.args.id) in
    let same = c.in_ok-index.ensures.of ∙ c.in_ok-plain.ensures in
    let typed = all_member typed_module (ir_of g).modules m c.requires.formed.linked.values.modules c.requires.formed.member in
    let gives = subst (λ (ls : List PatchLine). Gives c.build_table.result (outcome c.in_ok-index.index.module ls)) c.as_slice.ensures c.build_table.ensures in
    taken_tables c.tables_fit.ensures m c.in_ok-lines.lines c.build_table.result typed c.in_ok-lines.ensures.typed
    (subst (λ (x : Module). Gives c.build_table.result (outcome x c.in_ok-lines.lines)) same gives)
