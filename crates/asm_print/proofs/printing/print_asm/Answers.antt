use Rattle.std.proofs.Common.{map, sym, ap, ◌∙◌}
use Rattle.std.specs.Prelude.{filter}
use Rattle.aux_tables.specs.ModuleTables.{tables_of}
use Rattle.gt_model.specs.declared.modules.Module.{Module}
use Rattle.node_arena.specs.Arenas.{module_at}
use Rattle.node_arena.specs.Plain.{plain_module}
use Rattle.sym_expr.specs.declared.program.Program.{Program}
use Rattle.sym_expr.specs.Modules.{intervals_of, is_loaded}
use Rattle.sym_expr.specs.Patches.{no_patches}
use Rattle.sym_expr.specs.Program.{stretch}
use Rattle.asm_print.proofs.Sectioned.{stretches_are}
use Rattle.asm_print.proofs.printing.print_asm.Goals as goal

pub push_sections-requires-clause-stretches : goal.push_sections-requires-clause-stretches
push_sections-requires-clause-stretches c =
    let m = plain_module c.args.graph.now (module_at c.args.graph.now c.args.«module») in
    c.as_slice-stretches.ensures
    ∙ ap (λ (g : Program). g.stretches) c.in_ok-program.ensures.value
    ∙ stretches_are m (tables_of m)
    ∙ sym (ap (λ (x : Module). map (stretch x (tables_of x) no_patches) (intervals_of (filter is_loaded x.sections))) (c.in_ok-context.ensures.from ∙ c.in_ok-plain.ensures))
