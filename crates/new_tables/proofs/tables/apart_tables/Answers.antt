use Rattle.std.proofs.Common.{◌≡◌, None, map, ap, sym, subst, ◌∙◌}
use Rattle.std.specs.Prelude.{Contains}
use Rattle.aux_tables.specs.ModuleTables.{tables_of}
use Rattle.edge_repair.specs.Repaired.{repaired_table}
use Rattle.edge_repair.specs.Sets.{parts_of}
use Rattle.gt_model.specs.declared.modules.Module.{Module}
use Rattle.gt_model.specs.declared.tables.Aux.{Aux}
use Rattle.module_program.specs.Graphs.{patched_in}
use Rattle.node_arena.specs.Plain.{ir_of}
use Rattle.taken_ids.specs.Faults.{id_fault}
use Rattle.new_tables.specs.Repairing.{StaysApart}
use Rattle.new_tables.proofs.tables.apart_tables.Goals as goal

pub new_tables-requires : goal.new_tables-requires
new_tables-requires c =
    let m : Module = c.in_ok-plain.plain in
    let p = c.args.patches.now in
    let is : c.args.program.now ≡ patched_in m p = c.requires.program ∙ ap (λ (x : Module). patched_in x p) (sym c.in_ok-plain.ensures) in
    record {
      ready = record {
        ir = ir_of c.args.graph.now;
        free = subst (λ (x : Module). id_fault (ir_of c.args.graph.now) x p ≡ None) (sym c.in_ok-plain.ensures) c.requires.free;
        moves = c.in_ok-moves.ensures (tables_of m) p is;
        later = c.in_ok-later.ensures ∙ ap (parts_of m) is;
      };
      apart = subst (λ (x : Module). (a : Aux) → Contains x.aux a → StaysApart x p a) (sym c.in_ok-plain.ensures) c.requires.apart;
    }

pub returns : goal.returns
returns c =
    let p = c.args.patches.now in
    c.in_ok-made.ensures ∙ ap (λ (x : Module). map (repaired_table x (tables_of x) p) x.aux) c.in_ok-plain.ensures
