use Rattle.std.proofs.Common.{◌≡◌, ◌<◌, ◌∙◌, List, length, sym, ap, subst}
use Rattle.std.specs.Str.{bytes_eq}
use Rattle.std.proofs.lemmas.List.{get_or_read}
use Rattle.std.proofs.lemmas.List.Elements.{All-get_or}
use Rattle.indexmap.specs.IndexMap.{get}
use Rattle.gt_model.specs.declared.tables.Aux.{Aux}
use Rattle.gt_model.specs.Ordered.{ordered_aux}
use Rattle.node_arena.specs.declared.nodes.ModuleNode.{ModuleNode}
use Rattle.node_arena.specs.Arenas.{Arenas, no_module}
use Rattle.node_arena.specs.Changes.{with_table}
use Rattle.node_arena.specs.Stored.{arenas_of}
use Rattle.node_arena.proofs.Alike.{module_frame}
use Rattle.node_arena.proofs.Set.{stands_module}
use Rattle.node_arena.proofs.Tables.{ordered_tables}
use Rattle.node_arena.proofs.graph.Graph.set_table.Goals as goal

pub invariant_of-self : goal.invariant_of-self
invariant_of-self c =
    let g : Arenas = arenas_of c.self.inside.arena in
    let n : ModuleNode = c.index_mut-node.result.now in
    let k = c.args.module.index in
    let within : k < length g.modules = subst (λ (a : Arenas). k < length a.modules) (sym c.self.view_is) c.requires in
    let at = get_or_read g.modules k n within c.index_mut-node.ensures.value no_module in
    let tables = c.from_vec.ensures ∙ c.put_table.ensures ∙ ap (λ (ys : List Aux). with_table ys c.args.name.now c.args.bytes) (c.into_vec-tables.ensures ∙ c.replace.ensures.value) in
    let old = All-get_or (λ (m : ModuleNode). ordered_aux m.aux) g.modules k no_module within c.self.invariant.sound.sorted.tables in
    let order = ordered_tables c.args.name.now c.args.bytes n.aux (subst (λ (m : ModuleNode). ordered_aux m.aux) (sym at) old) in
    let after = stands_module g (get bytes_eq c.self.inside.index) (record { sound = c.self.invariant.sound; finds = c.self.invariant.finds }) c.args.module
    (record n { aux = c.from_vec.result }) (ap module_frame at) (subst (λ (xs : List Aux). ordered_aux xs) (sym tables) order) in
    record { sound = after.sound; finds = after.finds }
