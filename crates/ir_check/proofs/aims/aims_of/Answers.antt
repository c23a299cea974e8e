use Rattle.std.proofs.Common.{◌≡◌, ℕ, List, map, subst, IfOk, ap, ◌∙◌}
use Rattle.std.specs.Str.{bytes_eq}
use Rattle.indexmap.specs.IndexMap.{get}
use Rattle.node_arena.specs.Arenas.{module_at}
use Rattle.sym_expr.specs.declared.aim.Aim.{Aim}
use Rattle.ir_check.specs.Keyed.{value_at}
use Rattle.ir_check.proofs.FirstLists.{take_whole}
use Rattle.ir_check.specs.Sites.{aim_entry}
use Rattle.node_arena.specs.declared.nodes.ModuleNode.{ModuleNode}
use Rattle.ir_check.proofs.Live.{live_symbol_at}
use Rattle.ir_check.proofs.aims.aims_of.Goals as goal

pub aim_of-aim-requires : goal.aim_of-aim-requires
aim_of-aim-requires c =
    live_symbol_at c.args.graph.now c.args.of c.as_slice-symbol-items.result.now c.loop-symbol.symbol-index c.module.ensures.sound c.requires
    (c.as_slice-symbol-items.ensures ∙ ap (λ (n : ModuleNode). n.symbols) c.module.ensures.value) c.loop-symbol-test.true

pub symbol-requires : goal.symbol-requires
symbol-requires c =
    live_symbol_at c.args.graph.now c.args.of c.as_slice-symbol-items.result.now c.loop-symbol.symbol-index c.module.ensures.sound c.requires
    (c.as_slice-symbol-items.ensures ∙ ap (λ (n : ModuleNode). n.symbols) c.module.ensures.value) c.loop-symbol-test.true

pub returns : goal.returns
returns c =
    let g = c.args.graph.now in
    let whole : c.as_slice.result.now ≡ map (aim_entry g (get bytes_eq c.args.sites.now)) (module_at g c.args.of).symbols =
    c.as_slice.ensures.value ∙ c.loop-symbol.invariant ∙ ap (map (aim_entry g (get bytes_eq c.args.sites.now))) (take_whole c.as_slice-symbol-items.result.now c.loop-symbol.symbol-index c.loop-symbol-test.false
    ∙ c.as_slice-symbol-items.ensures ∙ ap (λ (n : ModuleNode). n.symbols) c.module.ensures.value) in
    subst (λ (es : List (List ℕ × Aim)). IfOk c.index_of.result (λ found. (id : List ℕ) → get bytes_eq found id ≡ value_at bytes_eq id es)) whole c.index_of.ensures
