use Rattle.std.proofs.Common.{refl, ◌∙◌}
use Rattle.node_arena.proofs.PlacedModules.{module-placed}
use Rattle.node_arena.proofs.draft.place_module.Goals as goal

pub returns : goal.returns
returns c = λ ir done t.
    let at = c.len.ensures ∙ c.args.draft.now.arena.modules.ok.0 in
    module-placed _ _ _ _ _ _ _ _ _ _ _ _ _ t
    (rw (c.as_slice.ensures, at) at c.in_ok-proxies.ensures) refl
    (rw (c.as_slice-2.ensures, at) at c.in_ok-symbols.ensures.nodes)
    (rw c.as_slice-2.ensures at c.in_ok-symbols.ensures.payloads)
    (rw (c.as_slice-3.ensures, at) at c.in_ok-sections.ensures)
    c.in_ok-module_node.ensures refl c.in_ok-push.ensures.items
