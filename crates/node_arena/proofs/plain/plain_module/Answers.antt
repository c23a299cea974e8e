use Rattle.std.proofs.Common.{sym, subst, ap, ◌∙◌}
use Rattle.node_arena.specs.Arenas.{no_module}
use Rattle.node_arena.specs.Parts.{live_proxies, live_sections, live_symbols}
use Rattle.node_arena.specs.Stored.{arenas_of}
use Rattle.node_arena.specs.declared.nodes.ModuleNode.{ModuleNode}
use Rattle.node_arena.proofs.Lists.{read-same}
use Rattle.node_arena.proofs.PartsLive.{proxies-live, sections-live, symbols-live}
use Rattle.node_arena.proofs.plain.plain_module.Goals as goal

pub plain_symbols-requires-clause-live : goal.plain_symbols-requires-clause-live
plain_symbols-requires-clause-live c =
    let at = c.index-node.ensures ∙ read-same c.args.arena.now.modules.items c.args.id.index c.index-node.result.now no_module c.requires.live in
    subst (live_symbols (arenas_of c.args.arena.now)) (sym (c.as_slice.ensures ∙ ap (λ (n : ModuleNode). n.symbols) at)) (symbols-live (arenas_of c.args.arena.now) c.requires.sound c.args.id.index c.requires.live)

pub plain_sections-requires-clause-live : goal.plain_sections-requires-clause-live
plain_sections-requires-clause-live c =
    let at = c.index-node.ensures ∙ read-same c.args.arena.now.modules.items c.args.id.index c.index-node.result.now no_module c.requires.live in
    subst (live_sections (arenas_of c.args.arena.now)) (sym (c.as_slice-2.ensures ∙ ap (λ (n : ModuleNode). n.sections) at)) (sections-live (arenas_of c.args.arena.now) c.requires.sound c.args.id.index c.requires.live)

pub proxy_ids-requires : goal.proxy_ids-requires
proxy_ids-requires c =
    let at = c.index-node.ensures ∙ read-same c.args.arena.now.modules.items c.args.id.index c.index-node.result.now no_module c.requires.live in
    subst (live_proxies (arenas_of c.args.arena.now)) (sym (c.as_slice-3.ensures ∙ ap (λ (n : ModuleNode). n.proxies) at)) (proxies-live (arenas_of c.args.arena.now) c.requires.sound c.args.id.index c.requires.live)
