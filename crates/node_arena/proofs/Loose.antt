-- What a graph is apart from its references, payloads and edges.
use Rattle.std.proofs.Common.{◌≡◌, ℕ, ◌+◌, List, [], ◌∷◌, ◌++◌, map, refl, sym, ap, ◌∙◌, subst, get_or}
use Rattle.std.proofs.Math.ListN.{get_or-map}
use Rattle.gt_model.specs.declared.symbols.Payload.{Payload}
use Rattle.gt_model.specs.declared.symbols.Payload.TheVariants as plain
use Rattle.node_arena.specs.declared.ids.NodeRef.{NodeRef}
use Rattle.node_arena.specs.declared.ids.NodeRef.TheVariants as refs
use Rattle.node_arena.specs.declared.ids.SymbolId.{SymbolId}
use Rattle.node_arena.specs.declared.nodes.ModuleNode.{ModuleNode}
use Rattle.node_arena.specs.declared.nodes.SymbolNode.{SymbolNode}
use Rattle.node_arena.specs.Arenas.{Arenas, no_module, no_symbol}
use Rattle.node_arena.specs.Linking.{loose, loose_module, loose_symbol}
use Rattle.node_arena.specs.Placing.{full_tree, drafted_symbol, drafted_module, symbol_lists, symbol_parents, section_parents, proxy_parents}
use Rattle.node_arena.specs.Refs.{module_refs, refs_from, all_refs}
use Rattle.node_arena.specs.Sound.{Children, ref_id, section_places, symbol_places, proxy_places}
use Rattle.node_arena.specs.Stored.{entry_of}
use Rattle.node_arena.proofs.Lists.{map-map, map-same}

loose-id : (g : Arenas) (r : NodeRef) → ref_id (loose g) r ≡ ref_id g r
loose-id g refs.Ir = refl
loose-id g (refs.Module id) = ap (λ (n : ModuleNode). n.uuid) (get_or-map loose_module g.modules id.index no_module)
loose-id g (refs.Section id) = refl
loose-id g (refs.Interval id) = refl
loose-id g (refs.Block id) = refl
loose-id g (refs.Symbol id) = ap (λ (n : SymbolNode). n.uuid) (get_or-map loose_symbol g.symbols id.index no_symbol)
loose-id g (refs.Proxy id) = refl

loose-from : (g : Arenas) (m : ℕ) (ns : List ModuleNode) → refs_from (loose g) m (map loose_module ns) ≡ refs_from g m ns
loose-from g m [] = refl
loose-from g m (n ∷ ns) = ap (λ l. module_refs g m n ++ l) (loose-from g (m + 1) ns)

loose-entries : (g : Arenas) → map (entry_of (loose g)) (all_refs (loose g)) ≡ map (entry_of g) (all_refs g)
loose-entries g = (λ i. map (λ (r : NodeRef). (loose-id g r i, r)) (refs.Ir ∷ loose-from g 0 g.modules i))

loose-drafted : (ps : List Payload) (g : Arenas) → map (drafted_module ps (loose g)) (map loose_module g.modules) ≡ map (drafted_module ps g) g.modules
loose-drafted ps g =
    let one : (id : SymbolId) → drafted_symbol ps (loose g) id ≡ drafted_symbol ps g id = λ id.
    ap (λ (n : SymbolNode). record { uuid = n.uuid; name = n.name; at_end = n.at_end; payload = get_or ps id.index plain.Nothing })
    (get_or-map loose_symbol g.symbols id.index no_symbol) in
    map-map (drafted_module ps (loose g)) loose_module g.modules
    ∙ map-same (λ n. drafted_module ps (loose g) (loose_module n)) (drafted_module ps g) g.modules (λ n m.
    (λ i. record (drafted_module ps g n) { symbols = map (λ id. one id i) n.symbols }))

tree-loose : (g : Arenas) → full_tree g → full_tree (loose g)
tree-loose g t = record {
  lower = record { blocks = t.lower.blocks; intervals = t.lower.intervals };
  sections = subst (λ l. Children l (section_parents g.sections)) (sym (map-map (λ (n : ModuleNode). section_places n.sections) loose_module g.modules)) t.sections;
  symbols = subst (λ l. Children (symbol_lists (map loose_module g.modules)) l) (sym (map-map (λ (n : SymbolNode). n.module.index) loose_symbol g.symbols))
      (subst (λ l. Children l (symbol_parents g.symbols)) (sym (map-map (λ (n : ModuleNode). symbol_places n.symbols) loose_module g.modules)) t.symbols);
  proxies = subst (λ l. Children l (proxy_parents g.proxies)) (sym (map-map (λ (n : ModuleNode). proxy_places n.proxies) loose_module g.modules)) t.proxies;
}

loose-tree : (g : Arenas) → full_tree (loose g) → full_tree g
loose-tree g t = record {
  lower = record { blocks = t.lower.blocks; intervals = t.lower.intervals };
  sections = subst (λ l. Children l (section_parents g.sections)) (map-map (λ (n : ModuleNode). section_places n.sections) loose_module g.modules) t.sections;
  symbols = subst (λ l. Children l (symbol_parents g.symbols)) (map-map (λ (n : ModuleNode). symbol_places n.symbols) loose_module g.modules)
      (subst (λ l. Children (symbol_lists (map loose_module g.modules)) l) (map-map (λ (n : SymbolNode). n.module.index) loose_symbol g.symbols) t.symbols);
  proxies = subst (λ l. Children l (proxy_parents g.proxies)) (map-map (λ (n : ModuleNode). proxy_places n.proxies) loose_module g.modules) t.proxies;
}

-- graphs that are the same but for these
module _ (g h : Arenas) (same : loose h ≡ loose g) where
  pub same-entries : map (entry_of h) (all_refs h) ≡ map (entry_of g) (all_refs g)
  same-entries = sym (loose-entries h) ∙ ap (λ (a : Arenas). map (entry_of a) (all_refs a)) same ∙ loose-entries g

  pub same-drafted : (ps : List Payload) → map (drafted_module ps h) h.modules ≡ map (drafted_module ps g) g.modules
  same-drafted ps = sym (loose-drafted ps h) ∙ ap (λ (a : Arenas). map (drafted_module ps a) a.modules) same ∙ loose-drafted ps g

  pub same-tree : full_tree g → full_tree h
  same-tree t = loose-tree h (subst full_tree (sym same) (tree-loose g t))
