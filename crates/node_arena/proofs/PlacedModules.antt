-- What placing one more module keeps and adds.
use Rattle.std.proofs.Common.{◌≡◌, ◌+◌, ◌<◌, List, [], ◌∷◌, ◌++◌, length, get_or, map, replicate, refl, sym, ap, ◌∙◌, subst}
use Rattle.std.specs.Prelude.{Contains}
use Rattle.std.specs.List.{range_with_len}
use Rattle.std.proofs.lemmas.List.{length-map, map-append}
use Rattle.std.proofs.Math.ListN.{length-append}
use Rattle.gt_model.specs.declared.ir.Ir.{Ir}
use Rattle.gt_model.specs.declared.modules.Module.{Module}
use Rattle.gt_model.specs.declared.symbols.Payload.{Payload}
use Rattle.gt_model.specs.declared.symbols.Payload.TheVariants as plain
use Rattle.node_arena.specs.declared.ids.ProxyId.{ProxyId}
use Rattle.node_arena.specs.declared.ids.SectionId.{SectionId}
use Rattle.node_arena.specs.declared.ids.SymbolId.{SymbolId}
use Rattle.node_arena.specs.declared.nodes.ModuleNode.{ModuleNode}
use Rattle.node_arena.specs.declared.nodes.ProxyNode.{ProxyNode}
use Rattle.node_arena.specs.declared.nodes.SectionNode.{SectionNode}
use Rattle.node_arena.specs.declared.nodes.SymbolNode.{SymbolNode}
use Rattle.node_arena.specs.Arenas.{Arenas, no_symbol, no_proxy}
use Rattle.node_arena.specs.Plain.{plain_section, proxy_id}
use Rattle.node_arena.specs.Sound.{Children, section_places, symbol_places, proxy_places}
use Rattle.node_arena.specs.Placing.{Begins, PlacedSymbols, PlacedProxies, PlacedSections, Drafted, drafted_symbol, drafted_module, without_entry, payload_of, placed_module, placed_symbol, placed_proxy, section_lists, symbol_lists, proxy_lists, section_parents, symbol_parents, proxy_parents, lower_tree, full_tree}
use Rattle.node_arena.proofs.Lists.{listed_of, map-map, map-itself, map-same, map-read, map-read-two, tree-grown, parents-appended}
use Rattle.node_arena.proofs.Placed.{begins_get, keep_section}

-- what is drafted of a module stays as the lists grow
keep_drafted : (ps more : List Payload) (g k : Arenas) (n : ModuleNode) → Contains g.modules n → full_tree g → length ps ≡ length g.symbols
    → Begins ps more → Begins g.symbols k.symbols → Begins g.proxies k.proxies → Begins g.sections k.sections → Begins g.intervals k.intervals → Begins g.blocks k.blocks
    → drafted_module more k n ≡ drafted_module ps g n
keep_drafted ps more g k n at t len bp bs bx bt bi bb =
    let symbols : map (drafted_symbol more k) n.symbols ≡ map (drafted_symbol ps g) n.symbols =
    map-same (drafted_symbol more k) (drafted_symbol ps g) n.symbols (λ id m.
    let inside : id.index < length g.symbols = rw length-map at (listed_of (λ (x : ModuleNode). x.symbols) (λ (x : SymbolId). x.index) n g.modules (symbol_parents g.symbols) t.symbols n at id m) in
    let p = begins_get ps more plain.Nothing id.index bp (subst (λ j. id.index < j) (sym len) inside) in
    let s = begins_get g.symbols k.symbols no_symbol id.index bs inside in
    (λ i. record { uuid = (s i).uuid; name = (s i).name; at_end = (s i).at_end; payload = p i })) in
    let proxies : map (proxy_id k) n.proxies ≡ map (proxy_id g) n.proxies =
    map-same (proxy_id k) (proxy_id g) n.proxies (λ id m.
    let inside : id.index < length g.proxies = rw length-map at (listed_of (λ (x : ModuleNode). x.proxies) (λ (x : ProxyId). x.index) n g.modules (proxy_parents g.proxies) t.proxies n at id m) in
    ap (λ (x : ProxyNode). x.uuid) (begins_get g.proxies k.proxies no_proxy id.index bx inside)) in
    let sections : map (plain_section k) n.sections ≡ map (plain_section g) n.sections =
    map-same (plain_section k) (plain_section g) n.sections (λ id m.
    let inside : id.index < length g.sections = rw length-map at (listed_of (λ (x : ModuleNode). x.sections) (λ (x : SectionId). x.index) n g.modules (section_parents g.sections) t.sections n at id m) in
    keep_section g k id inside t.lower bt bi bb) in
    (λ i. record (drafted_module ps g n) { symbols = symbols i; proxies = proxies i; sections = sections i })

pub module-placed : (ir : Ir) (done : List Module) (x : Module) (ps more : List Payload) (node : ModuleNode)
    (g a b k : Arenas) (pids : List ProxyId) (sids : List SymbolId) (tids : List SectionId)
    → Drafted ir done ps g
    → PlacedProxies (length g.modules) x.proxies g.proxies pids a.proxies → a ≡ record g { proxies = a.proxies; symbols = a.symbols }
    → PlacedSymbols (length g.modules) x.symbols g.symbols sids a.symbols → more ≡ ps ++ map payload_of x.symbols
    → PlacedSections (length g.modules) x.sections a tids b
    → node ≡ placed_module x sids tids pids
    → k ≡ record b { modules = k.modules }
    → k.modules ≡ b.modules ++ node ∷ []
    → Drafted ir (done ++ x ∷ []) more k
module-placed ir done x ps more given g a b k pids sids tids t placed_ps same_a placed_ss pays placed_ts en same_k given_ms =
    let node : ModuleNode = placed_module x sids tids pids in
    let ms : k.modules ≡ b.modules ++ node ∷ [] = given_ms ∙ ap (λ n. b.modules ++ n ∷ []) en in
    let same : k ≡ record g { modules = k.modules; sections = b.sections; intervals = b.intervals; blocks = b.blocks; symbols = a.symbols; proxies = a.proxies } =
    same_k ∙ ap (λ (c : Arenas). record c { modules = k.modules }) placed_ts.same
    ∙ ap (λ (c : Arenas). record c { modules = k.modules; sections = b.sections; intervals = b.intervals; blocks = b.blocks }) same_a in
    let modules : k.modules ≡ g.modules ++ node ∷ [] =
    ms ∙ ap (λ (c : Arenas). c.modules ++ node ∷ []) placed_ts.same ∙ ap (λ (c : Arenas). c.modules ++ node ∷ []) same_a in
    let sections : k.sections ≡ b.sections = ap (λ (c : Arenas). c.sections) same in
    let intervals : k.intervals ≡ b.intervals = ap (λ (c : Arenas). c.intervals) same in
    let blocks : k.blocks ≡ b.blocks = ap (λ (c : Arenas). c.blocks) same in
    let symbols : k.symbols ≡ a.symbols = ap (λ (c : Arenas). c.symbols) same in
    let proxies : k.proxies ≡ a.proxies = ap (λ (c : Arenas). c.proxies) same in
    let a_sections : a.sections ≡ g.sections = ap (λ (c : Arenas). c.sections) same_a in
    let a_intervals : a.intervals ≡ g.intervals = ap (λ (c : Arenas). c.intervals) same_a in
    let a_blocks : a.blocks ≡ g.blocks = ap (λ (c : Arenas). c.blocks) same_a in
    let bs : Begins g.symbols k.symbols = (map (placed_symbol (length g.modules)) x.symbols, symbols ∙ placed_ss.nodes) in
    let bx : Begins g.proxies k.proxies = (map (placed_proxy (length g.modules)) x.proxies, proxies ∙ placed_ps.nodes) in
    let bt : Begins g.sections k.sections = (placed_ts.sections.0, sections ∙ placed_ts.sections.1 ∙ ap (λ l. l ++ placed_ts.sections.0) a_sections) in
    let bi : Begins g.intervals k.intervals = (placed_ts.intervals.0, intervals ∙ placed_ts.intervals.1 ∙ ap (λ l. l ++ placed_ts.intervals.0) a_intervals) in
    let bb : Begins g.blocks k.blocks = (placed_ts.blocks.0, blocks ∙ placed_ts.blocks.1 ∙ ap (λ l. l ++ placed_ts.blocks.0) a_blocks) in
    let old : map (drafted_module more k) g.modules ≡ map without_entry done =
    map-same (drafted_module more k) (drafted_module ps g) g.modules (λ n m. keep_drafted ps more g k n m t.tree t.payloads (map payload_of x.symbols, pays) bs bx bt bi bb) ∙ t.plain in
    let node_symbols : map (drafted_symbol more k) sids ≡ x.symbols =
    map-read-two (λ (id : SymbolId). id.index) no_symbol plain.Nothing (λ (n : SymbolNode) (p : Payload). record { uuid = n.uuid; name = n.name; at_end = n.at_end; payload = p })
    (placed_symbol (length g.modules)) payload_of g.symbols ps x.symbols k.symbols more sids (symbols ∙ placed_ss.nodes) pays t.payloads placed_ss.places
    ∙ map-itself x.symbols in
    let node_proxies : map (proxy_id k) pids ≡ x.proxies =
    sym (map-map (λ (n : ProxyNode). n.uuid) (λ (id : ProxyId). get_or k.proxies id.index no_proxy) pids)
    ∙ ap (map (λ (n : ProxyNode). n.uuid)) (map-read (λ (id : ProxyId). id.index) no_proxy g.proxies (map (placed_proxy (length g.modules)) x.proxies) k.proxies pids (proxies ∙ placed_ps.nodes)
    (placed_ps.places ∙ ap (range_with_len (length g.proxies)) (sym (length-map x.proxies (placed_proxy (length g.modules))))))
    ∙ map-map (λ (n : ProxyNode). n.uuid) (placed_proxy (length g.modules)) x.proxies ∙ map-itself x.proxies in
    let node_sections : map (plain_section k) tids ≡ x.sections = ap (λ (c : Arenas). map (plain_section c) tids) same_k ∙ placed_ts.plain in
    let new : drafted_module more k node ≡ without_entry x =
    (λ i. record (without_entry x) { symbols = node_symbols i; sections = node_sections i; proxies = node_proxies i }) in
    record {
      root = ap (λ (c : Arenas). c.uuid) same ∙ t.root;
      version = ap (λ (c : Arenas). c.version) same ∙ t.version;
      aux = ap (λ (c : Arenas). c.aux) same ∙ t.aux;
      has_cfg = ap (λ (c : Arenas). c.has_cfg) same ∙ t.has_cfg;
      edges = ap (λ (c : Arenas). c.edges) same ∙ t.edges;
      live = ap (λ (c : Arenas). c.live) same ∙ t.live;
      vertices = ap (λ (c : Arenas). c.vertices) same ∙ t.vertices;
      payloads = ap length pays ∙ length-append ps (map payload_of x.symbols) ∙ (λ i. t.payloads i + length-map x.symbols payload_of i)
          ∙ sym (ap length (symbols ∙ placed_ss.nodes) ∙ length-append g.symbols (map (placed_symbol (length g.modules)) x.symbols) ∙ ap (λ n. length g.symbols + n) (length-map x.symbols (placed_symbol (length g.modules))));
      plain = ap (map (drafted_module more k)) modules ∙ map-append (drafted_module more k) g.modules (node ∷ []) ∙ (λ i. old i ++ new i ∷ [])
          ∙ sym (map-append without_entry done (x ∷ []));
      tree = record {
        lower = subst lower_tree (sym same_k) (record { blocks = placed_ts.tree.blocks; intervals = placed_ts.tree.intervals });
        sections = subst (λ l. Children (section_lists l) (section_parents k.sections)) (sym modules)
            (tree-grown (λ (n : ModuleNode). section_places n.sections) (λ (n : SectionNode). n.module.index) g.modules node g.sections k.sections (length x.sections) t.tree.sections
            (placed_ts.places ∙ ap (λ l. range_with_len (length l) (length x.sections)) a_sections)
            (ap section_parents sections ∙ placed_ts.parents ∙ ap (λ l. section_parents l ++ replicate (length x.sections) (length g.modules)) a_sections));
        symbols = subst (λ l. Children (symbol_lists l) (symbol_parents k.symbols)) (sym modules)
            (tree-grown (λ (n : ModuleNode). symbol_places n.symbols) (λ (n : SymbolNode). n.module.index) g.modules node g.symbols k.symbols (length x.symbols) t.tree.symbols
            placed_ss.places
            (parents-appended (λ (n : SymbolNode). n.module.index) (placed_symbol (length g.modules)) (length g.modules) g.symbols k.symbols x.symbols (symbols ∙ placed_ss.nodes) (λ y. refl)));
        proxies = subst (λ l. Children (proxy_lists l) (proxy_parents k.proxies)) (sym modules)
            (tree-grown (λ (n : ModuleNode). proxy_places n.proxies) (λ (n : ProxyNode). n.module.index) g.modules node g.proxies k.proxies (length x.proxies) t.tree.proxies
            placed_ps.places
            (parents-appended (λ (n : ProxyNode). n.module.index) (placed_proxy (length g.modules)) (length g.modules) g.proxies k.proxies x.proxies (proxies ∙ placed_ps.nodes) (λ y. refl)));
      };
    }
