-- A graph whose references were written from a linked IR is sound, and its IR is that one.
use Rattle.std.proofs.Common.{◌≡◌, ℕ, zero, suc, ◌+◌, ◌<◌, Bool, true, false, ◌||◌, List, [], ◌∷◌, length, get_or, map, Option, Some, None, refl, sym, ap, ◌∙◌, subst, arith, is_some}
use Rattle.std.specs.Prelude.{Contains, IfSome, All, if◌then◌else◌}
use Rattle.std.specs.declared.cmp.Ordering.TheVariants.{Less}
use Rattle.std.specs.Cmp.{nat_cmp_is}
use Rattle.std.specs.Ordering.{nat_cmp}
use Rattle.std.specs.List.{AllByRecursion, flat_map, list_any, range_with_len}
use Rattle.std.specs.List.Sorted.{IsStrictlySortedBy}
use Rattle.std.specs.Option.{option_map}
use Rattle.std.proofs.lemmas.List.{length-map, get_or-map, ext_get_or}
use Rattle.std.proofs.lemmas.List.Elements.{Contains-get_or}
use Rattle.std.proofs.Math.ListN.{get_or-map as read-map}
use Rattle.gt_model.specs.declared.edges.Cfg.{Cfg}
use Rattle.gt_model.specs.declared.edges.Edge.{Edge}
use Rattle.gt_model.specs.declared.exprs.Expr.{Expr}
use Rattle.gt_model.specs.declared.intervals.Interval.{Interval}
use Rattle.gt_model.specs.declared.ir.Ir.{Ir}
use Rattle.gt_model.specs.declared.modules.Module.{Module}
use Rattle.gt_model.specs.declared.modules.Section.{Section}
use Rattle.gt_model.specs.declared.symbols.Payload.{Payload}
use Rattle.gt_model.specs.declared.symbols.Payload.TheVariants as plain
use Rattle.gt_model.specs.Linked.{linked, intervals, is_bare}
use Rattle.gt_model.specs.Ordered.{ordered, ordered_module, ordered_section, ordered_interval, ordered_aux, ordered_exprs}
use Rattle.gt_model.specs.References.{reference, Vertex, symbols_of}
use Rattle.node_arena.specs.declared.ids.BlockId.{BlockId}
use Rattle.node_arena.specs.declared.ids.EdgeId.{EdgeId}
use Rattle.node_arena.specs.declared.ids.IntervalId.{IntervalId}
use Rattle.node_arena.specs.declared.ids.ModuleId.{ModuleId}
use Rattle.node_arena.specs.declared.ids.SectionId.{SectionId}
use Rattle.node_arena.specs.declared.ids.SymbolId.{SymbolId}
use Rattle.node_arena.specs.declared.nodes.BlockNode.{BlockNode}
use Rattle.node_arena.specs.declared.nodes.EdgeNode.{EdgeNode}
use Rattle.node_arena.specs.declared.nodes.IntervalNode.{IntervalNode}
use Rattle.node_arena.specs.declared.nodes.ModuleNode.{ModuleNode}
use Rattle.node_arena.specs.declared.nodes.NodePayload.TheVariants as payloads
use Rattle.node_arena.specs.declared.nodes.SectionNode.{SectionNode}
use Rattle.node_arena.specs.declared.nodes.SymbolNode.{SymbolNode}
use Rattle.node_arena.specs.Arenas.{Arenas, module_at, section_at, interval_at, block_at, symbol_at, no_module, no_section, no_interval, no_block, no_symbol, no_edge}
use Rattle.node_arena.specs.Linking.{Found, entry_found, module_entry, payload_found, end_found, edge_found, edge_places, cfg_edges, cfg_vertices}
use Rattle.node_arena.specs.Placing.{drafted_symbol, drafted_module, without_entry}
use Rattle.node_arena.specs.Plain.{plain_block, plain_interval, plain_section, plain_symbol, plain_module, plain_payload, plain_edge, plain_cfg, ir_of, block_id, end_id}
use Rattle.node_arena.specs.Sound.{lands, flow, sorted, sound, is_bare_at, IsVertex, IsReferent, IsEntry, NamesSymbolsOf, module_of_section}
use Rattle.node_arena.proofs.RefsLand.{Landed, entry-lands, payload-lands, symbol-lands, end-lands, entry-reference, symbol-reference, expr-reference, source-reference, target-reference, vertex-reference}
use Rattle.node_arena.proofs.Lists.{In-map, In-range, map-map, map-same, map-itself, map-read, read-same}
use Rattle.node_arena.proofs.Members.{In-flat, All-In, In-All, child-of, child-in}
use Rattle.node_arena.proofs.RefLaws.{All-mapped}
use Rattle.node_arena.proofs.RefMembers.{names-apart}
use Rattle.node_arena.proofs.Ready.{Ready}

none-of : {X : Type 0} (p : X → Bool) (xs : List X) → list_any p xs ≡ false → AllByRecursion (λ y. p y ≡ false) xs
none-of p [] h = tt
none-of p (x ∷ xs) h = by (p x) refl h (none-of p xs)
  where
    by : (b : Bool) → p x ≡ b → b || list_any p xs ≡ false → (list_any p xs ≡ false → AllByRecursion (λ y. p y ≡ false) xs) → (p x ≡ false) × AllByRecursion (λ y. p y ≡ false) xs
    by true e h rest = absurd (cc)
    by false e h rest = (e, rest h)

any-none : {X : Type 0} (p : X → Bool) (xs : List X) (x : X) → list_any p xs ≡ false → Contains xs x → p x ≡ false
any-none p xs x h m = All-In (λ y. p y ≡ false) xs x (none-of p xs h) m

all-places : {X : Type 0} (P : X → Type 0) (xs : List X) → AllByRecursion P xs → All P xs
all-places P xs h = λ k d w. All-In P xs (get_or xs k d) h (Contains-get_or xs k d w)

range-ascends : (a n : ℕ) → IsStrictlySortedBy nat_cmp (range_with_len a n)
unfolding IsStrictlySortedBy
range-ascends a zero = tt
range-ascends a (suc n) =
    let each : (y : ℕ) → Contains (range_with_len (a + 1) n) y → nat_cmp a y ≡ Less = λ y m.
    let b = In-range (a + 1) n y m in
    let l : a < y = omega (arith, b.0) in
    sym (nat_cmp_is a y Less l) in
    (In-All (λ y. nat_cmp a y ≡ Less) (range_with_len (a + 1) n) each, range-ascends (a + 1) n)

map-empty : {X Y : Type 0} (f : X → Y) (xs : List X) → map f xs ≡ [] → xs ≡ []
map-empty f [] h = refl
map-empty f (x ∷ xs) h = absurd (cc)

no-cfg : (o : Option Cfg) → is_some o ≡ false → (cfg_edges o ≡ []) × (cfg_vertices o ≡ [])
no-cfg None h = (refl, refl)
no-cfg (Some c) h = absurd (cc)

module _ (ir : Ir) (ps : List Payload) (h : Arenas) (found : Found) (r : Ready ir ps h found)
    (payloads_are : map (λ (n : SymbolNode). n.payload) h.symbols ≡ map (payload_found found) ps)
    (entries_are : map (λ (n : ModuleNode). n.entry) h.modules ≡ map (module_entry found) ir.modules) where
  stand_in : Module
  stand_in = plain_module h no_module

  -- the module of a place
  module_in : ℕ → Module
  module_in m = get_or ir.modules m stand_in

  as_many : length h.modules ≡ length ir.modules
  as_many = sym (length-map h.modules (drafted_module ps h)) ∙ ap length r.formed.plain ∙ length-map ir.modules without_entry

  within-ir : (m : ℕ) → m < length h.modules → m < length ir.modules
  within-ir m w = subst (λ k. m < k) as_many w

  is-at : (m : ℕ) → m < length h.modules → get_or ir.modules m (module_in m) ≡ module_in m
  unfolding module_in
  is-at m w = read-same ir.modules m (get_or ir.modules m stand_in) stand_in (within-ir m w)

  drafted-at : (m : ℕ) → m < length h.modules → drafted_module ps h (module_at h (record { index = m })) ≡ without_entry (module_in m)
  unfolding module_in
  drafted-at m w =
      sym (get_or-map (drafted_module ps h) h.modules m no_module stand_in w) ∙ ap (λ l. get_or l m stand_in) r.formed.plain
      ∙ get_or-map without_entry ir.modules m stand_in stand_in (within-ir m w)

  entry-at : (m : ℕ) → m < length h.modules → (module_at h (record { index = m })).entry ≡ entry_found found (module_in m).entry
  unfolding module_in
  entry-at m w =
      sym (get_or-map (λ (n : ModuleNode). n.entry) h.modules m no_module None w) ∙ ap (λ l. get_or l m None) entries_are
      ∙ get_or-map (module_entry found) ir.modules m stand_in None (within-ir m w)

  payload-at : (s : SymbolId) → (symbol_at h s).payload ≡ payload_found found (get_or ps s.index plain.Nothing)
  payload-at s =
      sym (read-map (λ (n : SymbolNode). n.payload) h.symbols s.index no_symbol) ∙ ap (λ l. get_or l s.index payloads.Nothing) payloads_are
      ∙ read-map (payload_found found) ps s.index plain.Nothing

  symbol-right : (s : SymbolId) → s.index < length h.symbols
      → IsReferent h (symbol_at h s).module (symbol_at h s).payload × (plain_payload h (symbol_at h s).payload ≡ get_or ps s.index plain.Nothing)
  symbol-right s w =
      let m : ModuleId = (symbol_at h s).module in
      let up = child-in (λ (n : ModuleNode). n.symbols) (λ (i : SymbolId). i.index) (λ k. record { index = k }) (λ (n : SymbolNode). n.module.index) no_module no_symbol h.modules h.symbols (λ i. refl) r.formed.tree.symbols s w in
      let there : Contains (module_in m.index).symbols (drafted_symbol ps h s) =
      subst (λ (x : Module). Contains x.symbols (drafted_symbol ps h s)) (drafted-at m.index up.0) (In-map (drafted_symbol ps h) (module_at h m).symbols s up.1) in
      let p = payload-lands h found m (symbol_at h s).uuid (get_or ps s.index plain.Nothing) (λ id e.
      r.lands _ (symbol-reference ir m.index (module_in m.index) (within-ir m.index up.0) (is-at m.index up.0) (drafted_symbol ps h s) there id e)) in
      (subst (IsReferent h m) (sym (payload-at s)) p.0, ap (plain_payload h) (payload-at s) ∙ p.1)

  entry-of : (m : ℕ) → m < length h.modules → (o : Option (List ℕ)) → (module_in m).entry ≡ o
      → IfSome (entry_found found o) (IsEntry h m) × (option_map (block_id h) (entry_found found o) ≡ o)
  entry-of m w None e = (tt, refl)
  entry-of m w (Some id) e =
      let l = entry-lands h found m (module_in m).uuid id (r.lands _ (entry-reference ir m (module_in m) (within-ir m w) (is-at m w) id e)) in
      (subst (λ o. IfSome o (IsEntry h m)) (sym l.1) l.2, ap (option_map (block_id h)) l.1 ∙ ap (λ x. Some x) l.3)

  entry-right : (m : ℕ) → m < length h.modules
      → IfSome (module_at h (record { index = m })).entry (IsEntry h m) × (option_map (block_id h) (module_at h (record { index = m })).entry ≡ (module_in m).entry)
  entry-right m w =
      let k = entry-of m w (module_in m).entry refl in
      (subst (λ o. IfSome o (IsEntry h m)) (sym (entry-at m w)) k.0, ap (option_map (block_id h)) (entry-at m w) ∙ k.1)

  -- an interval, in its section and module
  interval-up : (i : IntervalId) → i.index < length h.intervals
      → (module_of_section h (interval_at h i).section < length h.modules)
      × Contains (module_in (module_of_section h (interval_at h i).section)).sections (plain_section h (interval_at h i).section)
      × Contains (plain_section h (interval_at h i).section).intervals (plain_interval h i)
  interval-up i w =
      let s : SectionId = (interval_at h i).section in
      let up = child-in (λ (n : SectionNode). n.intervals) (λ (i : IntervalId). i.index) (λ k. record { index = k }) (λ (n : IntervalNode). n.section.index) no_section no_interval h.sections h.intervals (λ i. refl) r.formed.tree.lower.intervals i w in
      let top = child-in (λ (n : ModuleNode). n.sections) (λ (i : SectionId). i.index) (λ k. record { index = k }) (λ (n : SectionNode). n.module.index) no_module no_section h.modules h.sections (λ i. refl) r.formed.tree.sections s up.0 in (
        top.0,
        subst (λ (x : Module). Contains x.sections (plain_section h s)) (drafted-at (module_of_section h s) top.0) (In-map (plain_section h) (module_at h (section_at h s).module).sections s top.1),
        In-map (plain_interval h) (section_at h s).intervals i up.1,
      )

  interval-in : (i : IntervalId) → i.index < length h.intervals → Contains (intervals ir) (plain_interval h i)
  unfolding module_in
  interval-in i w =
      let up = interval-up i w in
      In-flat (λ (m : Module). flat_map (λ (s : Section). s.intervals) m.sections) ir.modules (module_in (module_of_section h (interval_at h i).section)) (plain_interval h i)
      (Contains-get_or ir.modules (module_of_section h (interval_at h i).section) stand_in (within-ir (module_of_section h (interval_at h i).section) up.0))
      (In-flat (λ (s : Section). s.intervals) (module_in (module_of_section h (interval_at h i).section)).sections (plain_section h (interval_at h i).section) (plain_interval h i) up.1 up.2)

  names-right : (i : IntervalId) → i.index < length h.intervals → NamesSymbolsOf h (module_of_section h (interval_at h i).section) (interval_at h i).exprs
  names-right i w =
      let up = interval-up i w in
      let m : ℕ = module_of_section h (interval_at h i).section in
      λ j e wj. λ q y wq.
      let x : Expr = get_or (interval_at h i).exprs j e in
      let id : List ℕ = get_or (symbols_of x.value) q y in
      symbol-lands h found m (interval_at h i).uuid id
      (r.lands _ (expr-reference ir m (module_in m) (within-ir m up.0) (is-at m up.0) (plain_section h (interval_at h i).section) up.1 (plain_interval h i) up.2 x
      (Contains-get_or (interval_at h i).exprs j e wj) id (Contains-get_or (symbols_of x.value) q y wq)))

  solid-right : linked ir → (k : ℕ) → k < length h.blocks → is_bare_at h (record { index = k }) ≡ false
  solid-right l k w =
      let b : BlockId = record { index = k } in
      let up = child-in (λ (n : IntervalNode). n.blocks) (λ (i : BlockId). i.index) (λ k. record { index = k }) (λ (n : BlockNode). n.interval.index) no_interval no_block h.intervals h.blocks (λ i. refl) r.formed.tree.lower.blocks b w in
      let i : IntervalId = (block_at h b).interval in
      let none : list_any is_bare (plain_interval h i).blocks ≡ false = All-In (λ (x : Interval). list_any is_bare x.blocks ≡ false) (intervals ir) (plain_interval h i) l.no_bare (interval-in i up.0) in
      any-none is_bare (plain_interval h i).blocks (plain_block h b) none (In-map (plain_block h) (interval_at h i).blocks b up.1)

  sorted-right : ordered ir → h.aux ≡ ir.aux → sorted h
  unfolding module_in
  sorted-right o e =
      let ordered-at : (m : ℕ) → m < length h.modules → ordered_module (module_in m) = λ m w. All-In ordered_module ir.modules (module_in m) o.modules (Contains-get_or ir.modules m stand_in (within-ir m w)) in
      record {
        exprs = λ k d w.
            subst (λ (n : IntervalNode). ordered_exprs n.exprs) (read-same h.intervals k no_interval d w)
            (let up = interval-up (record { index = k }) w in
            let i : IntervalId = record { index = k } in
            let s : SectionId = (interval_at h i).section in
            let ss : ordered_section (plain_section h s) = All-In ordered_section (module_in (module_of_section h s)).sections (plain_section h s) (ordered-at (module_of_section h s) up.0).sections up.1 in
            let is : ordered_interval (plain_interval h i) = All-In ordered_interval (plain_section h s).intervals (plain_interval h i) ss.intervals up.2 in
            is.exprs);
        tables = λ k d w.
            subst (λ (n : ModuleNode). ordered_aux n.aux) (read-same h.modules k no_module d w)
            (subst (λ (x : Module). ordered_aux x.aux) (sym (drafted-at k w)) (ordered-at k w).aux);
        aux = subst ordered_aux (sym e) o.aux;
      }

  module-right : (m : ℕ) → m < length h.modules → plain_module h (module_at h (record { index = m })) ≡ module_in m
  module-right m w =
      let n : ModuleNode = module_at h (record { index = m }) in
      let symbols : map (plain_symbol h) n.symbols ≡ map (drafted_symbol ps h) n.symbols =
      map-same (plain_symbol h) (drafted_symbol ps h) n.symbols (λ s k.
      let inside = (child-of (λ (x : ModuleNode). x.symbols) (λ (x : SymbolId). x.index) (λ (x : SymbolNode). x.module.index) no_module no_symbol h.modules h.symbols r.formed.tree.symbols m w s k).0 in
      (λ i. record (plain_symbol h s) { payload = (symbol-right s inside).1 i })) in
      (λ i. record (drafted_module ps h n) { symbols = symbols i; entry = option_map (block_id h) n.entry })
      ∙ (λ i. record (drafted-at m w i) { entry = (entry-right m w).1 i })

  modules-right : map (plain_module h) h.modules ≡ ir.modules
  unfolding module_in
  modules-right =
      ext_get_or stand_in (map (plain_module h) h.modules) ir.modules (length-map h.modules (plain_module h) ∙ as_many) (λ m l.
      let w : m < length h.modules = rw length-map at l in
      get_or-map (plain_module h) h.modules m no_module stand_in w ∙ module-right m w)

  module _ (edges : h.edges ≡ map (edge_found found) (cfg_edges ir.cfg)) (live : edge_places h.live ≡ range_with_len 0 (length (cfg_edges ir.cfg)))
      (vertices : h.vertices ≡ map (end_found found) (cfg_vertices ir.cfg)) (has : h.has_cfg ≡ is_some ir.cfg) where
    end-right : (id : List ℕ) → Landed h found (reference ir.uuid Vertex id) → IsVertex h (end_found found id) × (end_id h (end_found found id) ≡ id)
    end-right id l = let k = end-lands h found ir.uuid id l in (k.1, k.2)

    edge-right : (o : Option Cfg) → ir.cfg ≡ o → (e : Edge) → Contains (cfg_edges o) e
        → (IsVertex h (end_found found e.source) × (end_id h (end_found found e.source) ≡ e.source)) × (IsVertex h (end_found found e.target) × (end_id h (end_found found e.target) ≡ e.target))
    edge-right None is e k = absurd (omega (arith, k.1))
    edge-right (Some c) is e k = (end-right e.source (r.lands _ (source-reference ir c is e k)), end-right e.target (r.lands _ (target-reference ir c is e k)))

    vertex-right : (o : Option Cfg) → ir.cfg ≡ o → (id : List ℕ) → Contains (cfg_vertices o) id → IsVertex h (end_found found id) × (end_id h (end_found found id) ≡ id)
    vertex-right None is id k = absurd (omega (arith, k.1))
    vertex-right (Some c) is id k = end-right id (r.lands _ (vertex-reference ir c is id k))

    lands-right : lands h
    lands-right = record {
      entries = λ m w. (entry-right m w).0;
      referents = λ k d w. subst (λ (n : SymbolNode). IsReferent h n.module n.payload) (read-same h.symbols k no_symbol d w) (symbol-right (record { index = k }) w).0;
      symbols = λ k d w. subst (λ (n : IntervalNode). NamesSymbolsOf h (module_of_section h n.section) n.exprs) (read-same h.intervals k no_interval d w) (names-right (record { index = k }) w);
      sources = subst (All (λ (n : EdgeNode). IsVertex h n.source)) (sym edges)
          (all-places (λ (n : EdgeNode). IsVertex h n.source) (map (edge_found found) (cfg_edges ir.cfg))
          (All-mapped (λ (n : EdgeNode). IsVertex h n.source) (edge_found found) (cfg_edges ir.cfg) (λ e k. (edge-right ir.cfg refl e k).0.0)));
      targets = subst (All (λ (n : EdgeNode). IsVertex h n.target)) (sym edges)
          (all-places (λ (n : EdgeNode). IsVertex h n.target) (map (edge_found found) (cfg_edges ir.cfg))
          (All-mapped (λ (n : EdgeNode). IsVertex h n.target) (edge_found found) (cfg_edges ir.cfg) (λ e k. (edge-right ir.cfg refl e k).1.0)));
      vertices = subst (All (IsVertex h)) (sym vertices)
          (all-places (IsVertex h) (map (end_found found) (cfg_vertices ir.cfg))
          (All-mapped (IsVertex h) (end_found found) (cfg_vertices ir.cfg) (λ id k. (vertex-right ir.cfg refl id k).0)));
    }

    many-edges : length h.edges ≡ length (cfg_edges ir.cfg)
    many-edges = ap length edges ∙ length-map (cfg_edges ir.cfg) (edge_found found)

    flow-right : flow h
    flow-right = record {
      live = λ k d w.
          let x : ℕ = (get_or h.live k d).index in
          let b : x < 0 + length (cfg_edges ir.cfg) = (In-range 0 (length (cfg_edges ir.cfg)) x (subst (λ l. Contains l x) live
          (In-map (λ (id : EdgeId). id.index) h.live (get_or h.live k d) (Contains-get_or h.live k d w)))).1 in
          omega (arith, b, many-edges);
      ascend = subst (IsStrictlySortedBy nat_cmp) (sym live) (range-ascends 0 (length (cfg_edges ir.cfg)));
      no_edges = λ e. map-empty (λ (id : EdgeId). id.index) h.live (live ∙ ap (λ l. range_with_len 0 (length l)) (no-cfg ir.cfg (sym has ∙ e)).0);
      no_vertices = λ e. vertices ∙ ap (map (end_found found)) (no-cfg ir.cfg (sym has ∙ e)).1;
    }

    cfg-right : (o : Option Cfg) → ir.cfg ≡ o → (if h.has_cfg then Some (plain_cfg h) else None) ≡ o
    cfg-right None is = ap (λ b. if b then Some (plain_cfg h) else None) (has ∙ ap is_some is)
    cfg-right (Some c) is =
        let value : EdgeNode → Edge = λ n. record { source = end_id h n.source; target = end_id h n.target; label = n.label } in
        let read : map (λ (id : EdgeId). get_or h.edges id.index no_edge) h.live ≡ h.edges =
        map-read (λ (id : EdgeId). id.index) no_edge [] h.edges h.edges h.live refl (live ∙ ap (range_with_len 0) (sym many-edges)) in
        let es : map (plain_edge h) h.live ≡ c.edges =
        sym (map-map value (λ (id : EdgeId). get_or h.edges id.index no_edge) h.live) ∙ ap (map value) read
        ∙ ap (map value) (edges ∙ ap (λ x. map (edge_found found) (cfg_edges x)) is) ∙ map-map value (edge_found found) c.edges
        ∙ map-same (λ e. value (edge_found found e)) (λ e. e) c.edges (λ e k.
        let t = edge-right (Some c) is e k in
        (λ i. record e { source = t.0.1 i; target = t.1.1 i }))
        ∙ map-itself c.edges in
        let vs : map (end_id h) h.vertices ≡ c.vertices =
        ap (map (end_id h)) (vertices ∙ ap (λ x. map (end_found found) (cfg_vertices x)) is) ∙ map-map (end_id h) (end_found found) c.vertices
        ∙ map-same (λ id. end_id h (end_found found id)) (λ id. id) c.vertices (λ id k. (vertex-right (Some c) is id k).1) ∙ map-itself c.vertices in
        ap (λ b. if b then Some (plain_cfg h) else None) (has ∙ ap is_some is) ∙ (λ i. Some (record { edges = es i; vertices = vs i }))

    pub value-right : h.version ≡ ir.version → h.aux ≡ ir.aux → ir_of h ≡ ir
    value-right version aux = (λ i. record { uuid = r.formed.root i; modules = modules-right i; aux = aux i; version = version i; cfg = cfg-right ir.cfg refl i })

    pub sound-right : linked ir → ordered ir → h.aux ≡ ir.aux → sound h
    sound-right l o aux = record {
      tree = record {
        sections = r.formed.tree.sections;
        symbols = r.formed.tree.symbols;
        proxies = r.formed.tree.proxies;
        intervals = r.formed.tree.lower.intervals;
        blocks = r.formed.tree.lower.blocks;
      };
      solid = solid-right l;
      names = names-apart h found r.finds;
      lands = lands-right;
      flow = flow-right;
      sorted = sorted-right o aux;
    }
