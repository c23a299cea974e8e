-- The references of an IR, and what lands.
use Rattle.std.proofs.Common.{◌≡◌, ℕ, zero, suc, ◌+◌, ◌<◌, List, [], ◌∷◌, ◌++◌, length, get_or, map, Option, Some, None, refl, sym, ap, ◌∙◌, subst, arith}
use Rattle.std.specs.Prelude.{Contains, IsTrue}
use Rattle.std.specs.List.{AllByRecursion, flat_map}
use Rattle.std.specs.Option.{option_map, option_to_list, IsSomeAnd}
use Rattle.std.proofs.lemmas.Bool.{eqb-true}
use Rattle.std.proofs.lemmas.List.Elements.{Contains-append_left, Contains-append_right}
use Rattle.gt_model.specs.declared.edges.Cfg.{Cfg}
use Rattle.gt_model.specs.declared.edges.Edge.{Edge}
use Rattle.gt_model.specs.declared.exprs.Expr.{Expr}
use Rattle.gt_model.specs.declared.intervals.Body.{Body}
use Rattle.gt_model.specs.declared.intervals.Body.TheVariants as bodies
use Rattle.gt_model.specs.declared.intervals.Interval.{Interval}
use Rattle.gt_model.specs.declared.ir.Ir.{Ir}
use Rattle.gt_model.specs.declared.modules.Module.{Module}
use Rattle.gt_model.specs.declared.modules.Section.{Section}
use Rattle.gt_model.specs.declared.symbols.Payload.{Payload}
use Rattle.gt_model.specs.declared.symbols.Payload.TheVariants as plain
use Rattle.gt_model.specs.declared.symbols.Symbol.{Symbol}
use Rattle.gt_model.specs.Linked.{Lands, kind_at}
use Rattle.gt_model.specs.Nodes.{nodes}
use Rattle.gt_model.specs.References.{Reference, EntryOf, ReferentOf, SymbolOf, Vertex, reference, references, references_from, module_references, symbol_references, section_references, interval_references, expr_references, symbols_of, edge_references, cfg_references, suits, is_code_of, is_block_of, is_vertex, is_symbol_of}
use Rattle.node_arena.specs.declared.ids.BlockId.{BlockId}
use Rattle.node_arena.specs.declared.ids.ModuleId.{ModuleId}
use Rattle.node_arena.specs.declared.ids.NodeRef.{NodeRef}
use Rattle.node_arena.specs.declared.ids.NodeRef.TheVariants as refs
use Rattle.node_arena.specs.Arenas.{Arenas, block_at, symbol_at, proxy_at}
use Rattle.node_arena.specs.Linking.{Found, IsEnd, entry_found, payload_found, referent, block_of, end_of, end_found}
use Rattle.node_arena.specs.Plain.{block_id, end_id, plain_payload}
use Rattle.node_arena.specs.Refs.{block_kind, ref_kind}
use Rattle.node_arena.specs.Sound.{Finds, Live, ref_id, is_code_body, module_of_block, IsVertex, IsReferent, IsEntry, IsSymbolOf}
use Rattle.node_arena.proofs.Lists.{In-head, In-tail, In-map}
use Rattle.node_arena.proofs.Members.{In-flat, All-In}

references-at : (m k : ℕ) (xs : List Module) (d : Module) (r : Reference) → k < length xs → Contains (module_references (m + k) (get_or xs k d)) r → Contains (references_from m xs) r
references-at m k [] d r l h = absurd (omega arith)
references-at m zero (x ∷ xs) d r l h =
    let e : m + zero ≡ m = omega arith in
    Contains-append_left (module_references m x) (references_from (m + 1) xs) r (subst (λ j. Contains (module_references j x) r) e h)
references-at m (suc k) (x ∷ xs) d r l h =
    let e : m + suc k ≡ (m + 1) + k = omega arith in
    Contains-append_right (module_references m x) (references_from (m + 1) xs) r
    (references-at (m + 1) k xs d r (omega arith) (subst (λ j. Contains (module_references j (get_or xs k d)) r) e h))

module _ (ir : Ir) (m : ℕ) (x : Module) (within : m < length ir.modules) (at : get_or ir.modules m x ≡ x) where
  module-reference : (r : Reference) → Contains (module_references m x) r → Contains (references ir) r
  module-reference r h =
      let e : m ≡ 0 + m = omega arith in
      Contains-append_left (references_from 0 ir.modules) (flat_map (cfg_references ir.uuid) (option_to_list ir.cfg)) r
      (references-at 0 m ir.modules x r within (subst (λ (y : Module). Contains (module_references (0 + m) y) r) (sym at) (subst (λ j. Contains (module_references j x) r) e h)))

  pub entry-reference : (id : List ℕ) → x.entry ≡ Some id → Contains (references ir) (reference x.uuid (EntryOf m) id)
  entry-reference id e =
      module-reference (reference x.uuid (EntryOf m) id)
      (Contains-append_left (map (reference x.uuid (EntryOf m)) (option_to_list x.entry) ++ flat_map (symbol_references m) x.symbols) (flat_map (section_references m) x.sections) _
      (Contains-append_left (map (reference x.uuid (EntryOf m)) (option_to_list x.entry)) (flat_map (symbol_references m) x.symbols) _
      (subst (λ o. Contains (map (reference x.uuid (EntryOf m)) (option_to_list o)) (reference x.uuid (EntryOf m) id)) (sym e) (In-head (reference x.uuid (EntryOf m) id) []))))

  pub symbol-reference : (s : Symbol) → Contains x.symbols s → (id : List ℕ) → s.payload ≡ plain.Referent id → Contains (references ir) (reference s.uuid (ReferentOf m) id)
  symbol-reference s k id e =
      module-reference (reference s.uuid (ReferentOf m) id)
      (Contains-append_left (map (reference x.uuid (EntryOf m)) (option_to_list x.entry) ++ flat_map (symbol_references m) x.symbols) (flat_map (section_references m) x.sections) _
      (Contains-append_right (map (reference x.uuid (EntryOf m)) (option_to_list x.entry)) (flat_map (symbol_references m) x.symbols) _
      (In-flat (symbol_references m) x.symbols s (reference s.uuid (ReferentOf m) id) k
      (subst (λ (p : Payload). Contains (symbol_references m (record s { payload = p })) (reference s.uuid (ReferentOf m) id)) (sym e) (In-head (reference s.uuid (ReferentOf m) id) [])))))

  pub expr-reference : (s : Section) → Contains x.sections s → (i : Interval) → Contains s.intervals i → (e : Expr) → Contains i.exprs e → (id : List ℕ) → Contains (symbols_of e.value) id
      → Contains (references ir) (reference i.uuid (SymbolOf m) id)
  expr-reference s ks i ki e ke id kid =
      module-reference (reference i.uuid (SymbolOf m) id)
      (Contains-append_right (map (reference x.uuid (EntryOf m)) (option_to_list x.entry) ++ flat_map (symbol_references m) x.symbols) (flat_map (section_references m) x.sections) _
      (In-flat (section_references m) x.sections s _ ks
      (In-flat (interval_references m) s.intervals i _ ki
      (In-flat (expr_references m i.uuid) i.exprs e _ ke
      (In-map (reference i.uuid (SymbolOf m)) (symbols_of e.value) id kid)))))

module _ (ir : Ir) (c : Cfg) (is : ir.cfg ≡ Some c) where
  cfg-reference : (r : Reference) → Contains (cfg_references ir.uuid c) r → Contains (references ir) r
  cfg-reference r h =
      Contains-append_right (references_from 0 ir.modules) (flat_map (cfg_references ir.uuid) (option_to_list ir.cfg)) r
      (subst (λ o. Contains (flat_map (cfg_references ir.uuid) (option_to_list o)) r) (sym is) (Contains-append_left (cfg_references ir.uuid c) [] r h))

  edge-reference : (e : Edge) → Contains c.edges e → (r : Reference) → Contains (edge_references ir.uuid e) r → Contains (references ir) r
  edge-reference e k r h =
      cfg-reference r (Contains-append_left (flat_map (edge_references ir.uuid) c.edges) (map (reference ir.uuid Vertex) c.vertices) r (In-flat (edge_references ir.uuid) c.edges e r k h))

  pub source-reference : (e : Edge) → Contains c.edges e → Contains (references ir) (reference ir.uuid Vertex e.source)
  source-reference e k = edge-reference e k _ (In-head (reference ir.uuid Vertex e.source) (reference ir.uuid Vertex e.target ∷ []))

  pub target-reference : (e : Edge) → Contains c.edges e → Contains (references ir) (reference ir.uuid Vertex e.target)
  target-reference e k = edge-reference e k _ (In-tail (reference ir.uuid Vertex e.source) _ (reference ir.uuid Vertex e.target ∷ []) (In-head (reference ir.uuid Vertex e.target) []))

  pub vertex-reference : (id : List ℕ) → Contains c.vertices id → Contains (references ir) (reference ir.uuid Vertex id)
  vertex-reference id k =
      cfg-reference (reference ir.uuid Vertex id)
      (Contains-append_right (flat_map (edge_references ir.uuid) c.edges) (map (reference ir.uuid Vertex) c.vertices) _ (In-map (reference ir.uuid Vertex) c.vertices id k))

-- the node that a reference names
pub record Landed (g : Arenas) (found : Found) (r : Reference) : Type 0 where
  pub node : NodeRef
  pub is : found r.to ≡ Some node
  pub live : Live g node
  pub named : ref_id g node ≡ r.to
  pub suits : IsTrue (suits r.wanted (ref_kind g node))

landed-of : (g : Arenas) (found : Found) (r : Reference) → Finds g found → (o : Option NodeRef) → found r.to ≡ o
    → IsSomeAnd (option_map (ref_kind g) o) (λ kind. IsTrue (suits r.wanted kind)) → Landed g found r
landed-of g found r f None e h = absurd h
landed-of g found r f (Some n) e h = let k = f.held r.to n e in record { node = n; is = e; live = k.0; named = k.1; suits = h }

pub landed : (ir : Ir) (g : Arenas) (found : Found) (r : Reference) → Finds g found → ((id : List ℕ) → kind_at (nodes ir) id ≡ option_map (ref_kind g) (found id))
    → AllByRecursion (Lands (nodes ir)) (references ir) → Contains (references ir) r → Landed g found r
landed ir g found r f kinds all m =
    landed-of g found r f (found r.to) refl
    (subst (λ o. IsSomeAnd o (λ kind. IsTrue (suits r.wanted kind))) (kinds r.to) (All-In (Lands (nodes ir)) (references ir) r all m))

-- what suits
code-kind : (m k : ℕ) (x : Body) → IsTrue (is_code_of m (block_kind k x)) → IsTrue (is_code_body x) × (k ≡ m)
code-kind m k bodies.Bare h = absurd (cc)
code-kind m k (bodies.Code uuid size decode_mode) h = (refl, sym (eqb-true m k h))
code-kind m k (bodies.Data uuid size) h = absurd (cc)

block-kind : (m k : ℕ) (x : Body) → IsTrue (is_block_of m (block_kind k x)) → k ≡ m
block-kind m k bodies.Bare h = sym (eqb-true m k h)
block-kind m k (bodies.Code uuid size decode_mode) h = sym (eqb-true m k h)
block-kind m k (bodies.Data uuid size) h = sym (eqb-true m k h)

vertex-kind : (k : ℕ) (x : Body) → IsTrue (is_vertex (block_kind k x)) → IsTrue (is_code_body x)
vertex-kind k bodies.Bare h = absurd (cc)
vertex-kind k (bodies.Code uuid size decode_mode) h = refl
vertex-kind k (bodies.Data uuid size) h = absurd (cc)

-- an entry
entry-node : (g : Arenas) (m : ℕ) (n : NodeRef) → Live g n → IsTrue (suits (EntryOf m) (ref_kind g n)) → (b : BlockId) × (n ≡ refs.Block b) × IsEntry g m b
entry-node g m refs.Ir l h = absurd (cc)
entry-node g m (refs.Module id) l h = absurd (cc)
entry-node g m (refs.Section id) l h = absurd (cc)
entry-node g m (refs.Interval id) l h = absurd (cc)
entry-node g m (refs.Symbol id) l h = absurd (cc)
entry-node g m (refs.Proxy id) l h = absurd (cc)
entry-node g m (refs.Block id) l h = let k = code-kind m (module_of_block g id) (block_at g id).body h in (id, refl, (l.0, k.0, k.1))

pub entry-lands : (g : Arenas) (found : Found) (m : ℕ) (from id : List ℕ) → Landed g found (reference from (EntryOf m) id)
    → (b : BlockId) × (entry_found found (Some id) ≡ Some b) × IsEntry g m b × (block_id g b ≡ id)
entry-lands g found m from id l =
    let n = entry-node g m l.node l.live l.suits in
    (n.0, ap block_of (l.is ∙ ap (λ x. Some x) n.1), n.2, sym (ap (ref_id g) n.1) ∙ l.named)

-- a referent
referent-node : (g : Arenas) (m : ModuleId) (n : NodeRef) → Live g n → IsTrue (suits (ReferentOf m.index) (ref_kind g n))
    → IsReferent g m (referent (Some n)) × (plain_payload g (referent (Some n)) ≡ plain.Referent (ref_id g n))
referent-node g m refs.Ir l h = absurd (cc)
referent-node g m (refs.Module id) l h = absurd (cc)
referent-node g m (refs.Section id) l h = absurd (cc)
referent-node g m (refs.Interval id) l h = absurd (cc)
referent-node g m (refs.Symbol id) l h = absurd (cc)
referent-node g m (refs.Proxy id) l h = ((l, sym (eqb-true m.index (proxy_at g id).module.index h)), refl)
referent-node g m (refs.Block id) l h = ((l.0, block-kind m.index (module_of_block g id) (block_at g id).body h), refl)

pub payload-lands : (g : Arenas) (found : Found) (m : ModuleId) (from : List ℕ) (p : Payload)
    → ((id : List ℕ) → p ≡ plain.Referent id → Landed g found (reference from (ReferentOf m.index) id))
    → IsReferent g m (payload_found found p) × (plain_payload g (payload_found found p) ≡ p)
payload-lands g found m from plain.Nothing h = (tt, refl)
payload-lands g found m from (plain.Value value) h = (tt, refl)
payload-lands g found m from (plain.Referent id) h =
    let l = h id refl in
    let n = referent-node g m l.node l.live l.suits in
    let e : referent (found id) ≡ referent (Some l.node) = ap referent l.is in
    (subst (IsReferent g m) (sym e) n.0, ap (plain_payload g) e ∙ n.1 ∙ ap (λ x. plain.Referent x) l.named)

-- a symbol of an expression
not-symbol : (m k : ℕ) (x : Body) → IsTrue (is_symbol_of m (block_kind k x)) → ⊥
not-symbol m k bodies.Bare h = cc
not-symbol m k (bodies.Code uuid size decode_mode) h = cc
not-symbol m k (bodies.Data uuid size) h = cc

symbol-node : (g : Arenas) (m : ℕ) (n : NodeRef) → Live g n → IsTrue (suits (SymbolOf m) (ref_kind g n)) → IsSymbolOf g m (ref_id g n)
symbol-node g m refs.Ir l h = absurd (cc)
symbol-node g m (refs.Module id) l h = absurd (cc)
symbol-node g m (refs.Section id) l h = absurd (cc)
symbol-node g m (refs.Interval id) l h = absurd (cc)
symbol-node g m (refs.Proxy id) l h = absurd (cc)
symbol-node g m (refs.Block id) l h = absurd (not-symbol m (module_of_block g id) (block_at g id).body h)
symbol-node g m (refs.Symbol id) l h = (id, l, sym (eqb-true m (symbol_at g id).module.index h), refl)

pub symbol-lands : (g : Arenas) (found : Found) (m : ℕ) (from id : List ℕ) → Landed g found (reference from (SymbolOf m) id) → IsSymbolOf g m id
symbol-lands g found m from id l = subst (IsSymbolOf g m) l.named (symbol-node g m l.node l.live l.suits)

-- an end of an edge
end-node : (g : Arenas) (n : NodeRef) → Live g n → IsTrue (is_vertex (ref_kind g n)) → IsEnd (Some n) × IsVertex g (end_of (Some n)) × (end_id g (end_of (Some n)) ≡ ref_id g n)
end-node g refs.Ir l h = absurd (cc)
end-node g (refs.Module id) l h = absurd (cc)
end-node g (refs.Section id) l h = absurd (cc)
end-node g (refs.Interval id) l h = absurd (cc)
end-node g (refs.Symbol id) l h = absurd (cc)
end-node g (refs.Proxy id) l h = (tt, l, refl)
end-node g (refs.Block id) l h = (tt, (l.0, vertex-kind (module_of_block g id) (block_at g id).body h), refl)

pub end-lands : (g : Arenas) (found : Found) (from id : List ℕ) → Landed g found (reference from Vertex id)
    → IsEnd (found id) × IsVertex g (end_found found id) × (end_id g (end_found found id) ≡ id)
end-lands g found from id l =
    let n = end-node g l.node l.live l.suits in
    let e : end_found found id ≡ end_of (Some l.node) = ap end_of l.is in
    (subst IsEnd (sym l.is) n.0, subst (IsVertex g) (sym e) n.1, ap (end_id g) e ∙ n.2 ∙ l.named)
