-- The IR of a sound graph is linked, and its expressions and tables are in order.
use Rattle.std.proofs.Common.{◌≡◌, ◌≢◌, ℕ, ◌+◌, ◌<◌, Bool, true, false, List, [], ◌∷◌, ◌++◌, length, get_or, map, Option, Some, None, refl, sym, ap, ◌∙◌, subst, arith, append_assoc}
use Rattle.std.specs.Prelude.{Contains, All, AllPairs, IfSome, IsTrue, ◌==◌, IsSomeAnd, if◌then◌else◌}
use Rattle.std.specs.List.{AllByRecursion, flat_map, list_any}
use Rattle.std.specs.Option.{option_map, option_to_list}
use Rattle.std.proofs.lemmas.Bool.{eq-eqb}
use Rattle.std.proofs.lemmas.List.Folds.{flat_map-map}
use Rattle.std.proofs.Math.ListN.{length-append, get_or-map as read-map}
use Rattle.std.proofs.Math.Seq.{get_or-append_seam}
use Rattle.gt_model.specs.declared.exprs.Expr.{Expr}
use Rattle.gt_model.specs.declared.intervals.Block.{Block}
use Rattle.gt_model.specs.declared.intervals.Body.{Body}
use Rattle.gt_model.specs.declared.intervals.Body.TheVariants as bodies
use Rattle.gt_model.specs.declared.intervals.Interval.{Interval}
use Rattle.gt_model.specs.declared.modules.Module.{Module}
use Rattle.gt_model.specs.declared.modules.Section.{Section}
use Rattle.gt_model.specs.declared.symbols.Payload.{Payload}
use Rattle.gt_model.specs.Linked.{linked, Lands, intervals, is_bare, kind_at}
use Rattle.gt_model.specs.Nodes.{nodes, ids}
use Rattle.gt_model.specs.Ordered.{ordered, ordered_module, ordered_section, ordered_interval, ordered_aux}
use Rattle.gt_model.specs.References.{Reference, Wanted, EntryOf, ReferentOf, SymbolOf, Vertex, reference, references, references_from, module_references, symbol_references, section_references, interval_references, expr_references, symbols_of, edge_references, cfg_references, suits, is_code_of, is_block_of, is_vertex}
use Rattle.gt_model.specs.Views.{referent_of}
use Rattle.node_arena.specs.declared.ids.BlockId.{BlockId}
use Rattle.node_arena.specs.declared.ids.CfgEnd.{CfgEnd}
use Rattle.node_arena.specs.declared.ids.CfgEnd.TheVariants as ends
use Rattle.node_arena.specs.declared.ids.EdgeId.{EdgeId}
use Rattle.node_arena.specs.declared.ids.IntervalId.{IntervalId}
use Rattle.node_arena.specs.declared.ids.NodeRef.{NodeRef}
use Rattle.node_arena.specs.declared.ids.NodeRef.TheVariants as refs
use Rattle.node_arena.specs.declared.ids.SectionId.{SectionId}
use Rattle.node_arena.specs.declared.ids.SymbolId.{SymbolId}
use Rattle.node_arena.specs.declared.nodes.ModuleNode.{ModuleNode}
use Rattle.node_arena.specs.declared.nodes.NodePayload.{NodePayload}
use Rattle.node_arena.specs.declared.nodes.NodePayload.TheVariants as payloads
use Rattle.node_arena.specs.declared.nodes.SymbolNode.{SymbolNode}
use Rattle.node_arena.specs.Arenas.{Arenas, module_at, section_at, interval_at, block_at, symbol_at, proxy_at, no_module, no_section, no_interval, no_symbol, no_edge}
use Rattle.node_arena.specs.Placing.{full_tree, drafted_symbol, drafted_module, without_entry}
use Rattle.node_arena.specs.Plain.{plain_block, plain_interval, plain_section, plain_symbol, plain_module, plain_payload, plain_edge, plain_cfg, ir_of, block_id, end_id}
use Rattle.node_arena.specs.Refs.{all_refs, ref_kind, block_kind}
use Rattle.node_arena.specs.Sound.{sound, Live, ref_id, is_code_body, IsVertex, IsReferent, IsEntry, IsSymbolOf, module_of_section, module_of_block}
use Rattle.node_arena.proofs.Lists.{map-map, map-same}
use Rattle.node_arena.proofs.Members.{In-All}
use Rattle.node_arena.proofs.PartsLive.{full-of}
use Rattle.node_arena.proofs.RefLaws.{All-join, All-flat, All-mapped}
use Rattle.node_arena.proofs.RefMembers.{finds-nodes}
use Rattle.node_arena.proofs.RefNodes.{Formed, formed-nodes, formed-ids, kind-found}
use Rattle.node_arena.proofs.RefsApart.{ids-apart}
use Rattle.node_arena.proofs.Below.{section-below, interval-below, block-below, symbol-below, section-in}

-- the payloads of the symbols, as plain values
abbrev payloads_of : Arenas → List Payload
payloads_of g = map (λ (n : SymbolNode). plain_payload g n.payload) g.symbols

drafted-plain : (g : Arenas) (id : SymbolId) → drafted_symbol (payloads_of g) g id ≡ plain_symbol g id
drafted-plain g id = (λ i. record (plain_symbol g id) { payload = read-map (λ (n : SymbolNode). plain_payload g n.payload) g.symbols id.index no_symbol i })

formed-itself : (g : Arenas) → full_tree g → Formed (ir_of g) (payloads_of g) g
formed-itself g t = record {
  root = refl;
  plain =
      map-same (drafted_module (payloads_of g) g) (λ n. without_entry (plain_module g n)) g.modules
      (λ n k. (λ i. record (drafted_module (payloads_of g) g n) { symbols = map (λ id. drafted-plain g id i) n.symbols }))
      ∙ sym (map-map without_entry (plain_module g) g.modules);
  tree = t;
}

-- what an element of a list of lists is, where the lists are made of elements
flat-mapped : {X Y Z : Type 0} (P : Z → Type 0) (f : Y → List Z) (v : X → Y) (xs : List X) → ((x : X) → Contains xs x → AllByRecursion P (f (v x))) → AllByRecursion P (flat_map f (map v xs))
flat-mapped P f v xs h = subst (AllByRecursion P) (sym (flat_map-map f v xs)) (All-flat P (λ x. f (v x)) xs h)

-- what suits
same-module : (m k : ℕ) → k ≡ m → IsTrue (m == k)
same-module m k e = eq-eqb m k (sym e)

code-suits : (m k : ℕ) (x : Body) → IsTrue (is_code_body x) → k ≡ m → IsTrue (is_code_of m (block_kind k x))
code-suits m k bodies.Bare h e = absurd (cc)
code-suits m k (bodies.Code uuid size decode_mode) h e = same-module m k e
code-suits m k (bodies.Data uuid size) h e = absurd (cc)

block-suits : (m k : ℕ) (x : Body) → k ≡ m → IsTrue (is_block_of m (block_kind k x))
block-suits m k bodies.Bare e = same-module m k e
block-suits m k (bodies.Code uuid size decode_mode) e = same-module m k e
block-suits m k (bodies.Data uuid size) e = same-module m k e

vertex-suits : (k : ℕ) (x : Body) → IsTrue (is_code_body x) → IsTrue (is_vertex (block_kind k x))
vertex-suits k bodies.Bare h = absurd (cc)
vertex-suits k (bodies.Code uuid size decode_mode) h = refl
vertex-suits k (bodies.Data uuid size) h = absurd (cc)

-- what holds of each element holds of one in the list
All-at : {X : Type 0} (P : X → Type 0) (xs : List X) (x : X) → All P xs → Contains xs x → P x
All-at P xs x h m = subst P m.2 (h m.0 x m.1)

no-bare-in : {X : Type 0} (p : Block → Bool) (v : X → Block) (xs : List X) → AllByRecursion (λ x. p (v x) ≡ false) xs → list_any p (map v xs) ≡ false
no-bare-in p v [] h = refl
no-bare-in p v (x ∷ xs) h = rw h.0 (no-bare-in p v xs h.1)

module _ (g : Arenas) (s : sound g) where
  apart : AllPairs (λ a b. a ≢ b) (map (ref_id g) (all_refs g))
  apart = ids-apart g (full-of g s.tree) s.names

  distinct-ids : AllPairs (λ a b. a ≢ b) (ids (nodes (ir_of g)))
  distinct-ids = subst (AllPairs (λ a b. a ≢ b)) (formed-ids (ir_of g) (payloads_of g) g (formed-itself g (full-of g s.tree))) apart

  kind-is : (r : NodeRef) → Live g r → kind_at (nodes (ir_of g)) (ref_id g r) ≡ Some (ref_kind g r)
  kind-is r l =
      let finds = finds-nodes g (full-of g s.tree) apart in
      ap (λ ns. kind_at ns (ref_id g r)) (sym (formed-nodes (ir_of g) (payloads_of g) g (formed-itself g (full-of g s.tree))))
      ∙ kind-found g (all_refs g) (ref_id g r) ∙ ap (option_map (ref_kind g)) (finds.named r l)

  Lands_here : Reference → Type 0
  Lands_here r = Lands (nodes (ir_of g)) r

  -- a reference to a node that suits lands
  land : (r : NodeRef) → Live g r → (from : List ℕ) (w : Wanted) → IsTrue (suits w (ref_kind g r)) → Lands_here (reference from w (ref_id g r))
  unfolding Lands_here
  land r l from w h = subst (λ o. IsSomeAnd o (λ kind. IsTrue (suits w kind))) (sym (kind-is r l)) h

  block-live : (b : BlockId) → b.index < length g.blocks → Live g (refs.Block b)
  block-live b w = (w, s.solid b.index w)

  entry-land : (m : ℕ) (from : List ℕ) (o : Option BlockId) → IfSome o (IsEntry g m) → AllByRecursion Lands_here (map (reference from (EntryOf m)) (option_to_list (option_map (block_id g) o)))
  entry-land m from None h = tt
  entry-land m from (Some b) h = (land (refs.Block b) (block-live b h.0) from (EntryOf m) (code-suits m (module_of_block g b) (block_at g b).body h.1 h.2), tt)

  payload-land : (m : ℕ) (from : List ℕ) (p : NodePayload) → IsReferent g (record { index = m }) p → AllByRecursion Lands_here (map (reference from (ReferentOf m)) (option_to_list (referent_of (plain_payload g p))))
  payload-land m from payloads.Nothing h = tt
  payload-land m from (payloads.Value value) h = tt
  payload-land m from (payloads.Block b) h = (land (refs.Block b) (block-live b h.0) from (ReferentOf m) (block-suits m (module_of_block g b) (block_at g b).body h.1), tt)
  payload-land m from (payloads.Proxy p) h = (land (refs.Proxy p) h.0 from (ReferentOf m) (same-module m (proxy_at g p).module.index h.1), tt)

  symbol-land : (m : ℕ) → m < length g.modules → (id : SymbolId) → Contains (module_at g (record { index = m })).symbols id → AllByRecursion Lands_here (symbol_references m (plain_symbol g id))
  symbol-land m w id k =
      let up = symbol-below g (full-of g s.tree) m w id k in
      payload-land m (symbol_at g id).uuid (symbol_at g id).payload
      (subst (λ j. IsReferent g (record { index = j }) (symbol_at g id).payload) up.1 (s.lands.referents id.index no_symbol up.0))

  named-land : (m : ℕ) (from id : List ℕ) → IsSymbolOf g m id → Lands_here (reference from (SymbolOf m) id)
  named-land m from id h =
      subst (λ x. Lands_here (reference from (SymbolOf m) x)) h.3
      (land (refs.Symbol h.0) h.1 from (SymbolOf m) (same-module m (symbol_at g h.0).module.index h.2))

  interval-land : (m : ℕ) (i : IntervalId) → i.index < length g.intervals → module_of_section g (interval_at g i).section ≡ m → AllByRecursion Lands_here (interval_references m (plain_interval g i))
  interval-land m i w e =
      let n = interval_at g i in
      All-flat Lands_here (expr_references m n.uuid) n.exprs (λ x k.
      All-mapped Lands_here (reference n.uuid (SymbolOf m)) (symbols_of x.value) (λ id q.
      named-land m n.uuid id
      (subst (λ j. IsSymbolOf g j id) e
      (All-at (IsSymbolOf g (module_of_section g n.section)) (symbols_of x.value) id
      (All-at (λ (y : Expr). All (IsSymbolOf g (module_of_section g n.section)) (symbols_of y.value)) n.exprs x (s.lands.symbols i.index no_interval w) k) q))))

  section-land : (m : ℕ) (x : SectionId) → x.index < length g.sections → module_of_section g x ≡ m → AllByRecursion Lands_here (section_references m (plain_section g x))
  section-land m x w e =
      flat-mapped Lands_here (interval_references m) (plain_interval g) (section_at g x).intervals (λ i k.
      let up = interval-below g (full-of g s.tree) x w i k in
      interval-land m i up.0 (ap (λ j. (get_or g.sections j no_section).module.index) up.1 ∙ e))

  module-land : (m : ℕ) → m < length g.modules → AllByRecursion Lands_here (module_references m (plain_module g (module_at g (record { index = m }))))
  module-land m w =
      let n : ModuleNode = module_at g (record { index = m }) in
      let entry : List Reference = map (reference n.uuid (EntryOf m)) (option_to_list (option_map (block_id g) n.entry)) in
      let symbols : List Reference = flat_map (symbol_references m) (map (plain_symbol g) n.symbols) in
      All-join Lands_here (entry ++ symbols) (flat_map (section_references m) (map (plain_section g) n.sections))
      (All-join Lands_here entry symbols (entry-land m n.uuid n.entry (s.lands.entries m w))
      (flat-mapped Lands_here (symbol_references m) (plain_symbol g) n.symbols (λ id k. symbol-land m w id k)))
      (flat-mapped Lands_here (section_references m) (plain_section g) n.sections (λ x k.
      let up = section-below g (full-of g s.tree) m w x k in section-land m x up.0 up.1))

  modules-land : (m : ℕ) (done ns : List ModuleNode) → g.modules ≡ done ++ ns → length done ≡ m → AllByRecursion Lands_here (references_from m (map (plain_module g) ns))
  modules-land m done [] e len = tt
  modules-land m done (n ∷ ns) e len =
      let at : module_at g (record { index = m }) ≡ n = ap (λ l. get_or l m no_module) e ∙ ap (λ k. get_or (done ++ n ∷ ns) k no_module) (sym len) ∙ get_or-append_seam done n ns no_module in
      let all : length g.modules ≡ length done + length (n ∷ ns) = ap length e ∙ length-append done (n ∷ ns) in
      let within : m < length g.modules = omega arith in
      let more : length (done ++ n ∷ []) ≡ m + 1 = length-append done (n ∷ []) ∙ ap (λ k. k + 1) len in
      All-join Lands_here (module_references m (plain_module g n)) (references_from (m + 1) (map (plain_module g) ns))
      (subst (λ (x : ModuleNode). AllByRecursion Lands_here (module_references m (plain_module g x))) at (module-land m within))
      (modules-land (m + 1) (done ++ n ∷ []) ns (e ∙ sym (append_assoc done (n ∷ []) ns)) more)

  end-land : (from : List ℕ) (e : CfgEnd) → IsVertex g e → Lands_here (reference from Vertex (end_id g e))
  end-land from (ends.Block b) h = land (refs.Block b) (block-live b h.0) from Vertex (vertex-suits (module_of_block g b) (block_at g b).body h.1)
  end-land from (ends.Proxy p) h = land (refs.Proxy p) h from Vertex refl

  edge-land : (from : List ℕ) (id : EdgeId) → Contains g.live id → AllByRecursion Lands_here (edge_references from (plain_edge g id))
  edge-land from id k =
      let w : id.index < length g.edges = All-at (λ (x : EdgeId). x.index < length g.edges) g.live id s.flow.live k in
      let n = get_or g.edges id.index no_edge in
      (end-land from n.source (s.lands.sources id.index no_edge w), (end-land from n.target (s.lands.targets id.index no_edge w), tt))

  cfg-land : (from : List ℕ) → AllByRecursion Lands_here (cfg_references from (plain_cfg g))
  cfg-land from =
      All-join Lands_here (flat_map (edge_references from) (map (plain_edge g) g.live)) (map (reference from Vertex) (map (end_id g) g.vertices))
      (flat-mapped Lands_here (edge_references from) (plain_edge g) g.live (λ id k. edge-land from id k))
      (subst (AllByRecursion Lands_here) (sym (map-map (reference from Vertex) (end_id g) g.vertices))
      (All-mapped Lands_here (λ e. reference from Vertex (end_id g e)) g.vertices (λ e k. end-land from e (All-at (IsVertex g) g.vertices e s.lands.vertices k))))

  flow-land : (from : List ℕ) (has : Bool) → AllByRecursion Lands_here (flat_map (cfg_references from) (option_to_list (if has then Some (plain_cfg g) else None)))
  flow-land from true = All-join Lands_here (cfg_references from (plain_cfg g)) [] (cfg-land from) tt
  flow-land from false = tt

  all-land : AllByRecursion Lands_here (references (ir_of g))
  all-land =
      All-join Lands_here (references_from 0 (map (plain_module g) g.modules)) (flat_map (cfg_references g.uuid) (option_to_list (ir_of g).cfg))
      (modules-land 0 [] g.modules refl refl) (flow-land g.uuid g.has_cfg)

  solid-interval : (i : IntervalId) → i.index < length g.intervals → list_any is_bare (plain_interval g i).blocks ≡ false
  solid-interval i w =
      no-bare-in is_bare (plain_block g) (interval_at g i).blocks
      (In-All (λ b. is_bare (plain_block g b) ≡ false) (interval_at g i).blocks (λ b k. s.solid b.index (block-below g (full-of g s.tree) i w b k).0))

  all-solid : AllByRecursion (λ (i : Interval). list_any is_bare i.blocks ≡ false) (intervals (ir_of g))
  all-solid =
      flat-mapped (λ (i : Interval). list_any is_bare i.blocks ≡ false) (λ (m : Module). flat_map (λ (x : Section). x.intervals) m.sections) (plain_module g) g.modules (λ n at.
      flat-mapped (λ (i : Interval). list_any is_bare i.blocks ≡ false) (λ (x : Section). x.intervals) (plain_section g) n.sections (λ x k.
      All-mapped (λ (i : Interval). list_any is_bare i.blocks ≡ false) (plain_interval g) (section_at g x).intervals (λ i q.
      solid-interval i (interval-below g (full-of g s.tree) x (section-in g (full-of g s.tree) n at x k) i q).0)))

  pub sound-linked : linked (ir_of g)
  unfolding Lands_here
  sound-linked = record { distinct = distinct-ids; no_bare = all-solid; lands = all-land }

  pub sound-ordered : ordered (ir_of g)
  sound-ordered = record {
    modules = All-mapped ordered_module (plain_module g) g.modules (λ n at. record {
      sections = All-mapped ordered_section (plain_section g) n.sections (λ x k. record {
        intervals = All-mapped ordered_interval (plain_interval g) (section_at g x).intervals (λ i q. record {
          exprs = s.sorted.exprs i.index no_interval (interval-below g (full-of g s.tree) x (section-in g (full-of g s.tree) n at x k) i q).0;
        });
      });
      aux = All-at (λ (y : ModuleNode). ordered_aux y.aux) g.modules n s.sorted.tables at;
    });
    aux = s.sorted.aux;
  }
