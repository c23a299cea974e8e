-- The nodes of a formed graph in order are those of its IR.
use Rattle.std.proofs.Common.{◌≡◌, ℕ, ◌+◌, ◌<◌, Bool, List, [], ◌∷◌, ◌++◌, length, get_or, map, Some, refl, sym, ap, ◌∙◌, subst, arith, append_assoc, cond}
use Rattle.std.specs.Prelude.{Contains, find, true, false, if◌then◌else◌}
use Rattle.std.specs.List.{flat_map}
use Rattle.std.specs.Map.{lookup}
use Rattle.std.specs.Option.{option_map}
use Rattle.std.specs.Str.{bytes_eq}
use Rattle.std.proofs.lemmas.List.{map-append}
use Rattle.std.proofs.lemmas.List.Folds.{flat_map-map}
use Rattle.std.proofs.Math.ListN.{length-append}
use Rattle.std.proofs.Math.Seq.{get_or-append_seam}
use Rattle.gt_model.specs.declared.intervals.Body.{Body}
use Rattle.gt_model.specs.declared.intervals.Body.TheVariants as bodies
use Rattle.gt_model.specs.declared.ir.Ir.{Ir}
use Rattle.gt_model.specs.declared.modules.Module.{Module}
use Rattle.gt_model.specs.declared.symbols.Payload.{Payload}
use Rattle.gt_model.specs.declared.symbols.Symbol.{Symbol}
use Rattle.gt_model.specs.Linked.{is_bare_body, kind_at}
use Rattle.gt_model.specs.Nodes.{AModule, AProxy, ASymbol, CodeBlock, DataBlock, TheIr, Node, node, body_nodes, block_nodes, interval_nodes, section_nodes, module_nodes, nodes_from, nodes}
use Rattle.node_arena.specs.declared.ids.BlockId.{BlockId}
use Rattle.node_arena.specs.declared.ids.IntervalId.{IntervalId}
use Rattle.node_arena.specs.declared.ids.NodeRef.{NodeRef}
use Rattle.node_arena.specs.declared.ids.NodeRef.TheVariants as refs
use Rattle.node_arena.specs.declared.ids.ProxyId.{ProxyId}
use Rattle.node_arena.specs.declared.ids.SectionId.{SectionId}
use Rattle.node_arena.specs.declared.ids.SymbolId.{SymbolId}
use Rattle.node_arena.specs.declared.nodes.BlockNode.{BlockNode}
use Rattle.node_arena.specs.declared.nodes.IntervalNode.{IntervalNode}
use Rattle.node_arena.specs.declared.nodes.ModuleNode.{ModuleNode}
use Rattle.node_arena.specs.declared.nodes.ProxyNode.{ProxyNode}
use Rattle.node_arena.specs.declared.nodes.SectionNode.{SectionNode}
use Rattle.node_arena.specs.declared.nodes.SymbolNode.{SymbolNode}
use Rattle.node_arena.specs.Arenas.{Arenas, module_at, section_at, interval_at, block_at, symbol_at, no_module, no_section, no_interval, no_block, no_symbol, no_proxy}
use Rattle.node_arena.specs.Placing.{full_tree, lower_tree, drafted_symbol, drafted_module, without_entry}
use Rattle.node_arena.specs.Plain.{plain_block, plain_interval, plain_section, proxy_id, body_id}
use Rattle.node_arena.specs.Refs.{block_kind, block_refs, interval_refs, section_refs, module_refs, refs_from, all_refs, ref_node, ref_kind}
use Rattle.node_arena.specs.Sound.{ref_id, module_of_block, module_of_interval, module_of_section}
use Rattle.node_arena.specs.Stored.{entry_of}
use Rattle.node_arena.proofs.Lists.{map-map, map-same}
use Rattle.node_arena.proofs.Members.{map-flat, flat-same, child-of}

-- a graph whose tree stands, with the nodes of an IR but for payloads and entries
pub record Formed (ir : Ir) (ps : List Payload) (g : Arenas) : Type 0 where
  pub root : g.uuid ≡ ir.uuid
  pub plain : map (drafted_module ps g) g.modules ≡ map without_entry ir.modules
  pub tree : full_tree g

body-node : (r : NodeRef) (m k : ℕ) (x : Body) (f : NodeRef → Node) → f r ≡ node (body_id x) (block_kind k x) → k ≡ m
    → map f (if is_bare_body x then [] else r ∷ []) ≡ body_nodes m x
body-node r m k bodies.Bare f h e = refl
body-node r m k (bodies.Code uuid size decode_mode) f h e = ap (λ y. y ∷ []) (h ∙ ap (λ j. node uuid (CodeBlock j)) e)
body-node r m k (bodies.Data uuid size) f h e = ap (λ y. y ∷ []) (h ∙ ap (λ j. node uuid (DataBlock j)) e)

block-node : (g : Arenas) (m : ℕ) (b : BlockId) → module_of_block g b ≡ m → map (ref_node g) (block_refs g b) ≡ block_nodes m (plain_block g b)
block-node g m b e = body-node (refs.Block b) m (module_of_block g b) (block_at g b).body (ref_node g) refl e

interval-nodes : (g : Arenas) (m : ℕ) → lower_tree g → (i : IntervalId) → i.index < length g.intervals → module_of_interval g i ≡ m
    → map (ref_node g) (interval_refs g i) ≡ interval_nodes m (plain_interval g i)
interval-nodes g m t i within e =
    let bs : List BlockId = (interval_at g i).blocks in
    let each : (b : BlockId) → Contains bs b → map (ref_node g) (block_refs g b) ≡ block_nodes m (plain_block g b) = λ b k.
    let up = (child-of (λ (n : IntervalNode). n.blocks) (λ (x : BlockId). x.index) (λ (n : BlockNode). n.interval.index) no_interval no_block g.intervals g.blocks t.blocks i.index within b k).1 in
    block-node g m b (ap (λ j. (get_or g.sections (get_or g.intervals j no_interval).section.index no_section).module.index) up ∙ e) in
    ap (λ l. ref_node g (refs.Interval i) ∷ l)
    (map-flat (ref_node g) (block_refs g) bs
    ∙ flat-same (λ b. map (ref_node g) (block_refs g b)) (λ b. block_nodes m (plain_block g b)) bs each
    ∙ sym (flat_map-map (block_nodes m) (plain_block g) bs))

section-nodes : (g : Arenas) (m : ℕ) → lower_tree g → (s : SectionId) → s.index < length g.sections → module_of_section g s ≡ m
    → map (ref_node g) (section_refs g s) ≡ section_nodes m (plain_section g s)
section-nodes g m t s within e =
    let is : List IntervalId = (section_at g s).intervals in
    let each : (i : IntervalId) → Contains is i → map (ref_node g) (interval_refs g i) ≡ interval_nodes m (plain_interval g i) = λ i k.
    let up = child-of (λ (n : SectionNode). n.intervals) (λ (x : IntervalId). x.index) (λ (n : IntervalNode). n.section.index) no_section no_interval g.sections g.intervals t.intervals s.index within i k in
    interval-nodes g m t i up.0 (ap (λ j. (get_or g.sections j no_section).module.index) up.1 ∙ e) in
    ap (λ l. ref_node g (refs.Section s) ∷ l)
    (map-flat (ref_node g) (interval_refs g) is
    ∙ flat-same (λ i. map (ref_node g) (interval_refs g i)) (λ i. interval_nodes m (plain_interval g i)) is each
    ∙ sym (flat_map-map (interval_nodes m) (plain_interval g) is))

module-nodes : (ps : List Payload) (g : Arenas) (m : ℕ) → full_tree g → m < length g.modules
    → map (ref_node g) (module_refs g m (module_at g (record { index = m }))) ≡ module_nodes m (drafted_module ps g (module_at g (record { index = m })))
module-nodes ps g m t within =
    let n : ModuleNode = module_at g (record { index = m }) in
    let proxies : map (ref_node g) (map (λ id. refs.Proxy id) n.proxies) ≡ map (λ id. node id (AProxy m)) (map (proxy_id g) n.proxies) =
    map-map (ref_node g) (λ id. refs.Proxy id) n.proxies
    ∙ map-same (λ id. ref_node g (refs.Proxy id)) (λ id. node (proxy_id g id) (AProxy m)) n.proxies (λ id k.
    ap (λ j. node (proxy_id g id) (AProxy j))
    (child-of (λ (x : ModuleNode). x.proxies) (λ (x : ProxyId). x.index) (λ (x : ProxyNode). x.module.index) no_module no_proxy g.modules g.proxies t.proxies m within id k).1)
    ∙ sym (map-map (λ id. node id (AProxy m)) (proxy_id g) n.proxies) in
    let symbols : map (ref_node g) (map (λ id. refs.Symbol id) n.symbols) ≡ map (λ (s : Symbol). node s.uuid (ASymbol m)) (map (drafted_symbol ps g) n.symbols) =
    map-map (ref_node g) (λ id. refs.Symbol id) n.symbols
    ∙ map-same (λ id. ref_node g (refs.Symbol id)) (λ id. node (symbol_at g id).uuid (ASymbol m)) n.symbols (λ id k.
    ap (λ j. node (symbol_at g id).uuid (ASymbol j))
    (child-of (λ (x : ModuleNode). x.symbols) (λ (x : SymbolId). x.index) (λ (x : SymbolNode). x.module.index) no_module no_symbol g.modules g.symbols t.symbols m within id k).1)
    ∙ sym (map-map (λ (s : Symbol). node s.uuid (ASymbol m)) (drafted_symbol ps g) n.symbols) in
    let each : (s : SectionId) → Contains n.sections s → map (ref_node g) (section_refs g s) ≡ section_nodes m (plain_section g s) = λ s k.
    let up = child-of (λ (x : ModuleNode). x.sections) (λ (x : SectionId). x.index) (λ (x : SectionNode). x.module.index) no_module no_section g.modules g.sections t.sections m within s k in
    section-nodes g m t.lower s up.0 up.1 in
    let sections : map (ref_node g) (flat_map (section_refs g) n.sections) ≡ flat_map (section_nodes m) (map (plain_section g) n.sections) =
    map-flat (ref_node g) (section_refs g) n.sections
    ∙ flat-same (λ s. map (ref_node g) (section_refs g s)) (λ s. section_nodes m (plain_section g s)) n.sections each
    ∙ sym (flat_map-map (section_nodes m) (plain_section g) n.sections) in
    let head : List NodeRef = refs.Module (record { index = m }) ∷ map (λ id. refs.Proxy id) n.proxies in
    map-append (ref_node g) (head ++ map (λ id. refs.Symbol id) n.symbols) (flat_map (section_refs g) n.sections)
    ∙ ap (λ l. l ++ map (ref_node g) (flat_map (section_refs g) n.sections)) (map-append (ref_node g) head (map (λ id. refs.Symbol id) n.symbols))
    ∙ (λ i. (node n.uuid AModule ∷ proxies i) ++ symbols i ++ sections i)

nodes-from : (ps : List Payload) (g : Arenas) (m : ℕ) (done ns : List ModuleNode) → full_tree g → g.modules ≡ done ++ ns → length done ≡ m
    → map (ref_node g) (refs_from g m ns) ≡ nodes_from m (map (drafted_module ps g) ns)
nodes-from ps g m done [] t e len = refl
nodes-from ps g m done (n ∷ ns) t e len =
    let at : module_at g (record { index = m }) ≡ n = ap (λ l. get_or l m no_module) e ∙ ap (λ k. get_or (done ++ n ∷ ns) k no_module) (sym len) ∙ get_or-append_seam done n ns no_module in
    let all : length g.modules ≡ length done + length (n ∷ ns) = ap length e ∙ length-append done (n ∷ ns) in
    let within : m < length g.modules = omega arith in
    let one : map (ref_node g) (module_refs g m n) ≡ module_nodes m (drafted_module ps g n) =
    subst (λ (x : ModuleNode). map (ref_node g) (module_refs g m x) ≡ module_nodes m (drafted_module ps g x)) at (module-nodes ps g m t within) in
    let more : length (done ++ n ∷ []) ≡ m + 1 = length-append done (n ∷ []) ∙ ap (λ k. k + 1) len in
    map-append (ref_node g) (module_refs g m n) (refs_from g (m + 1) ns)
    ∙ (λ i. one i ++ nodes-from ps g (m + 1) (done ++ n ∷ []) ns t (e ∙ sym (append_assoc done (n ∷ []) ns)) more i)

nodes-without : (m : ℕ) (xs : List Module) → nodes_from m (map without_entry xs) ≡ nodes_from m xs
nodes-without m [] = refl
nodes-without m (x ∷ xs) = ap (λ l. module_nodes m x ++ l) (nodes-without (m + 1) xs)

pub formed-nodes : (ir : Ir) (ps : List Payload) (g : Arenas) → Formed ir ps g → map (ref_node g) (all_refs g) ≡ nodes ir
formed-nodes ir ps g f =
    (λ i. node (f.root i) TheIr ∷ (nodes-from ps g 0 [] g.modules f.tree refl refl ∙ ap (nodes_from 0) f.plain ∙ nodes-without 0 ir.modules) i)

pub formed-ids : (ir : Ir) (ps : List Payload) (g : Arenas) → Formed ir ps g → map (ref_id g) (all_refs g) ≡ map (λ (n : Node). n.id) (nodes ir)
formed-ids ir ps g f = sym (map-map (λ (n : Node). n.id) (ref_node g) (all_refs g)) ∙ ap (map (λ (n : Node). n.id)) (formed-nodes ir ps g f)

-- what an identifier stands for, by the nodes and by their index
pub kind-found : (g : Arenas) (rs : List NodeRef) (id : List ℕ) → kind_at (map (ref_node g) rs) id ≡ option_map (ref_kind g) (lookup (bytes_eq id) (map (entry_of g) rs))
kind-found g [] id = refl
kind-found g (r ∷ rs) id = by (bytes_eq id (ref_id g r)) (kind-found g rs id)
  where
    by : (b : Bool) → option_map (λ (n : Node). n.kind) (find (λ (n : Node). bytes_eq id n.id) (map (ref_node g) rs)) ≡ option_map (ref_kind g) (lookup (bytes_eq id) (map (entry_of g) rs))
        → option_map (λ (n : Node). n.kind) (cond b (Some (ref_node g r)) (find (λ (n : Node). bytes_eq id n.id) (map (ref_node g) rs)))
        ≡ option_map (ref_kind g) (cond b (Some r) (lookup (bytes_eq id) (map (entry_of g) rs)))
    by true h = refl
    by false h = h
