-- What holds of every graph.
use Rattle.std.specs.Prelude.{◌≡◌, ◌≢◌, ℕ, ◌<◌, Bool, true, false, IsTrue, Option, Some, IfSome, List, [], map, length, slice_index, slice_index_or, Contains, AllPairs, All}
use Rattle.std.specs.Ordering.{nat_cmp}
use Rattle.std.specs.List.Sorted.{IsStrictlySortedBy}
use Rattle.gt_model.specs.declared.exprs.Expr.{Expr}
use Rattle.gt_model.specs.declared.intervals.Body.{Body}
use Rattle.gt_model.specs.declared.intervals.Body.TheVariants as bodies
use Rattle.gt_model.specs.Linked.{is_bare_body}
use Rattle.gt_model.specs.Ordered.{ordered_exprs, ordered_aux}
use Rattle.gt_model.specs.References.{symbols_of}
use Rattle.node_arena.specs.declared.ids.BlockId.{BlockId}
use Rattle.node_arena.specs.declared.ids.CfgEnd.{CfgEnd}
use Rattle.node_arena.specs.declared.ids.CfgEnd.TheVariants as ends
use Rattle.node_arena.specs.declared.ids.EdgeId.{EdgeId}
use Rattle.node_arena.specs.declared.ids.IntervalId.{IntervalId}
use Rattle.node_arena.specs.declared.ids.ModuleId.{ModuleId}
use Rattle.node_arena.specs.declared.ids.NodeRef.{NodeRef}
use Rattle.node_arena.specs.declared.ids.NodeRef.TheVariants as refs
use Rattle.node_arena.specs.declared.ids.ProxyId.{ProxyId}
use Rattle.node_arena.specs.declared.ids.SectionId.{SectionId}
use Rattle.node_arena.specs.declared.ids.SymbolId.{SymbolId}
use Rattle.node_arena.specs.declared.nodes.BlockNode.{BlockNode}
use Rattle.node_arena.specs.declared.nodes.EdgeNode.{EdgeNode}
use Rattle.node_arena.specs.declared.nodes.IntervalNode.{IntervalNode}
use Rattle.node_arena.specs.declared.nodes.ModuleNode.{ModuleNode}
use Rattle.node_arena.specs.declared.nodes.NodePayload.{NodePayload}
use Rattle.node_arena.specs.declared.nodes.NodePayload.TheVariants as payloads
use Rattle.node_arena.specs.declared.nodes.ProxyNode.{ProxyNode}
use Rattle.node_arena.specs.declared.nodes.SectionNode.{SectionNode}
use Rattle.node_arena.specs.declared.nodes.SymbolNode.{SymbolNode}
use Rattle.node_arena.specs.Arenas.{Arenas, module_at, section_at, interval_at, block_at, symbol_at, proxy_at}
use Rattle.node_arena.specs.Plain.{block_id, proxy_id}

-- the lists of the parents, by place, name each child once, below the parent that it names
pub record Children (lists : List (List ℕ)) (parents : List ℕ) : Type 0 where
  pub listed : (p c : ℕ) → p < length lists → Contains (slice_index_or lists p []) c → (c < length parents) × (slice_index parents c ≡ p)
  pub owned : (c : ℕ) → c < length parents → (slice_index parents c < length lists) × Contains (slice_index_or lists (slice_index parents c) []) c
  pub once : (p : ℕ) → p < length lists → AllPairs (λ a b. a ≢ b) (slice_index_or lists p [])

-- the places of a list of identifiers, of each kind
abbrev pub section_places : List SectionId → List ℕ
section_places ids = map (λ (id : SectionId). id.index) ids

abbrev pub interval_places : List IntervalId → List ℕ
interval_places ids = map (λ (id : IntervalId). id.index) ids

abbrev pub block_places : List BlockId → List ℕ
block_places ids = map (λ (id : BlockId). id.index) ids

abbrev pub symbol_places : List SymbolId → List ℕ
symbol_places ids = map (λ (id : SymbolId). id.index) ids

abbrev pub proxy_places : List ProxyId → List ℕ
proxy_places ids = map (λ (id : ProxyId). id.index) ids

-- the tree: each node but the modules is a child of one parent
pub record tree (g : Arenas) : Type 0 where
  pub sections : Children (map (λ (n : ModuleNode). section_places n.sections) g.modules) (map (λ (n : SectionNode). n.module.index) g.sections)
  pub symbols : Children (map (λ (n : ModuleNode). symbol_places n.symbols) g.modules) (map (λ (n : SymbolNode). n.module.index) g.symbols)
  pub proxies : Children (map (λ (n : ModuleNode). proxy_places n.proxies) g.modules) (map (λ (n : ProxyNode). n.module.index) g.proxies)
  pub intervals : Children (map (λ (n : SectionNode). interval_places n.intervals) g.sections) (map (λ (n : IntervalNode). n.section.index) g.intervals)
  pub blocks : Children (map (λ (n : IntervalNode). block_places n.blocks) g.intervals) (map (λ (n : BlockNode). n.interval.index) g.blocks)

-- the identifier of a node
abbrev pub ref_id : Arenas → NodeRef → List ℕ
ref_id g refs.Ir = g.uuid
ref_id g (refs.Module id) = (module_at g id).uuid
ref_id g (refs.Section id) = (section_at g id).uuid
ref_id g (refs.Interval id) = (interval_at g id).uuid
ref_id g (refs.Block id) = block_id g id
ref_id g (refs.Symbol id) = (symbol_at g id).uuid
ref_id g (refs.Proxy id) = proxy_id g id

abbrev pub is_bare_at : Arenas → BlockId → Bool
is_bare_at g id = is_bare_body (block_at g id).body

-- the node is of the graph
abbrev pub Live : Arenas → NodeRef → Type 0
Live g refs.Ir = Unit {0}
Live g (refs.Module id) = id.index < length g.modules
Live g (refs.Section id) = id.index < length g.sections
Live g (refs.Interval id) = id.index < length g.intervals
Live g (refs.Block id) = (id.index < length g.blocks) × (is_bare_at g id ≡ false)
Live g (refs.Symbol id) = id.index < length g.symbols
Live g (refs.Proxy id) = id.index < length g.proxies

-- an index finds each node by its identifier, and nothing else
pub record Finds (g : Arenas) (found : List ℕ → Option NodeRef) : Type 0 where
  pub named : (r : NodeRef) → Live g r → found (ref_id g r) ≡ Some r
  pub held : (id : List ℕ) (r : NodeRef) → found id ≡ Some r → Live g r × (ref_id g r ≡ id)

-- the module that a node is in
abbrev pub module_of_section : Arenas → SectionId → ℕ
module_of_section g id = (section_at g id).module.index

abbrev pub module_of_interval : Arenas → IntervalId → ℕ
module_of_interval g id = module_of_section g (interval_at g id).section

abbrev pub module_of_block : Arenas → BlockId → ℕ
module_of_block g id = module_of_interval g (block_at g id).interval

abbrev pub is_code_body : Body → Bool
is_code_body (bodies.Code uuid size decode_mode) = true
is_code_body _ = false

abbrev pub is_code : Arenas → BlockId → Bool
is_code g id = is_code_body (block_at g id).body

-- a code block, or a proxy block, of any module
abbrev pub IsVertex : Arenas → CfgEnd → Type 0
IsVertex g (ends.Block id) = (id.index < length g.blocks) × IsTrue (is_code g id)
IsVertex g (ends.Proxy id) = id.index < length g.proxies

-- what a symbol may stand for: a block of its module
abbrev pub IsReferent : Arenas → ModuleId → NodePayload → Type 0
IsReferent g m payloads.Nothing = Unit {0}
IsReferent g m (payloads.Value value) = Unit {0}
IsReferent g m (payloads.Block id) = (id.index < length g.blocks) × (module_of_block g id ≡ m.index)
IsReferent g m (payloads.Proxy id) = (id.index < length g.proxies) × ((proxy_at g id).module.index ≡ m.index)

-- the identifier is that of a symbol of the module
abbrev pub IsSymbolOf : Arenas → ℕ → List ℕ → Type 0
IsSymbolOf g m id = (s : SymbolId) × (s.index < length g.symbols) × ((symbol_at g s).module.index ≡ m) × ((symbol_at g s).uuid ≡ id)

-- the symbols that the expressions name are of the module
abbrev pub NamesSymbolsOf : Arenas → ℕ → List Expr → Type 0
NamesSymbolsOf g m exprs = All (λ (e : Expr). All (IsSymbolOf g m) (symbols_of e.value)) exprs

-- the entry is a code block of the module
abbrev pub IsEntry : Arenas → ℕ → BlockId → Type 0
IsEntry g m id = (id.index < length g.blocks) × IsTrue (is_code g id) × (module_of_block g id ≡ m)

-- every reference is to a node of its kind and module
pub record lands (g : Arenas) : Type 0 where
  pub entries : (k : ℕ) → k < length g.modules → IfSome (module_at g (record { index = k })).entry (IsEntry g k)
  pub referents : All (λ (n : SymbolNode). IsReferent g n.module n.payload) g.symbols
  pub symbols : All (λ (n : IntervalNode). NamesSymbolsOf g (module_of_section g n.section) n.exprs) g.intervals
  pub sources : All (λ (n : EdgeNode). IsVertex g n.source) g.edges
  pub targets : All (λ (n : EdgeNode). IsVertex g n.target) g.edges
  pub vertices : All (IsVertex g) g.vertices

-- the live edges ascend; without a cfg there are none, and no vertices
pub record flow (g : Arenas) : Type 0 where
  pub live : All (λ (id : EdgeId). id.index < length g.edges) g.live
  pub ascend : IsStrictlySortedBy nat_cmp (map (λ (id : EdgeId). id.index) g.live)
  pub no_edges : g.has_cfg ≡ false → g.live ≡ []
  pub no_vertices : g.has_cfg ≡ false → g.vertices ≡ []

-- expressions and tables are in order
pub record sorted (g : Arenas) : Type 0 where
  pub exprs : All (λ (n : IntervalNode). ordered_exprs n.exprs) g.intervals
  pub tables : All (λ (n : ModuleNode). ordered_aux n.aux) g.modules
  pub aux : ordered_aux g.aux

pub record sound (g : Arenas) : Type 0 where
  pub tree : tree g
  pub solid : (k : ℕ) → k < length g.blocks → is_bare_at g (record { index = k }) ≡ false
  pub names : (r s : NodeRef) → Live g r → Live g s → ref_id g r ≡ ref_id g s → r ≡ s
  pub lands : lands g
  pub flow : flow g
  pub sorted : sorted g
