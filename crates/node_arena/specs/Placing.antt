-- What placing the nodes of an IR adds to an arena. A draft has the payloads of its symbols beside it.
use Rattle.std.specs.Prelude.{◌≡◌, ℕ, None, List, [], ◌++◌, map, length, replicate, slice_index_or, is_some}
use Rattle.std.specs.List.{range_with_len}
use Rattle.gt_model.specs.declared.intervals.Block.{Block}
use Rattle.gt_model.specs.declared.intervals.Interval.{Interval}
use Rattle.gt_model.specs.declared.ir.Ir.{Ir}
use Rattle.gt_model.specs.declared.modules.Module.{Module}
use Rattle.gt_model.specs.declared.modules.Section.{Section}
use Rattle.gt_model.specs.declared.symbols.Payload.{Payload}
use Rattle.gt_model.specs.declared.symbols.Payload.TheVariants as plain
use Rattle.gt_model.specs.declared.symbols.Symbol.{Symbol}
use Rattle.node_arena.specs.declared.ids.BlockId.{BlockId}
use Rattle.node_arena.specs.declared.ids.IntervalId.{IntervalId}
use Rattle.node_arena.specs.declared.ids.ProxyId.{ProxyId}
use Rattle.node_arena.specs.declared.ids.SectionId.{SectionId}
use Rattle.node_arena.specs.declared.ids.SymbolId.{SymbolId}
use Rattle.node_arena.specs.declared.nodes.BlockNode.{BlockNode}
use Rattle.node_arena.specs.declared.nodes.IntervalNode.{IntervalNode}
use Rattle.node_arena.specs.declared.nodes.ModuleNode.{ModuleNode}
use Rattle.node_arena.specs.declared.nodes.NodePayload.TheVariants as payloads
use Rattle.node_arena.specs.declared.nodes.ProxyNode.{ProxyNode}
use Rattle.node_arena.specs.declared.nodes.SectionNode.{SectionNode}
use Rattle.node_arena.specs.declared.nodes.SymbolNode.{SymbolNode}
use Rattle.node_arena.specs.Arenas.{Arenas}
use Rattle.node_arena.specs.Plain.{plain_interval, plain_section, plain_symbol, plain_module}
use Rattle.node_arena.specs.Sound.{Children, section_places, interval_places, block_places, symbol_places, proxy_places}

-- the first list begins the second
abbrev pub Begins : {X : Type 0} → List X → List X → Type 0
Begins {X} xs ys = (more : List X) × (ys ≡ xs ++ more)

-- the lists of children, and the places of the parents, of each kind
abbrev pub block_lists : List IntervalNode → List (List ℕ)
block_lists ns = map (λ (n : IntervalNode). block_places n.blocks) ns

abbrev pub interval_lists : List SectionNode → List (List ℕ)
interval_lists ns = map (λ (n : SectionNode). interval_places n.intervals) ns

abbrev pub section_lists : List ModuleNode → List (List ℕ)
section_lists ns = map (λ (n : ModuleNode). section_places n.sections) ns

abbrev pub symbol_lists : List ModuleNode → List (List ℕ)
symbol_lists ns = map (λ (n : ModuleNode). symbol_places n.symbols) ns

abbrev pub proxy_lists : List ModuleNode → List (List ℕ)
proxy_lists ns = map (λ (n : ModuleNode). proxy_places n.proxies) ns

abbrev pub block_parents : List BlockNode → List ℕ
block_parents ns = map (λ (n : BlockNode). n.interval.index) ns

abbrev pub interval_parents : List IntervalNode → List ℕ
interval_parents ns = map (λ (n : IntervalNode). n.section.index) ns

abbrev pub section_parents : List SectionNode → List ℕ
section_parents ns = map (λ (n : SectionNode). n.module.index) ns

abbrev pub symbol_parents : List SymbolNode → List ℕ
symbol_parents ns = map (λ (n : SymbolNode). n.module.index) ns

abbrev pub proxy_parents : List ProxyNode → List ℕ
proxy_parents ns = map (λ (n : ProxyNode). n.module.index) ns

abbrev pub blocks_tree : Arenas → Type 0
blocks_tree g = Children (block_lists g.intervals) (block_parents g.blocks)

-- the trees below the sections
pub record lower_tree (g : Arenas) : Type 0 where
  pub blocks : blocks_tree g
  pub intervals : Children (interval_lists g.sections) (interval_parents g.intervals)

abbrev pub placed_block : ℕ → Block → BlockNode
placed_block interval b = record { offset = b.offset; body = b.body; interval = record { index = interval } }

-- the nodes of a list are appended, and the identifiers are their places
pub record Appended {I X N : Type 0} (place : I → ℕ) (node : X → N) (from : List X) (old : List N) (ids : List I) (new : List N) : Type 0 where
  pub nodes : new ≡ old ++ map node from
  pub places : map place ids ≡ range_with_len (length old) (length from)

abbrev pub PlacedBlocks : ℕ → List Block → List BlockNode → List BlockId → List BlockNode → Type 0
PlacedBlocks interval = Appended (λ (id : BlockId). id.index) (placed_block interval)

pub record PlacedIntervals (section : ℕ) (from : List Interval) (g : Arenas) (ids : List IntervalId) (h : Arenas) : Type 0 where
  pub same : h ≡ record g { intervals = h.intervals; blocks = h.blocks }
  pub intervals : Begins g.intervals h.intervals
  pub blocks : Begins g.blocks h.blocks
  pub parents : interval_parents h.intervals ≡ interval_parents g.intervals ++ replicate (length from) section
  pub places : interval_places ids ≡ range_with_len (length g.intervals) (length from)
  pub plain : map (plain_interval h) ids ≡ from
  pub tree : blocks_tree h

pub record PlacedSections (m : ℕ) (from : List Section) (g : Arenas) (ids : List SectionId) (h : Arenas) : Type 0 where
  pub same : h ≡ record g { sections = h.sections; intervals = h.intervals; blocks = h.blocks }
  pub sections : Begins g.sections h.sections
  pub intervals : Begins g.intervals h.intervals
  pub blocks : Begins g.blocks h.blocks
  pub parents : section_parents h.sections ≡ section_parents g.sections ++ replicate (length from) m
  pub places : section_places ids ≡ range_with_len (length g.sections) (length from)
  pub plain : map (plain_section h) ids ≡ from
  pub tree : lower_tree h

abbrev pub placed_symbol : ℕ → Symbol → SymbolNode
placed_symbol m s = record { uuid = s.uuid; name = s.name; at_end = s.at_end; payload = payloads.Nothing; «module» = record { index = m } }

abbrev pub PlacedSymbols : ℕ → List Symbol → List SymbolNode → List SymbolId → List SymbolNode → Type 0
PlacedSymbols m = Appended (λ (id : SymbolId). id.index) (placed_symbol m)

abbrev pub placed_proxy : ℕ → List ℕ → ProxyNode
placed_proxy m id = record { uuid = id; «module» = record { index = m } }

abbrev pub PlacedProxies : ℕ → List (List ℕ) → List ProxyNode → List ProxyId → List ProxyNode → Type 0
PlacedProxies m = Appended (λ (id : ProxyId). id.index) (placed_proxy m)

abbrev pub placed_module : Module → List SymbolId → List SectionId → List ProxyId → ModuleNode
placed_module x symbols sections proxies = record {
  uuid = x.uuid;
  binary_path = x.binary_path;
  preferred_addr = x.preferred_addr;
  rebase_delta = x.rebase_delta;
  file_format = x.file_format;
  isa = x.isa;
  name = x.name;
  symbols = symbols;
  sections = sections;
  proxies = proxies;
  aux = x.aux;
  entry = None;
  byte_order = x.byte_order;
}

abbrev pub payload_of : Symbol → Payload
payload_of s = s.payload

-- the node of a symbol as a plain value, with its payload from a list of all symbols' payloads, and that of a module without entry
abbrev pub drafted_symbol : List Payload → Arenas → SymbolId → Symbol
drafted_symbol ps g id = record (plain_symbol g id) { payload = slice_index_or ps id.index plain.Nothing }

abbrev pub drafted_module : List Payload → Arenas → ModuleNode → Module
drafted_module ps g n = record (plain_module g n) { symbols = map (drafted_symbol ps g) n.symbols; entry = None }

abbrev pub without_entry : Module → Module
without_entry x = record x { entry = None }

-- the trees below the modules
pub record full_tree (g : Arenas) : Type 0 where
  pub lower : lower_tree g
  pub sections : Children (section_lists g.modules) (section_parents g.sections)
  pub symbols : Children (symbol_lists g.modules) (symbol_parents g.symbols)
  pub proxies : Children (proxy_lists g.modules) (proxy_parents g.proxies)

-- the arena of the first modules of an IR
pub record Drafted (ir : Ir) (from : List Module) (ps : List Payload) (g : Arenas) : Type 0 where
  pub root : g.uuid ≡ ir.uuid
  pub version : g.version ≡ ir.version
  pub aux : g.aux ≡ ir.aux
  pub has_cfg : g.has_cfg ≡ is_some ir.cfg
  pub edges : g.edges ≡ []
  pub live : g.live ≡ []
  pub vertices : g.vertices ≡ []
  pub payloads : length ps ≡ length g.symbols
  pub plain : map (drafted_module ps g) g.modules ≡ map without_entry from
  pub tree : full_tree g
