-- The IR of a graph: each node as a plain value, with its children in place of their identifiers.
use Rattle.std.specs.Prelude.{ℕ, Some, None, List, [], map, if◌then◌else◌}
use Rattle.std.specs.Option.{option_map}
use Rattle.gt_model.specs.declared.edges.Cfg.{Cfg}
use Rattle.gt_model.specs.declared.edges.Edge.{Edge}
use Rattle.gt_model.specs.declared.intervals.Block.{Block}
use Rattle.gt_model.specs.declared.intervals.Body.{Body}
use Rattle.gt_model.specs.declared.intervals.Body.TheVariants as bodies
use Rattle.gt_model.specs.declared.intervals.Interval.{Interval}
use Rattle.gt_model.specs.declared.ir.Ir.{Ir}
use Rattle.gt_model.specs.declared.modules.Module.{Module}
use Rattle.gt_model.specs.declared.modules.Section.{Section}
use Rattle.gt_model.specs.declared.symbols.Payload.{Payload}
use Rattle.gt_model.specs.declared.symbols.Payload.TheVariants as plain
use Rattle.gt_model.specs.declared.symbols.Symbol.{Symbol}
use Rattle.node_arena.specs.declared.ids.BlockId.{BlockId}
use Rattle.node_arena.specs.declared.ids.CfgEnd.{CfgEnd}
use Rattle.node_arena.specs.declared.ids.CfgEnd.TheVariants as ends
use Rattle.node_arena.specs.declared.ids.EdgeId.{EdgeId}
use Rattle.node_arena.specs.declared.ids.IntervalId.{IntervalId}
use Rattle.node_arena.specs.declared.ids.ProxyId.{ProxyId}
use Rattle.node_arena.specs.declared.ids.SectionId.{SectionId}
use Rattle.node_arena.specs.declared.ids.SymbolId.{SymbolId}
use Rattle.node_arena.specs.declared.nodes.ModuleNode.{ModuleNode}
use Rattle.node_arena.specs.declared.nodes.NodePayload.{NodePayload}
use Rattle.node_arena.specs.declared.nodes.NodePayload.TheVariants as payloads
use Rattle.node_arena.specs.Arenas.{Arenas, section_at, interval_at, block_at, symbol_at, proxy_at, edge_at}

-- the identifier of a block's body
abbrev pub body_id : Body → List ℕ
body_id bodies.Bare = []
body_id (bodies.Code uuid size decode_mode) = uuid
body_id (bodies.Data uuid size) = uuid

abbrev pub block_id : Arenas → BlockId → List ℕ
block_id g id = body_id (block_at g id).body

abbrev pub proxy_id : Arenas → ProxyId → List ℕ
proxy_id g id = (proxy_at g id).uuid

-- the node of each identifier as a plain value
abbrev pub plain_block : Arenas → BlockId → Block
plain_block g id = let n = block_at g id in record { offset = n.offset; body = n.body }

abbrev pub plain_interval : Arenas → IntervalId → Interval
plain_interval g id = let n = interval_at g id in record {
  uuid = n.uuid;
  blocks = map (plain_block g) n.blocks;
  exprs = n.exprs;
  has_address = n.has_address;
  address = n.address;
  size = n.size;
  contents = n.contents;
}

abbrev pub plain_section : Arenas → SectionId → Section
plain_section g id = let n = section_at g id in record {
  uuid = n.uuid;
  name = n.name;
  intervals = map (plain_interval g) n.intervals;
  flags = n.flags;
}

abbrev pub plain_payload : Arenas → NodePayload → Payload
plain_payload g payloads.Nothing = plain.Nothing
plain_payload g (payloads.Value value) = plain.Value value
plain_payload g (payloads.Block id) = plain.Referent (block_id g id)
plain_payload g (payloads.Proxy id) = plain.Referent (proxy_id g id)

abbrev pub plain_symbol : Arenas → SymbolId → Symbol
plain_symbol g id = let n = symbol_at g id in record {
  uuid = n.uuid;
  name = n.name;
  at_end = n.at_end;
  payload = plain_payload g n.payload;
}

abbrev pub plain_module : Arenas → ModuleNode → Module
plain_module g n = record {
  uuid = n.uuid;
  binary_path = n.binary_path;
  preferred_addr = n.preferred_addr;
  rebase_delta = n.rebase_delta;
  file_format = n.file_format;
  isa = n.isa;
  name = n.name;
  symbols = map (plain_symbol g) n.symbols;
  sections = map (plain_section g) n.sections;
  proxies = map (proxy_id g) n.proxies;
  aux = n.aux;
  entry = option_map (block_id g) n.entry;
  byte_order = n.byte_order;
}

abbrev pub end_id : Arenas → CfgEnd → List ℕ
end_id g (ends.Block id) = block_id g id
end_id g (ends.Proxy id) = proxy_id g id

abbrev pub plain_edge : Arenas → EdgeId → Edge
plain_edge g id = let n = edge_at g id in record { source = end_id g n.source; target = end_id g n.target; label = n.label }

abbrev pub plain_cfg : Arenas → Cfg
plain_cfg g = record { edges = map (plain_edge g) g.live; vertices = map (end_id g) g.vertices }

abbrev pub ir_of : Arenas → Ir
ir_of g = record {
  uuid = g.uuid;
  modules = map (plain_module g) g.modules;
  aux = g.aux;
  version = g.version;
  cfg = if g.has_cfg then Some (plain_cfg g) else None;
}
