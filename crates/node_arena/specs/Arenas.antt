-- What contracts see of a graph: its nodes, one list of each kind. An identifier is a place in the list of its kind.
use Rattle.std.specs.Prelude.{ℕ, pos, Bool, false, None, List, [], slice_index_or}
use Rattle.gt_model.specs.declared.intervals.Body.TheVariants as bodies
use Rattle.gt_model.specs.declared.tables.Aux.{Aux}
use Rattle.node_arena.specs.declared.ids.BlockId.{BlockId}
use Rattle.node_arena.specs.declared.ids.CfgEnd.{CfgEnd}
use Rattle.node_arena.specs.declared.ids.CfgEnd.TheVariants as ends
use Rattle.node_arena.specs.declared.ids.EdgeId.{EdgeId}
use Rattle.node_arena.specs.declared.ids.IntervalId.{IntervalId}
use Rattle.node_arena.specs.declared.ids.ModuleId.{ModuleId}
use Rattle.node_arena.specs.declared.ids.ProxyId.{ProxyId}
use Rattle.node_arena.specs.declared.ids.SectionId.{SectionId}
use Rattle.node_arena.specs.declared.ids.SymbolId.{SymbolId}
use Rattle.node_arena.specs.declared.nodes.BlockNode.{BlockNode}
use Rattle.node_arena.specs.declared.nodes.EdgeNode.{EdgeNode}
use Rattle.node_arena.specs.declared.nodes.IntervalNode.{IntervalNode}
use Rattle.node_arena.specs.declared.nodes.ModuleNode.{ModuleNode}
use Rattle.node_arena.specs.declared.nodes.NodePayload.TheVariants as payloads
use Rattle.node_arena.specs.declared.nodes.ProxyNode.{ProxyNode}
use Rattle.node_arena.specs.declared.nodes.SectionNode.{SectionNode}
use Rattle.node_arena.specs.declared.nodes.SymbolNode.{SymbolNode}

-- the modules stand in order; live are the edges that weren't removed, in order
pub record Arenas : Type 0 where
  pub uuid : List ℕ
  pub version : ℕ
  pub aux : List Aux
  pub modules : List ModuleNode
  pub sections : List SectionNode
  pub intervals : List IntervalNode
  pub blocks : List BlockNode
  pub symbols : List SymbolNode
  pub proxies : List ProxyNode
  pub edges : List EdgeNode
  pub live : List EdgeId
  pub vertices : List CfgEnd
  pub has_cfg : Bool

-- stand-ins for nodes past the end of a list
abbrev pub no_module : ModuleNode
no_module = record { uuid = []; binary_path = []; preferred_addr = 0; rebase_delta = pos 0; file_format = pos 0; isa = pos 0; name = []; symbols = []; sections = []; proxies = []; aux = []; entry = None; byte_order = pos 0 }

abbrev pub no_section : SectionNode
no_section = record { uuid = []; name = []; flags = []; intervals = []; «module» = record { index = 0 } }

abbrev pub no_interval : IntervalNode
no_interval = record { uuid = []; has_address = false; address = 0; size = 0; contents = []; exprs = []; blocks = []; section = record { index = 0 } }

abbrev pub no_block : BlockNode
no_block = record { offset = 0; body = bodies.Bare; interval = record { index = 0 } }

abbrev pub no_symbol : SymbolNode
no_symbol = record { uuid = []; name = []; at_end = false; payload = payloads.Nothing; «module» = record { index = 0 } }

abbrev pub no_proxy : ProxyNode
no_proxy = record { uuid = []; «module» = record { index = 0 } }

abbrev pub no_edge : EdgeNode
no_edge = record { source = ends.Block (record { index = 0 }); target = ends.Block (record { index = 0 }); label = None }

-- the node of an identifier
abbrev pub module_at : Arenas → ModuleId → ModuleNode
module_at g id = slice_index_or g.modules id.index no_module

abbrev pub section_at : Arenas → SectionId → SectionNode
section_at g id = slice_index_or g.sections id.index no_section

abbrev pub interval_at : Arenas → IntervalId → IntervalNode
interval_at g id = slice_index_or g.intervals id.index no_interval

abbrev pub block_at : Arenas → BlockId → BlockNode
block_at g id = slice_index_or g.blocks id.index no_block

abbrev pub symbol_at : Arenas → SymbolId → SymbolNode
symbol_at g id = slice_index_or g.symbols id.index no_symbol

abbrev pub proxy_at : Arenas → ProxyId → ProxyNode
proxy_at g id = slice_index_or g.proxies id.index no_proxy

abbrev pub edge_at : Arenas → EdgeId → EdgeNode
edge_at g id = slice_index_or g.edges id.index no_edge
