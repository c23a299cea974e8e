-- What linking writes: what an identifier that a reference names becomes, by what the index finds.
use Rattle.std.specs.Prelude.{◌≡◌, ℕ, None, Option, Some, List, [], map, length}
use Rattle.std.specs.List.{range_with_len}
use Rattle.gt_model.specs.declared.edges.Cfg.{Cfg}
use Rattle.gt_model.specs.declared.edges.Edge.{Edge}
use Rattle.gt_model.specs.declared.ir.Ir.{Ir}
use Rattle.gt_model.specs.declared.modules.Module.{Module}
use Rattle.gt_model.specs.declared.symbols.Payload.{Payload}
use Rattle.gt_model.specs.declared.symbols.Payload.TheVariants as plain
use Rattle.node_arena.specs.declared.ids.BlockId.{BlockId}
use Rattle.node_arena.specs.declared.ids.CfgEnd.{CfgEnd}
use Rattle.node_arena.specs.declared.ids.CfgEnd.TheVariants as ends
use Rattle.node_arena.specs.declared.ids.EdgeId.{EdgeId}
use Rattle.node_arena.specs.declared.ids.NodeRef.{NodeRef}
use Rattle.node_arena.specs.declared.ids.NodeRef.TheVariants as refs
use Rattle.node_arena.specs.declared.nodes.EdgeNode.{EdgeNode}
use Rattle.node_arena.specs.declared.nodes.ModuleNode.{ModuleNode}
use Rattle.node_arena.specs.declared.nodes.NodePayload.{NodePayload}
use Rattle.node_arena.specs.declared.nodes.NodePayload.TheVariants as payloads
use Rattle.node_arena.specs.declared.nodes.SymbolNode.{SymbolNode}
use Rattle.node_arena.specs.Arenas.{Arenas}

-- the node of each identifier
abbrev pub Found : Type 0
Found = List ℕ → Option NodeRef

abbrev pub block_of : Option NodeRef → Option BlockId
block_of (Some (refs.Block id)) = Some id
block_of _ = None

-- the entry of a module
abbrev pub entry_found : Found → Option (List ℕ) → Option BlockId
entry_found found None = None
entry_found found (Some id) = block_of (found id)

abbrev pub module_entry : Found → Module → Option BlockId
module_entry found x = entry_found found x.entry

abbrev pub referent : Option NodeRef → NodePayload
referent (Some (refs.Block id)) = payloads.Block id
referent (Some (refs.Proxy id)) = payloads.Proxy id
referent _ = payloads.Nothing

-- what a symbol stands for
abbrev pub payload_found : Found → Payload → NodePayload
payload_found found plain.Nothing = payloads.Nothing
payload_found found (plain.Value value) = payloads.Value value
payload_found found (plain.Referent id) = referent (found id)

-- the node is a block or a proxy block
abbrev pub IsEnd : Option NodeRef → Type 0
IsEnd (Some (refs.Block id)) = Unit {0}
IsEnd (Some (refs.Proxy id)) = Unit {0}
IsEnd _ = ⊥

abbrev pub end_of : Option NodeRef → CfgEnd
end_of (Some (refs.Proxy id)) = ends.Proxy id
end_of (Some (refs.Block id)) = ends.Block id
end_of _ = ends.Block (record { index = 0 })

-- an end of an edge, where the index finds one
abbrev pub end_found : Found → List ℕ → CfgEnd
end_found found id = end_of (found id)

abbrev pub HasEnds : Found → Edge → Type 0
HasEnds found e = IsEnd (found e.source) × IsEnd (found e.target)

abbrev pub edge_found : Found → Edge → EdgeNode
edge_found found e = record { source = end_found found e.source; target = end_found found e.target; label = e.label }

-- the edges and vertices of an IR
abbrev pub cfg_edges : Option Cfg → List Edge
cfg_edges None = []
cfg_edges (Some c) = c.edges

abbrev pub cfg_vertices : Option Cfg → List (List ℕ)
cfg_vertices None = []
cfg_vertices (Some c) = c.vertices

abbrev pub edge_places : List EdgeId → List ℕ
edge_places ids = map (λ (id : EdgeId). id.index) ids

-- a node without what it refers to
abbrev pub loose_symbol : SymbolNode → SymbolNode
loose_symbol n = record n { payload = payloads.Nothing }

abbrev pub loose_module : ModuleNode → ModuleNode
loose_module n = record n { entry = None }

-- a graph without references and edges
abbrev pub loose : Arenas → Arenas
loose g = record g { modules = map loose_module g.modules; symbols = map loose_symbol g.symbols; edges = []; live = []; vertices = [] }

-- the graph of a draft, with what its references name
pub record Linked (found : Found) (ir : Ir) (ps : List Payload) (g h : Arenas) : Type 0 where
  pub same : loose h ≡ loose g
  pub payloads : map (λ (n : SymbolNode). n.payload) h.symbols ≡ map (payload_found found) ps
  pub entries : map (λ (n : ModuleNode). n.entry) h.modules ≡ map (module_entry found) ir.modules
  pub edges : h.edges ≡ map (edge_found found) (cfg_edges ir.cfg)
  pub live : edge_places h.live ≡ range_with_len 0 (length (cfg_edges ir.cfg))
  pub vertices : h.vertices ≡ map (end_found found) (cfg_vertices ir.cfg)
