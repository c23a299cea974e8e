-- What the calls that change a graph do to its nodes.
use Rattle.std.specs.Prelude.{◌≡◌, ◌≢◌, ℕ, AllPairs, Contains, Option, Some, None, true, false, not, List, [], ◌∷◌, ◌++◌, length, filter, slice_set, ◌==◌, if◌then◌else◌}
use Rattle.std.specs.List.{list_any}
use Rattle.std.specs.Str.{bytes_eq}
use Rattle.gt_model.specs.declared.intervals.Body.{Body}
use Rattle.gt_model.specs.declared.intervals.Body.TheVariants as bodies
use Rattle.gt_model.specs.declared.symbols.Payload.{Payload}
use Rattle.gt_model.specs.declared.symbols.Payload.TheVariants as plain
use Rattle.gt_model.specs.declared.symbols.Symbol.{Symbol}
use Rattle.gt_model.specs.declared.tables.Aux.{Aux}
use Rattle.node_arena.specs.declared.ids.BlockId.{BlockId}
use Rattle.node_arena.specs.declared.ids.EdgeId.{EdgeId}
use Rattle.node_arena.specs.declared.ids.IntervalId.{IntervalId}
use Rattle.node_arena.specs.declared.ids.ModuleId.{ModuleId}
use Rattle.node_arena.specs.declared.ids.NodeRef.{NodeRef}
use Rattle.node_arena.specs.declared.ids.SectionId.{SectionId}
use Rattle.node_arena.specs.declared.ids.SymbolId.{SymbolId}
use Rattle.node_arena.specs.declared.nodes.BlockNode.{BlockNode}
use Rattle.node_arena.specs.declared.nodes.EdgeNode.{EdgeNode}
use Rattle.node_arena.specs.declared.nodes.IntervalNode.{IntervalNode}
use Rattle.node_arena.specs.declared.nodes.ModuleNode.{ModuleNode}
use Rattle.node_arena.specs.declared.nodes.NodePayload.{NodePayload}
use Rattle.node_arena.specs.declared.nodes.NodePayload.TheVariants as payloads
use Rattle.node_arena.specs.declared.nodes.SectionNode.{SectionNode}
use Rattle.node_arena.specs.declared.nodes.SymbolNode.{SymbolNode}
use Rattle.node_arena.specs.Arenas.{Arenas, module_at, section_at, interval_at}
use Rattle.node_arena.specs.Sound.{Live, ref_id}

-- the graph with another node of an identifier
abbrev pub with_module : Arenas → ModuleId → ModuleNode → Arenas
with_module g id n = record g { modules = slice_set g.modules id.index n }

abbrev pub with_section : Arenas → SectionId → SectionNode → Arenas
with_section g id n = record g { sections = slice_set g.sections id.index n }

abbrev pub with_interval : Arenas → IntervalId → IntervalNode → Arenas
with_interval g id n = record g { intervals = slice_set g.intervals id.index n }

abbrev pub with_block : Arenas → BlockId → BlockNode → Arenas
with_block g id n = record g { blocks = slice_set g.blocks id.index n }

abbrev pub with_symbol : Arenas → SymbolId → SymbolNode → Arenas
with_symbol g id n = record g { symbols = slice_set g.symbols id.index n }

abbrev pub with_edge : Arenas → EdgeId → EdgeNode → Arenas
with_edge g id n = record g { edges = slice_set g.edges id.index n }

-- the body of another size
abbrev pub sized : Body → ℕ → Body
sized bodies.Bare size = bodies.Bare
sized (bodies.Code uuid old decode_mode) size = bodies.Code uuid size decode_mode
sized (bodies.Data uuid old) size = bodies.Data uuid size

-- the tables, where the first of the name has other bytes
abbrev pub with_table : List Aux → List ℕ → List ℕ → List Aux
with_table [] name bytes = []
with_table (a ∷ rest) name bytes = if bytes_eq a.name name then record a { bytes = bytes } ∷ rest else a ∷ with_table rest name bytes

-- the edges without one, and without those that a list names
abbrev pub without_edge : EdgeId → List EdgeId → List EdgeId
without_edge gone live = filter (λ (id : EdgeId). not (id.index == gone.index)) live

abbrev pub without_edges : List EdgeId → List EdgeId → List EdgeId
without_edges gone live = filter (λ (id : EdgeId). not (list_any (λ (x : EdgeId). x.index == id.index) gone)) live

-- the graph with one more edge, which is the last
abbrev pub edge_added : Arenas → EdgeNode → Arenas
edge_added g n = record g { edges = g.edges ++ n ∷ []; live = g.live ++ record { index = length g.edges } ∷ []; has_cfg = true }

-- no node holds the identifier, and some node does
abbrev pub IsFree : Arenas → List ℕ → Type 0
IsFree g id = (r : NodeRef) → Live g r → ref_id g r ≢ id

abbrev pub IsHeld : Arenas → List ℕ → Type 0
IsHeld g id = (r : NodeRef) × Live g r × (ref_id g r ≡ id)

-- of a payload that is no referent
abbrev pub loose_payload : Payload → NodePayload
loose_payload plain.Nothing = payloads.Nothing
loose_payload (plain.Value value) = payloads.Value value
loose_payload (plain.Referent id) = payloads.Nothing

abbrev pub loose_symbol : ModuleId → Symbol → SymbolNode
loose_symbol m s = record { uuid = s.uuid; name = s.name; at_end = s.at_end; payload = loose_payload s.payload; «module» = m }

-- the graph with one more node, which is the last of its parent
abbrev pub symbol_added : Arenas → SymbolNode → Arenas
symbol_added g s =
    let n = module_at g s.module in
    record (with_module g s.module (record n { symbols = n.symbols ++ record { index = length g.symbols } ∷ [] })) { symbols = g.symbols ++ s ∷ [] }

abbrev pub empty_interval : SectionId → List ℕ → IntervalNode
empty_interval s uuid = record { uuid = uuid; has_address = false; address = 0; size = 0; contents = []; exprs = []; blocks = []; section = s }

abbrev pub interval_added : Arenas → IntervalNode → Arenas
interval_added g i =
    let n = section_at g i.section in
    record (with_section g i.section (record n { intervals = n.intervals ++ record { index = length g.intervals } ∷ [] })) { intervals = g.intervals ++ i ∷ [] }

-- an identifier after the named one, else last
abbrev pub placed_after : List BlockId → Option BlockId → BlockId → List BlockId
placed_after [] after id = id ∷ []
placed_after (b ∷ bs) None id = b ∷ placed_after bs None id
placed_after (b ∷ bs) (Some after) id = if b.index == after.index then b ∷ id ∷ bs else b ∷ placed_after bs (Some after) id

abbrev pub new_block : IntervalId → ℕ → Body → BlockNode
new_block i offset body = record { offset = offset; body = body; interval = i }

abbrev pub block_added : Arenas → Option BlockId → BlockNode → Arenas
block_added g after b =
    let n = interval_at g b.interval in
    record (with_interval g b.interval (record n { blocks = placed_after n.blocks after (record { index = length g.blocks }) })) { blocks = g.blocks ++ b ∷ [] }

-- the same identifiers in some order, each once
pub record Reordered (old new : List BlockId) : Type 0 where
  pub kept : (id : BlockId) → Contains old id → Contains new id
  pub from : (id : BlockId) → Contains new id → Contains old id
  pub apart : AllPairs (λ (a b : BlockId). a ≢ b) new
