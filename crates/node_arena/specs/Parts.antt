-- Identifiers of nodes of the graph, as the lists of a node hold them.
use Rattle.std.specs.Prelude.{List}
use Rattle.std.specs.List.{AllByRecursion}
use Rattle.node_arena.specs.declared.ids.BlockId.{BlockId}
use Rattle.node_arena.specs.declared.ids.IntervalId.{IntervalId}
use Rattle.node_arena.specs.declared.ids.NodeRef.TheVariants as refs
use Rattle.node_arena.specs.declared.ids.ProxyId.{ProxyId}
use Rattle.node_arena.specs.declared.ids.SectionId.{SectionId}
use Rattle.node_arena.specs.declared.ids.SymbolId.{SymbolId}
use Rattle.node_arena.specs.declared.nodes.NodePayload.{NodePayload}
use Rattle.node_arena.specs.declared.nodes.NodePayload.TheVariants as payloads
use Rattle.node_arena.specs.Arenas.{Arenas}
use Rattle.node_arena.specs.Sound.{Live}

-- all are of nodes of the graph, of each kind
abbrev pub live_blocks : Arenas → List BlockId → Type 0
live_blocks g ids = AllByRecursion (λ id. Live g (refs.Block id)) ids

abbrev pub live_intervals : Arenas → List IntervalId → Type 0
live_intervals g ids = AllByRecursion (λ id. Live g (refs.Interval id)) ids

abbrev pub live_sections : Arenas → List SectionId → Type 0
live_sections g ids = AllByRecursion (λ id. Live g (refs.Section id)) ids

abbrev pub live_symbols : Arenas → List SymbolId → Type 0
live_symbols g ids = AllByRecursion (λ id. Live g (refs.Symbol id)) ids

abbrev pub live_proxies : Arenas → List ProxyId → Type 0
live_proxies g ids = AllByRecursion (λ id. Live g (refs.Proxy id)) ids

-- what a symbol stands for is of the graph
abbrev pub LivePayload : Arenas → NodePayload → Type 0
LivePayload g payloads.Nothing = Unit {0}
LivePayload g (payloads.Value value) = Unit {0}
LivePayload g (payloads.Block id) = Live g (refs.Block id)
LivePayload g (payloads.Proxy id) = Live g (refs.Proxy id)
