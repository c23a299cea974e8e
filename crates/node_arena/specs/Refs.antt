-- The nodes of a graph in order, as references.
use Rattle.std.specs.Prelude.{ℕ, ◌+◌, List, [], ◌∷◌, ◌++◌, map, if◌then◌else◌}
use Rattle.std.specs.List.{flat_map}
use Rattle.gt_model.specs.declared.intervals.Body.{Body}
use Rattle.gt_model.specs.declared.intervals.Body.TheVariants as bodies
use Rattle.gt_model.specs.Nodes.{Kind, TheIr, AModule, ASection, AnInterval, AProxy, ASymbol, CodeBlock, DataBlock, Node, node}
use Rattle.node_arena.specs.declared.ids.BlockId.{BlockId}
use Rattle.node_arena.specs.declared.ids.IntervalId.{IntervalId}
use Rattle.node_arena.specs.declared.ids.NodeRef.{NodeRef}
use Rattle.node_arena.specs.declared.ids.NodeRef.TheVariants as refs
use Rattle.node_arena.specs.declared.ids.SectionId.{SectionId}
use Rattle.node_arena.specs.declared.nodes.ModuleNode.{ModuleNode}
use Rattle.node_arena.specs.Arenas.{Arenas, interval_at, section_at, block_at, symbol_at, proxy_at}
use Rattle.node_arena.specs.Sound.{is_bare_at, ref_id, module_of_block}

-- a bare block is no node
abbrev pub block_refs : Arenas → BlockId → List NodeRef
block_refs g id = if is_bare_at g id then [] else refs.Block id ∷ []

abbrev pub interval_refs : Arenas → IntervalId → List NodeRef
interval_refs g id = refs.Interval id ∷ flat_map (block_refs g) (interval_at g id).blocks

abbrev pub section_refs : Arenas → SectionId → List NodeRef
section_refs g id = refs.Section id ∷ flat_map (interval_refs g) (section_at g id).intervals

abbrev pub module_refs : Arenas → ℕ → ModuleNode → List NodeRef
module_refs g m n =
    refs.Module (record { index = m }) ∷ map (λ id. refs.Proxy id) n.proxies ++ map (λ id. refs.Symbol id) n.symbols
    ++ flat_map (section_refs g) n.sections

-- of modules, of which the first has the place m
abbrev pub refs_from : Arenas → ℕ → List ModuleNode → List NodeRef
refs_from g m [] = []
refs_from g m (n ∷ ns) = module_refs g m n ++ refs_from g (m + 1) ns

abbrev pub all_refs : Arenas → List NodeRef
all_refs g = refs.Ir ∷ refs_from g 0 g.modules

-- what a block is, by its body and the place of its module
abbrev pub block_kind : ℕ → Body → Kind
block_kind m bodies.Bare = DataBlock m
block_kind m (bodies.Code uuid size decode_mode) = CodeBlock m
block_kind m (bodies.Data uuid size) = DataBlock m

-- what a node is
abbrev pub ref_kind : Arenas → NodeRef → Kind
ref_kind g refs.Ir = TheIr
ref_kind g (refs.Module id) = AModule
ref_kind g (refs.Section id) = ASection
ref_kind g (refs.Interval id) = AnInterval
ref_kind g (refs.Block id) = block_kind (module_of_block g id) (block_at g id).body
ref_kind g (refs.Symbol id) = ASymbol (symbol_at g id).module.index
ref_kind g (refs.Proxy id) = AProxy (proxy_at g id).module.index

abbrev pub ref_node : Arenas → NodeRef → Node
ref_node g r = node (ref_id g r) (ref_kind g r)
