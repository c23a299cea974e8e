-- A graph as it is stored: the nodes in vectors, and the index.
use Rattle.std.specs.Prelude.{◌≡◌, ℕ, Some, false, List}
use Rattle.std.specs.declared.hash.FoldHasher.{FoldHasher}
use Rattle.std.specs.declared.hash.BuildHasherDefault.{BuildHasherDefault}
use Rattle.std.specs.Str.{bytes_eq}
use Rattle.indexmap.specs.IndexMap.{IndexMap, get}
use Rattle.node_arena.specs.declared.arena.Arena.{Arena}
use Rattle.node_arena.specs.declared.ids.NodeRef.{NodeRef}
use Rattle.node_arena.specs.Arenas.{Arenas}
use Rattle.node_arena.specs.Sound.{sound, Finds, ref_id}

abbrev pub arenas_of : Arena → Arenas
arenas_of a = record {
  uuid = a.uuid;
  version = a.version;
  aux = a.aux;
  modules = a.modules.items;
  sections = a.sections.items;
  intervals = a.intervals.items;
  blocks = a.blocks.items;
  symbols = a.symbols.items;
  proxies = a.proxies.items;
  edges = a.edges.items;
  live = a.live.items;
  vertices = a.vertices.items;
  has_cfg = a.has_cfg;
}

abbrev pub Index : Type 0
Index = IndexMap (List ℕ) NodeRef (BuildHasherDefault FoldHasher)

-- the entry of a node
abbrev pub entry_of : Arenas → NodeRef → List ℕ × NodeRef
entry_of g r = (ref_id g r, r)

-- the index finds the nodes, and the graph is sound
pub record Holds (a : Arena) (index : Index) : Type 0 where
  pub sound : sound (arenas_of a)
  pub finds : Finds (arenas_of a) (get bytes_eq index)

-- one more identifier is found
pub record FindsAlso (old new : Index) (id : List ℕ) (r : NodeRef) : Type 0 where
  pub hit : get bytes_eq new id ≡ Some r
  pub miss : (other : List ℕ) → bytes_eq id other ≡ false → get bytes_eq new other ≡ get bytes_eq old other
