-- The nodes of an IR, in order: each identifier, and what it stands for.
use Rattle.std.specs.Prelude.{ℕ, ◌+◌, List, [], ◌∷◌, ◌++◌, map}
use Rattle.std.specs.List.{flat_map}
use Rattle.gt_model.specs.declared.intervals.Block.{Block}
use Rattle.gt_model.specs.declared.intervals.Body.{Body}
use Rattle.gt_model.specs.declared.intervals.Body.TheVariants as bodies
use Rattle.gt_model.specs.declared.intervals.Interval.{Interval}
use Rattle.gt_model.specs.declared.ir.Ir.{Ir}
use Rattle.gt_model.specs.declared.modules.Module.{Module}
use Rattle.gt_model.specs.declared.modules.Section.{Section}
use Rattle.gt_model.specs.declared.symbols.Symbol.{Symbol}

-- what a node is; of one that references reach, also the ordinal of its module
pub data Kind : Type 0 where
  TheIr : Kind
  AModule : Kind
  ASection : Kind
  AnInterval : Kind
  AProxy : ℕ → Kind
  ASymbol : ℕ → Kind
  CodeBlock : ℕ → Kind
  DataBlock : ℕ → Kind

pub record Node : Type 0 where
  pub id : List ℕ
  pub kind : Kind

abbrev pub node : List ℕ → Kind → Node
node id kind = record { id = id; kind = kind }

-- a bare block has no identifier, and is no node
abbrev pub body_nodes : ℕ → Body → List Node
body_nodes m bodies.Bare = []
body_nodes m (bodies.Code uuid size decode_mode) = node uuid (CodeBlock m) ∷ []
body_nodes m (bodies.Data uuid size) = node uuid (DataBlock m) ∷ []

abbrev pub block_nodes : ℕ → Block → List Node
block_nodes m b = body_nodes m b.body

abbrev pub interval_nodes : ℕ → Interval → List Node
interval_nodes m i = node i.uuid AnInterval ∷ flat_map (block_nodes m) i.blocks

abbrev pub section_nodes : ℕ → Section → List Node
section_nodes m s = node s.uuid ASection ∷ flat_map (interval_nodes m) s.intervals

-- the module of an ordinal: itself, its proxies, symbols and sections
abbrev pub module_nodes : ℕ → Module → List Node
module_nodes m x =
    node x.uuid AModule ∷ map (λ id. node id (AProxy m)) x.proxies ++ map (λ (s : Symbol). node s.uuid (ASymbol m)) x.symbols
    ++ flat_map (section_nodes m) x.sections

-- modules, of which the first has the ordinal m
abbrev pub nodes_from : ℕ → List Module → List Node
nodes_from m [] = []
nodes_from m (x ∷ xs) = module_nodes m x ++ nodes_from (m + 1) xs

abbrev pub nodes : Ir → List Node
nodes ir = node ir.uuid TheIr ∷ nodes_from 0 ir.modules

abbrev pub ids : List Node → List (List ℕ)
ids ns = map (λ (n : Node). n.id) ns
