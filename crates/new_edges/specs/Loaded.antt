-- Loaded blocks and symbols by their identifiers.
use Rattle.std.specs.Prelude.{◌≡◌, ℕ, List, Option, find}
use Rattle.std.specs.Str.{bytes_eq}
use Rattle.indexmap.specs.IndexMap.{get}
use Rattle.edge_repair.specs.Ends.{symbol_start}
use Rattle.gt_model.specs.declared.intervals.Block.{Block}
use Rattle.gt_model.specs.declared.modules.Module.{Module}
use Rattle.gt_model.specs.declared.symbols.Symbol.{Symbol}
use Rattle.new_edges.specs.declared.symbols.Loaded.{Loaded}
use Rattle.sym_expr.specs.Modules.{block_of, blocks_of, id_of, loaded_intervals}

abbrev pub block_entry : Block → List ℕ × Block
block_entry b = (id_of b, b)

-- with the block at whose start the symbol is
abbrev pub symbol_entry : Module → Symbol → List ℕ × Option (List ℕ)
symbol_entry m s = (s.uuid, symbol_start m s)

-- the symbol of an identifier
abbrev pub symbol_of : List ℕ → List Symbol → Option Symbol
symbol_of id symbols = find (λ (s : Symbol). bytes_eq s.uuid id) symbols

-- the blocks are those of the module's loaded sections
abbrev pub KnowsBlocks : Loaded → Type 0
KnowsBlocks l = (id : List ℕ) → get bytes_eq l.blocks id ≡ block_of id (blocks_of (loaded_intervals l.module.now))
