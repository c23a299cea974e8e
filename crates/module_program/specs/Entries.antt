-- Blocks and symbols as entries by their identifiers.
use Rattle.std.specs.Prelude.{ℕ, List, Option}
use Rattle.gt_model.specs.declared.intervals.Block.{Block}
use Rattle.gt_model.specs.declared.symbols.Symbol.{Symbol}
use Rattle.sym_expr.specs.declared.target.Target.{Target}
use Rattle.sym_expr.specs.Modules.{id_of}
use Rattle.module_program.specs.Naming.{symbol_base}

abbrev pub block_entry : Block → List ℕ × Block
block_entry b = (id_of b, b)

-- with what the symbol names
abbrev pub symbol_entry : (List ℕ → ℕ → ℕ) → (List ℕ → Option Block) → Symbol → List ℕ × Target
symbol_entry count found s = (s.uuid, symbol_base count found s)
