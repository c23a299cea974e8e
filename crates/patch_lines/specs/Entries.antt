-- Symbols and blocks as entries by their identifiers.
use Rattle.std.specs.Prelude.{ℕ, List}
use Rattle.gt_model.specs.declared.intervals.Block.{Block}
use Rattle.gt_model.specs.declared.symbols.Payload.{Payload}
use Rattle.gt_model.specs.declared.symbols.Symbol.{Symbol}
use Rattle.sym_expr.specs.Modules.{id_of}

abbrev pub symbol_entry : Symbol → List ℕ × Payload
symbol_entry s = (s.uuid, s.payload)

abbrev pub block_entry : Block → List ℕ × Block
block_entry b = (id_of b, b)
