-- Identifiers in a rewritten module: those of parts of blocks, and of symbols.
use Rattle.std.specs.Prelude.{ℕ, ◌==◌, if◌then◌else◌, List, [], ◌∷◌}
use Rattle.block_parts.specs.declared.parts.Part.{Part}
use Rattle.block_parts.specs.Parts.{part}
use Rattle.gt_model.specs.declared.modules.Module.{Module}
use Rattle.sym_expr.specs.declared.patches.SymbolName.{SymbolName}
use Rattle.sym_expr.specs.declared.patches.SymbolName.TheVariants as names
use Rattle.sym_expr.specs.Derived.{derived, part_text, symbol_text}

-- the first part of a block keeps its identifier, each later one has its own
abbrev pub part_id : Module → List ℕ → Part → List ℕ
part_id m block q = if q.start == 0 then block else derived m.uuid (part_text block q.start)

-- the last of several parts
abbrev pub last_part : List Part → Part
last_part [] = part 0 []
last_part (q ∷ []) = q
last_part (q ∷ next ∷ rest) = last_part (next ∷ rest)

-- the symbol of a name that patches bring
abbrev pub new_symbol_id : Module → List ℕ → List ℕ
new_symbol_id m name = derived m.uuid (symbol_text name)

-- the symbol that a word of the patches names
abbrev pub symbol_id : Module → SymbolName → List ℕ
symbol_id m (names.Old id) = id
symbol_id m (names.New name) = new_symbol_id m name
