-- The symbols of a function's labels, line by line.
use Rattle.std.specs.Prelude.{ℕ, ◌+◌, true, nat_lt, if◌then◌else◌, List, [], ◌∷◌, length}
use Rattle.std.specs.List.{filter_map, flat_map}
use Rattle.std.specs.Option.{option_map}
use Rattle.gt_model.specs.declared.modules.Module.{Module}
use Rattle.gt_model.specs.declared.symbols.Symbol.{Symbol}
use Rattle.new_symbols.specs.declared.names.Begun.{Begun}
use Rattle.rewrite.specs.Symbols.{name_symbol}
use Rattle.sym_expr.specs.declared.patches.FunLine.{FunLine}
use Rattle.sym_expr.specs.declared.patches.FunLine.TheVariants as lines
use Rattle.sym_expr.specs.declared.patches.Function.{Function}
use Rattle.sym_expr.specs.Patches.{FunPlace, Start, End, function_blocks, is_control, label_in}
use Rattle.sym_expr.specs.TableOk.{line_labels}

-- the start of the k-th block of a function, or the end where it has no more
abbrev pub place_of : Function → ℕ → FunPlace
place_of f k = if nat_lt k (length (function_blocks f)) then Start k else End

-- the symbol of a line's label, behind which the k-th block begins, if it is one
abbrev pub line_symbols : Module → Function → ℕ → FunLine → List Symbol
line_symbols m f k (lines.Label name) = name_symbol m f name (place_of f k) ∷ []
line_symbols m f k (lines.Word w) = []

-- the symbols of all labels
abbrev pub label_symbols : Module → Function → List Symbol
label_symbols m f = filter_map (λ name. option_map (name_symbol m f name) (label_in name 0 true f.body)) (flat_map line_labels f.body)

-- one line further: how many blocks began, and whether the next word begins one
abbrev pub next_begun : Begun → FunLine → Begun
next_begun b (lines.Label name) = record { count = b.count; fresh = true }
next_begun b (lines.Word w) = record { count = if b.fresh then b.count + 1 else b.count; fresh = is_control w.word }
