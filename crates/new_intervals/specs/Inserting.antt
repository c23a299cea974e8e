-- What the words bring that are inserted in blocks.
use Rattle.std.specs.Prelude.{ℕ, Bool, ◌==◌, not, List, [], length, filter, map, Option, unwrap_or}
use Rattle.std.specs.List.{flat_map}
use Rattle.std.specs.Str.{bytes_eq}
use Rattle.block_parts.specs.Words.{patched_words}
use Rattle.gt_model.specs.declared.exprs.Expr.{Expr}
use Rattle.gt_model.specs.declared.exprs.ExprValue.{ExprValue}
use Rattle.gt_model.specs.declared.intervals.Block.{Block}
use Rattle.gt_model.specs.declared.modules.Module.{Module}
use Rattle.indexmap.specs.IndexMap.{get}
use Rattle.new_intervals.specs.Bringing.{brought_values, word_value}
use Rattle.new_intervals.specs.declared.inserts.Inserts.{Inserts}
use Rattle.sym_expr.specs.declared.patches.Insert.{Insert}
use Rattle.sym_expr.specs.declared.program.Piece.{Piece}
use Rattle.sym_expr.specs.declared.program.Piece.TheVariants.{Code as CodePiece, Data as DataPiece, Gap}
use Rattle.sym_expr.specs.Modules.{id_of}
use Rattle.sym_expr.specs.Placing.{Placed}

-- of some inserts in a block, in the order of the patches
abbrev pub values_among : Module → List Insert → List ℕ → List (Option ExprValue)
values_among m inserts block = flat_map (λ (i : Insert). map (word_value m) i.body) (filter (λ (i : Insert). bytes_eq i.block block) inserts)

-- of all in a block, as an index has it
abbrev pub values_in : Inserts → List ℕ → List (Option ExprValue)
values_in n block = unwrap_or (get bytes_eq n.values block) []

-- words are inserted in the block
abbrev pub is_grown : Inserts → Block → Bool
is_grown n b = not (length (values_in n (id_of b)) == 0)

-- what the words of a piece bring
abbrev pub brought_by : Inserts → Placed → List Expr
brought_by n x = of_piece x.piece
  where
    of_piece : Piece → List Expr
    of_piece (CodePiece b) = brought_values (values_in n b.id) x.at (patched_words b)
    of_piece (DataPiece b) = []
    of_piece (Gap bytes) = []
