-- The expressions of an interval once words are inserted: old ones move with their bytes, inserted words bring theirs.
use Rattle.std.specs.Prelude.{ℕ, ◌+◌, nat_lt, if◌then◌else◌, List, [], ◌∷◌, ◌++◌, map, Option, Some, None, slice_get}
use Rattle.std.specs.List.{flat_map}
use Rattle.std.specs.Option.{option_map, option_and_then, option_to_list}
use Rattle.block_parts.specs.declared.words.Origin.{Origin}
use Rattle.block_parts.specs.declared.words.Origin.TheVariants.{Own, Inserted}
use Rattle.block_parts.specs.declared.words.PatchedWord.{PatchedWord}
use Rattle.block_parts.specs.Words.{patched_words}
use Rattle.gt_model.specs.declared.exprs.Expr.{Expr}
use Rattle.gt_model.specs.declared.exprs.ExprValue.TheVariants as values
use Rattle.gt_model.specs.declared.intervals.Interval.{Interval}
use Rattle.gt_model.specs.declared.modules.Module.{Module}
use Rattle.rewrite.specs.Identifiers.{symbol_id}
use Rattle.rewrite.specs.Offsets.{new_offset}
use Rattle.sym_expr.specs.declared.patches.PatchTable.{PatchTable}
use Rattle.sym_expr.specs.declared.patches.PatchTarget.{PatchTarget}
use Rattle.sym_expr.specs.declared.patches.PatchWord.{PatchWord}
use Rattle.sym_expr.specs.declared.program.Piece.{Piece}
use Rattle.sym_expr.specs.declared.program.Piece.TheVariants.{Code as CodePiece, Data as DataPiece, Gap}
use Rattle.sym_expr.specs.declared.program.Stretch.{Stretch}
use Rattle.sym_expr.specs.Patches.{inserted_in}
use Rattle.sym_expr.specs.Placing.{Placed, placed}

-- an old expression at the new offset of its byte
abbrev pub moved_expr : Stretch → Expr → Expr
moved_expr s e = record e { at = new_offset s e.at }

-- the expression of a target at an offset
abbrev pub target_expr : Module → ℕ → PatchTarget → Expr
target_expr m at t = record { at = at; value = values.AddrConst t.offset (Some (symbol_id m t.symbol)); flags = [] }

-- what a word of the patches brings
abbrev pub patch_expr : Module → ℕ → PatchWord → Option Expr
patch_expr m at w = option_map (target_expr m at) w.target

-- what a word of a block brings, where these are inserted in the block
abbrev pub origin_expr : Module → List PatchWord → ℕ → Origin → Option Expr
origin_expr m news at (Own offset) = None
origin_expr m news at (Inserted k) = option_and_then (patch_expr m at) (slice_get news k)

-- what words bring that stand one behind the other from an offset on
abbrev pub brought_from : Module → List PatchWord → ℕ → List PatchedWord → List Expr
brought_from m news at [] = []
brought_from m news at (w ∷ ws) = option_to_list (origin_expr m news at w.origin) ++ brought_from m news (at + 4) ws

-- the words that are inserted in a block, in the order of the patches
abbrev pub news_of : PatchTable → List ℕ → List PatchWord
news_of p block = map (λ (w : ℕ × PatchWord). w.1) (inserted_in p block)

-- what the words of a piece bring
abbrev pub brought_in : Module → PatchTable → ℕ → Piece → List Expr
brought_in m p at (CodePiece b) = brought_from m (news_of p b.id) at (patched_words b)
brought_in m p at (DataPiece b) = []
brought_in m p at (Gap bytes) = []

-- an expression among others by their offsets
abbrev pub put_by_offset : Expr → List Expr → List Expr
put_by_offset e [] = e ∷ []
put_by_offset e (first ∷ rest) = if nat_lt first.at e.at then first ∷ put_by_offset e rest else e ∷ first ∷ rest

abbrev pub by_offset : List Expr → List Expr
by_offset [] = []
by_offset (e ∷ es) = put_by_offset e (by_offset es)

-- the old ones and those that are brought, by their offsets
abbrev pub new_exprs : Module → PatchTable → Interval → Stretch → List Expr
new_exprs m p i s = by_offset (map (moved_expr s) i.exprs ++ flat_map (λ (x : Placed). brought_in m p x.at x.piece) (placed s))
