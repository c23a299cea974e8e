-- Functions cut line by line: the last words of their blocks, the ends of these, and their identifiers.
use Rattle.std.specs.Prelude.{ℕ, zero, suc, ◌+◌, Bool, true, nat_lt, if◌then◌else◌, List, [], ◌∷◌, ◌++◌, length, Option, Some, None}
use Rattle.std.specs.List.{flat_map}
use Rattle.std.specs.Option.{option_to_list}
use Rattle.gt_model.specs.declared.edges.Edge.{Edge}
use Rattle.gt_model.specs.declared.modules.Module.{Module}
use Rattle.new_edges.specs.declared.new_end.LastWord.{LastWord}
use Rattle.new_edges.specs.declared.functions.Lasts.{Lasts}
use Rattle.new_edges.specs.declared.new_end.NewEnd.{NewEnd}
use Rattle.new_edges.specs.NewEnds.{branch_of, edges_of}
use Rattle.sym_expr.specs.declared.patches.FunLine.{FunLine}
use Rattle.sym_expr.specs.declared.patches.FunLine.TheVariants as lines
use Rattle.sym_expr.specs.declared.patches.Function.{Function}
use Rattle.sym_expr.specs.declared.patches.PatchTable.{PatchTable}
use Rattle.sym_expr.specs.declared.patches.PatchWord.{PatchWord}
use Rattle.sym_expr.specs.Patches.{is_control}
use Rattle.sym_expr.specs.Targets.{function_block_id}

abbrev pub last_seen : Module → PatchTable → PatchWord → LastWord
last_seen m p w = record { word = w.word; branch = branch_of m p w }

-- the last words that come yet: of the block that isn't whole, where another begins or behind all lines
abbrev pub lasts_yet : Module → PatchTable → Option LastWord → Bool → List FunLine → List LastWord
lasts_yet m p last fresh [] = option_to_list last
lasts_yet m p last fresh (lines.Label name ∷ rest) = lasts_yet m p last true rest
lasts_yet m p last fresh (lines.Word w ∷ rest) = (if fresh then option_to_list last else []) ++ lasts_yet m p (Some (last_seen m p w)) (is_control w.word) rest

-- all of them: those so far, and those that come of these lines
abbrev pub all_lasts : Module → PatchTable → Lasts → List FunLine → List LastWord
all_lasts m p x rest = x.whole.items ++ lasts_yet m p x.last x.fresh rest

-- the end of the k-th block of a function that has so many
abbrev pub new_end : Module → Function → ℕ → ℕ → LastWord → NewEnd
new_end m f count k l = record {
  id = function_block_id m f k;
  word = Some l.word;
  branch = l.branch;
  next = if nat_lt (k + 1) count then Some (function_block_id m f (k + 1)) else None;
}

-- those of the blocks from the k-th on
abbrev pub ends_from : Module → Function → ℕ → ℕ → List LastWord → List NewEnd
ends_from m f count k [] = []
ends_from m f count k (l ∷ ls) = new_end m f count k l ∷ ends_from m f count (k + 1) ls

-- the last words of the blocks of a function
abbrev pub lasts_of : Module → PatchTable → Function → List LastWord
lasts_of m p f = lasts_yet m p None true f.body

abbrev pub function_edges : Module → PatchTable → Function → List Edge
function_edges m p f = flat_map edges_of (ends_from m f (length (lasts_of m p f)) 0 (lasts_of m p f))

-- so many blocks of a function, from the k-th on
abbrev pub block_ids : Module → Function → ℕ → ℕ → List (List ℕ)
block_ids m f k zero = []
block_ids m f k (suc n) = function_block_id m f k ∷ block_ids m f (suc k) n

abbrev pub function_ids : Module → PatchTable → Function → List (List ℕ)
function_ids m p f = block_ids m f 0 (length (lasts_of m p f))
