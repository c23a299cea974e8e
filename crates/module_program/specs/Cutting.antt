-- A function of patches, cut into blocks line by line; and the points of the names that it brings.
use Rattle.std.specs.Prelude.{ℕ, suc, ◌+◌, ◌-◌, ◌*◌, Bool, true, nat_lt, if◌then◌else◌, List, [], ◌∷◌, find, Option}
use Rattle.std.specs.List.{flat_map}
use Rattle.std.specs.Option.{option_map}
use Rattle.std.specs.Str.{bytes_eq}
use Rattle.gt_model.specs.declared.modules.Module.{Module}
use Rattle.module_program.specs.declared.cut.Cut.{Cut}
use Rattle.sym_expr.specs.declared.patches.FunLine.{FunLine}
use Rattle.sym_expr.specs.declared.patches.FunLine.TheVariants as lines
use Rattle.sym_expr.specs.declared.patches.Function.{Function}
use Rattle.sym_expr.specs.declared.point.Point.{Point}
use Rattle.sym_expr.specs.Patches.{is_control}
use Rattle.sym_expr.specs.Targets.{function_block_id, point, start_of}

-- before the first line
abbrev pub first_cut : Cut
first_cut = record { blocks = 0; last = 0; fresh = true }

-- one line further
abbrev pub next_cut : Cut → FunLine → Cut
next_cut c (lines.Label name) = record { blocks = c.blocks; last = c.last; fresh = true }
next_cut c (lines.Word w) = record {
  blocks = if c.fresh then c.blocks + 1 else c.blocks;
  last = if c.fresh then 1 else c.last + 1;
  fresh = is_control w.word;
}

-- behind all lines
abbrev pub cut_behind : Cut → List FunLine → Cut
cut_behind c [] = c
cut_behind c (line ∷ rest) = cut_behind (next_cut c line) rest

-- how the whole function is cut
abbrev pub whole_cut : Function → Cut
whole_cut f = cut_behind first_cut f.body

-- the point of a label behind which the k-th block begins, or none
abbrev pub label_point : Module → Function → ℕ → Point
label_point m f k =
    let whole = whole_cut f in
    if nat_lt k whole.blocks then start_of (function_block_id m f k) else point (function_block_id m f (whole.blocks - 1)) (4 * whole.last) 0

-- the labels among lines, with their points
abbrev pub label_entries : Module → Function → Cut → List FunLine → List (List ℕ × Point)
label_entries m f c [] = []
label_entries m f c (lines.Label name ∷ rest) = (name, label_point m f c.blocks) ∷ label_entries m f (next_cut c (lines.Label name)) rest
label_entries m f c (lines.Word w ∷ rest) = label_entries m f (next_cut c (lines.Word w)) rest

-- the names that a function brings: its own, and its labels
abbrev pub name_entries : Module → Function → List (List ℕ × Point)
name_entries m f = (f.name, start_of (function_block_id m f 0)) ∷ label_entries m f first_cut f.body

-- the point of a name, the first where there are several
abbrev pub point_in : List ℕ → List (List ℕ × Point) → Option Point
point_in name entries = option_map (λ (e : List ℕ × Point). e.1) (find (λ (e : List ℕ × Point). bytes_eq name e.0) entries)

-- the same among the names of functions
abbrev pub point_among : Module → List Function → List ℕ → Option Point
point_among m functions name = point_in name (flat_map (name_entries m) functions)
