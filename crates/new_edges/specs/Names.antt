-- Functions of patches walked line by line, and the blocks at whose starts their names are.
use Rattle.std.specs.Prelude.{ℕ, suc, ◌+◌, ◌-◌, ◌==◌, Bool, true, if◌then◌else◌, List, [], ◌∷◌, ◌++◌, find, Option}
use Rattle.std.specs.List.{flat_map}
use Rattle.std.specs.Option.{option_map}
use Rattle.std.specs.Str.{bytes_eq}
use Rattle.gt_model.specs.declared.modules.Module.{Module}
use Rattle.new_edges.specs.declared.names.Walk.{Walk}
use Rattle.sym_expr.specs.declared.patches.FunLine.{FunLine}
use Rattle.sym_expr.specs.declared.patches.FunLine.TheVariants as lines
use Rattle.sym_expr.specs.declared.patches.Function.{Function}
use Rattle.sym_expr.specs.Patches.{is_control}
use Rattle.sym_expr.specs.Targets.{function_block_id}

-- how many of the lines are words
abbrev pub word_count : List FunLine → ℕ
word_count [] = 0
word_count (lines.Label name ∷ rest) = word_count rest
word_count (lines.Word w ∷ rest) = suc (word_count rest)

-- before the first line
abbrev pub first_walk : Function → Walk
first_walk f = record { blocks = 0; fresh = true; left = word_count f.body }

-- one line further
abbrev pub next_walk : Walk → FunLine → Walk
next_walk x (lines.Label name) = record { blocks = x.blocks; fresh = true; left = x.left }
next_walk x (lines.Word w) = record { blocks = if x.fresh then x.blocks + 1 else x.blocks; fresh = is_control w.word; left = x.left - 1 }

-- a label that words follow is at the start of the block that begins there
abbrev pub label_entry : Module → Function → Walk → List ℕ → List (List ℕ × List ℕ)
label_entry m f x name = if x.left == 0 then [] else (name, function_block_id m f x.blocks) ∷ []

-- the labels among lines that words follow, with their blocks
abbrev pub label_entries : Module → Function → Walk → List FunLine → List (List ℕ × List ℕ)
label_entries m f x [] = []
label_entries m f x (lines.Label name ∷ rest) = label_entry m f x name ++ label_entries m f (next_walk x (lines.Label name)) rest
label_entries m f x (lines.Word w ∷ rest) = label_entries m f (next_walk x (lines.Word w)) rest

-- the names that a function brings: its own, and its labels
abbrev pub name_entries : Module → Function → List (List ℕ × List ℕ)
name_entries m f = (f.name, function_block_id m f 0) ∷ label_entries m f (first_walk f) f.body

-- the block of a name, the first where there are several
abbrev pub start_in : List ℕ → List (List ℕ × List ℕ) → Option (List ℕ)
start_in name entries = option_map (λ (e : List ℕ × List ℕ). e.1) (find (λ (e : List ℕ × List ℕ). bytes_eq name e.0) entries)

-- the same among the names of functions
abbrev pub start_among : Module → List Function → List ℕ → Option (List ℕ)
start_among m functions name = start_in name (flat_map (name_entries m) functions)
