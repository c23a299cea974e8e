-- The table that lines of patch text give.
use Rattle.std.specs.Prelude.{ℕ, ℤ, Bool, true, false, if◌then◌else◌, Option, Some, None, Result, Ok, Err, List, [], ◌∷◌, ◌++◌}
use Rattle.std.specs.Option.{option_and_then}
use Rattle.gt_model.specs.declared.modules.Module.{Module}
use Rattle.sym_expr.specs.declared.patches.FunLine.{FunLine}
use Rattle.sym_expr.specs.declared.patches.FunLine.TheVariants as funs
use Rattle.sym_expr.specs.declared.patches.Function.{Function}
use Rattle.sym_expr.specs.declared.patches.Insert.{Insert}
use Rattle.sym_expr.specs.declared.patches.PatchTable.{PatchTable}
use Rattle.sym_expr.specs.declared.patches.PatchTarget.{PatchTarget}
use Rattle.sym_expr.specs.declared.patches.PatchWord.{PatchWord}
use Rattle.sym_expr.specs.declared.patches.SymbolName.{SymbolName}
use Rattle.patch_lines.specs.declared.fault.PatchFault.{PatchFault}
use Rattle.patch_lines.specs.declared.fault.PatchReason.{PatchReason}
use Rattle.patch_lines.specs.declared.line.LabelSum.{LabelSum}
use Rattle.patch_lines.specs.declared.line.PatchLine.{PatchLine}
use Rattle.patch_lines.specs.declared.line.PatchLine.TheVariants as lines
use Rattle.patch_lines.specs.Faults.{insert_block, is_name_in, lines_fault, second_pass}
use Rattle.patch_lines.specs.Naming.{resolved}

abbrev pub target_of : ℤ → Result SymbolName PatchReason → Option PatchTarget
target_of offset (Ok name) = Some (record { symbol = name; offset = offset })
target_of offset (Err reason) = None

-- what a label and an offset name
abbrev pub sum_target : Module → (List ℕ → Bool) → LabelSum → Option PatchTarget
sum_target m is_new sum = target_of sum.offset (resolved m is_new sum.label)

abbrev pub word_of : Module → (List ℕ → Bool) → ℕ → Option LabelSum → PatchWord
word_of m is_new word sum = record { word = word; target = option_and_then (sum_target m is_new) sum }

abbrev pub is_end : PatchLine → Bool
is_end lines.End = true
is_end _ = false

-- what a line adds to the words of a body
abbrev pub words_of_line : Module → (List ℕ → Bool) → PatchLine → List PatchWord
words_of_line m is_new (lines.Word word sum) = word_of m is_new word sum ∷ []
words_of_line m is_new _ = []

-- the words up to the next `end`
abbrev pub body_words : Module → (List ℕ → Bool) → List PatchLine → List PatchWord
body_words m is_new [] = []
body_words m is_new (l ∷ ls) = if is_end l then [] else words_of_line m is_new l ++ body_words m is_new ls

-- what a line adds to the body of a function
abbrev pub parts_of_line : Module → (List ℕ → Bool) → PatchLine → List FunLine
parts_of_line m is_new (lines.Word word sum) = funs.Word (word_of m is_new word sum) ∷ []
parts_of_line m is_new (lines.Label name) = funs.Label name ∷ []
parts_of_line m is_new _ = []

-- the words and labels up to the next `end`
abbrev pub body_parts : Module → (List ℕ → Bool) → List PatchLine → List FunLine
body_parts m is_new [] = []
body_parts m is_new (l ∷ ls) = if is_end l then [] else parts_of_line m is_new l ++ body_parts m is_new ls

abbrev pub insert_of : ℕ → List PatchWord → Result (List ℕ) PatchReason → List Insert
insert_of offset body (Ok block) = record { block = block; offset = offset; body = body } ∷ []
insert_of offset body (Err reason) = []

-- the insert that a line begins, if it begins one, with the lines behind it
abbrev pub inserts_at : Module → (List ℕ → Bool) → PatchLine → List PatchLine → List Insert
inserts_at m is_new (lines.Insert spot offset) ls = insert_of offset (body_words m is_new ls) (insert_block m spot offset)
inserts_at m is_new _ ls = []

-- the function that a line begins, likewise
abbrev pub functions_at : Module → (List ℕ → Bool) → PatchLine → List PatchLine → List Function
functions_at m is_new (lines.Function name) ls = record { name = name; body = body_parts m is_new ls } ∷ []
functions_at m is_new _ ls = []

-- the inserts, in order
abbrev pub inserts_in : Module → (List ℕ → Bool) → List PatchLine → List Insert
inserts_in m is_new [] = []
inserts_in m is_new (l ∷ ls) = inserts_at m is_new l ls ++ inserts_in m is_new ls

-- the functions, in order
abbrev pub functions_in : Module → (List ℕ → Bool) → List PatchLine → List Function
functions_in m is_new [] = []
functions_in m is_new (l ∷ ls) = functions_at m is_new l ls ++ functions_in m is_new ls

-- the table of lines, where the patches bring these names
abbrev pub table_with : Module → (List ℕ → Bool) → List PatchLine → PatchTable
table_with m is_new ls = record { inserts = inserts_in m is_new ls; functions = functions_in m is_new ls }

abbrev pub table_of : Module → List PatchLine → PatchTable
table_of m ls = table_with m (is_name_in ls) ls

abbrev pub table_without : Option PatchFault → PatchTable → Result PatchTable PatchFault
table_without None table = Ok table
table_without (Some fault) table = Err fault

-- the table, or the first fault of the second pass
abbrev pub outcome_with : Module → (List ℕ → Bool) → List PatchLine → Result PatchTable PatchFault
outcome_with m is_new ls = table_without (second_pass m is_new [] ls) (table_with m is_new ls)

-- the table that lines give, or the first fault
abbrev pub outcome : Module → List PatchLine → Result PatchTable PatchFault
outcome m ls = table_without (lines_fault m ls) (table_of m ls)
