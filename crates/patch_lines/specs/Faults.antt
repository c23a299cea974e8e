-- The first line of patch text at fault.
use Rattle.std.specs.Prelude.{◌≡◌, ℕ, suc, ◌+◌, ◌%◌, ◌==◌, nat_le, Bool, true, false, not, ◌&&◌, ◌||◌, if◌then◌else◌, filter, Option, Some, None, Result, Ok, Err, List, [], ◌∷◌, ◌++◌, length, ℤ}
use Rattle.std.specs.List.{flat_map, list_any}
use Rattle.std.specs.Option.{option_map, option_map_or, option_or, is_some}
use Rattle.std.specs.Str.{bytes_eq}
use Rattle.asm_read.specs.declared.fault.TextReason.{TextReason}
use Rattle.asm_read.specs.declared.fault.TextReason.TheVariants as texts
use Rattle.a64_inst.specs.Kinds.{operand_kind}
use Rattle.gt_model.specs.declared.intervals.Block.{Block}
use Rattle.gt_model.specs.declared.modules.Module.{Module}
use Rattle.gt_model.specs.declared.symbols.Symbol.{Symbol}
use Rattle.sym_expr.specs.declared.patches.SymbolName.{SymbolName}
use Rattle.sym_expr.specs.declared.patches.SymbolName.TheVariants as names
use Rattle.sym_expr.specs.Expressions.{is_bad_sum, is_zero, symbol_aim}
use Rattle.sym_expr.specs.Modules.{block_of, blocks_of, id_of, is_code, loaded_intervals, size_of}
use Rattle.patch_lines.specs.declared.fault.PatchFault.{PatchFault}
use Rattle.patch_lines.specs.declared.fault.PatchReason.{PatchReason}
use Rattle.patch_lines.specs.declared.fault.PatchReason.TheVariants as reasons
use Rattle.patch_lines.specs.declared.line.LabelSum.{LabelSum}
use Rattle.patch_lines.specs.declared.line.PatchLine.{PatchLine}
use Rattle.patch_lines.specs.declared.line.PatchLine.TheVariants as lines
use Rattle.patch_lines.specs.declared.line.Spot.{Spot}
use Rattle.patch_lines.specs.declared.line.Spot.TheVariants as spots
use Rattle.patch_lines.specs.declared.place.Place.{Place}
use Rattle.patch_lines.specs.declared.place.Place.TheVariants as places
use Rattle.patch_lines.specs.declared.symbols.SymbolUse.{SymbolUse}
use Rattle.patch_lines.specs.Naming.{resolved, symbol_named, then_ok}
use Rattle.patch_lines.specs.Places.{is_outside, place_behind, text_reason}

-- ---- where words are inserted

-- the block of a loaded section that has the identifier
abbrev pub block_at : Module → List ℕ → Option Block
block_at m id = block_of id (blocks_of (loaded_intervals m))

abbrev pub code_block : Option Block → Result Block PatchReason
code_block None = Err reasons.UnknownBlock
code_block (Some b) = if is_code b then Ok b else Err reasons.UnknownBlock

-- the code block at whose start a symbol is
abbrev pub start_block : Module → Option (List ℕ) → Result Block PatchReason
start_block m None = Err reasons.UnknownBlock
start_block m (Some id) = code_block (block_at m id)

abbrev pub symbol_block : Module → SymbolUse → Result Block PatchReason
symbol_block m u = start_block m u.start

abbrev pub spot_block : Module → Spot → Result Block PatchReason
spot_block m (spots.Block id) = code_block (block_at m id)
spot_block m (spots.Symbol label) = then_ok (symbol_block m) (symbol_named m label)

-- the identifier of a block that has a word at the offset, or ends there
abbrev pub at_offset : ℕ → Block → Result (List ℕ) PatchReason
at_offset offset b = if (offset % 4 == 0) && nat_le offset (size_of b) then Ok (id_of b) else Err reasons.BadOffset

-- the block in which an insert puts words
abbrev pub insert_block : Module → Spot → ℕ → Result (List ℕ) PatchReason
insert_block m spot offset = then_ok (at_offset offset) (spot_block m spot)

abbrev pub reason_of : {A : Type 0} → Result A PatchReason → Option PatchReason
reason_of (Ok x) = None
reason_of (Err reason) = Some reason

-- ---- names and numbers of what stands before a line

-- the names that a line brings
abbrev pub line_names : PatchLine → List (List ℕ)
line_names (lines.Function name) = name ∷ []
line_names (lines.Label name) = name ∷ []
line_names _ = []

abbrev pub names_in : List PatchLine → List (List ℕ)
names_in ls = flat_map line_names ls

abbrev pub is_name_in : List PatchLine → List ℕ → Bool
is_name_in ls name = list_any (λ n. bytes_eq name n) (names_in ls)

-- a symbol of the module has the name
abbrev pub is_symbol_name : Module → List ℕ → Bool
is_symbol_name m name = list_any (λ (s : Symbol). bytes_eq name s.name) m.symbols

abbrev pub is_word : PatchLine → Bool
is_word (lines.Word word sum) = true
is_word _ = false

-- the number of instructions
abbrev pub words_in : List PatchLine → ℕ
words_in ls = length (filter is_word ls)

-- the most instructions of a text
abbrev pub most_words : ℕ
most_words = 1048576

-- ---- the first pass

-- what is wrong with a line of a form that may stand there, where so many instructions and these names stand before it
abbrev pub meaning_fault : Module → (List ℕ → Bool) → ℕ → PatchLine → Option PatchReason
meaning_fault m is_taken words (lines.Insert spot offset) = reason_of (insert_block m spot offset)
meaning_fault m is_taken words (lines.Function name) = if is_taken name then Some reasons.NameTaken else None
meaning_fault m is_taken words (lines.Label name) = if is_taken name then Some reasons.NameTaken else None
meaning_fault m is_taken words (lines.Word word sum) = if nat_le most_words words then Some reasons.TooMany else None
meaning_fault m is_taken words _ = None

abbrev pub line_fault : Module → Place → (List ℕ → Bool) → ℕ → PatchLine → Option PatchReason
line_fault m place is_taken words l = option_or (option_map (λ (r : TextReason). reasons.Text r) (text_reason place l)) (meaning_fault m is_taken words l)

-- a name that is a symbol's or stands before
abbrev pub is_taken_behind : Module → List PatchLine → List ℕ → Bool
is_taken_behind m before name = is_symbol_name m name || is_name_in before name

abbrev pub place_at : List PatchLine → Place
place_at before = place_behind places.Outside before

-- what is wrong with the line behind these
abbrev pub next_fault : Module → List PatchLine → PatchLine → Option PatchReason
next_fault m before l = line_fault m (place_at before) (is_taken_behind m before) (words_in before) l

-- a fault of the line behind these
abbrev pub fault_behind : List PatchLine → PatchReason → PatchFault
fault_behind before reason = record { line = length before + 1; reason = reason }

-- the first line at fault behind these, in the first pass; where an `end` is missing, the line behind the last
abbrev pub first_pass : Module → List PatchLine → List PatchLine → Option PatchFault
first_pass m before [] = if is_outside (place_at before) then None else Some (fault_behind before (reasons.Text texts.Syntax))
first_pass m before (l ∷ ls) = option_or (option_map (fault_behind before) (next_fault m before l)) (first_pass m (before ++ l ∷ []) ls)

-- ---- the second pass

-- code is named without an offset, and branches name code
abbrev pub is_bad_name : Module → ℕ → ℤ → SymbolName → Bool
is_bad_name m word offset (names.Old id) = is_bad_sum word offset (symbol_aim m id)
is_bad_name m word offset (names.New name) = not (is_zero offset)

abbrev pub name_fault : Module → ℕ → ℤ → Result SymbolName PatchReason → Option PatchReason
name_fault m word offset (Ok name) = if is_bad_name m word offset name then Some reasons.BadTarget else None
name_fault m word offset (Err reason) = Some reason

-- what is wrong with a target of a word, where the patches bring these names
abbrev pub sum_fault : Module → (List ℕ → Bool) → ℕ → LabelSum → Option PatchReason
sum_fault m is_new word sum = name_fault m word sum.offset (resolved m is_new sum.label)

abbrev pub target_fault : Module → (List ℕ → Bool) → PatchLine → Option PatchReason
target_fault m is_new (lines.Word word (Some sum)) = sum_fault m is_new word sum
target_fault m is_new _ = None

-- the first line at fault behind these, in the second pass
abbrev pub second_pass : Module → (List ℕ → Bool) → List PatchLine → List PatchLine → Option PatchFault
second_pass m is_new before [] = None
second_pass m is_new before (l ∷ ls) = option_or (option_map (fault_behind before) (target_fault m is_new l)) (second_pass m is_new (before ++ l ∷ []) ls)

-- the first of all: the second pass comes where the first finds none
abbrev pub lines_fault : Module → List PatchLine → Option PatchFault
lines_fault m ls = option_or (first_pass m [] ls) (second_pass m (is_name_in ls) [] ls)
