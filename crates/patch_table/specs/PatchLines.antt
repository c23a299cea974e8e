-- What a line of patch text says.
use Rattle.std.specs.Prelude.{◌≡◌, ◌⊎◌, ℕ, Bool, true, false, not, if◌then◌else◌, List, Option, Some, None}
use Rattle.std.specs.Option.{is_some, option_map}
use Rattle.a64_inst.specs.Kinds.{operand_kind}
use Rattle.asm_read.specs.declared.fault.TextReason.{TextReason}
use Rattle.asm_read.specs.declared.fault.TextReason.TheVariants as reasons
use Rattle.a64_forms.specs.Spelling.{IsShape, Spelled}
use Rattle.asm_lines.specs.declared.line.AsmExpr.{AsmExpr}
use Rattle.asm_lines.specs.declared.line.AsmItem.{AsmItem}
use Rattle.asm_lines.specs.declared.line.AsmItem.TheVariants as items
use Rattle.asm_lines.specs.declared.line.AsmLine.{AsmLine}
use Rattle.asm_lines.specs.declared.line.AsmLine.TheVariants as asm
use Rattle.asm_lines.specs.declared.line.AsmName.{AsmName}
use Rattle.asm_lines.specs.Lines.{HasSuch, IsFault, IsLine}
use Rattle.asm_lines.specs.Texts.{texts_of}
use Rattle.sym_expr.specs.TableOk.{is_aimed}
use Rattle.patch_lines.specs.declared.line.LabelSum.{LabelSum}
use Rattle.patch_lines.specs.declared.line.PatchLine.{PatchLine}
use Rattle.patch_lines.specs.declared.line.PatchLine.TheVariants as lines
use Rattle.patch_table.specs.OwnLines.{OwnSays, bare_line, is_own, label_name}

abbrev pub label_sum : AsmExpr → LabelSum
label_sum e = record { label = label_name e.label; offset = e.offset }

-- a word that makes no sense without a target names one, and only a word that has an operand does
abbrev pub has_aim : ℕ → Option AsmExpr → Bool
has_aim word None = not (is_aimed word)
has_aim word (Some e) = is_some (operand_kind word)

abbrev pub word_line : ℕ → Option AsmExpr → PatchLine
word_line word target = if has_aim word target then lines.Word word (option_map label_sum target) else lines.Other

abbrev pub item_line : AsmItem → PatchLine
item_line (items.Word word target) = word_line word target
item_line _ = lines.Other

abbrev pub label_line : AsmName → PatchLine
label_line label = bare_line (λ name. lines.Label name) label.name label.ordinal

-- a line of assembly as one of patch text, which has no directives
abbrev pub line_of : AsmLine → PatchLine
line_of asm.Blank = lines.Blank
line_of (asm.Label label) = label_line label
line_of (asm.Item item) = item_line item
line_of _ = lines.Other

abbrev pub is_number : TextReason → Bool
is_number reasons.Number = true
is_number _ = false

-- an instruction but for its numbers: with any others it still lacks the label that patch text asks for, or it would be a line
abbrev pub unfit_for : {A : Type 0} → Option A → ℕ → PatchLine
unfit_for (Some target) bits = lines.UnfitWord
unfit_for None bits = if is_aimed bits then lines.Other else lines.UnfitWord

abbrev pub unfit_line : Spelled → PatchLine
unfit_line s = unfit_for s.target s.bits

abbrev pub ShapeSays : List ℕ → PatchLine → Type 0
ShapeSays line l = HasSuch line (λ words. (s : Spelled) × IsShape (texts_of words) s × (l ≡ unfit_line s))

-- what a line of assembly says in patch text
abbrev pub AsmSays : List ℕ → PatchLine → Type 0
AsmSays line l =
    ((said : AsmLine) × IsLine line said × (l ≡ line_of said))
    ⊎ ((IsFault line reasons.Number × ShapeSays line l)
    ⊎ ((reason : TextReason) × IsFault line reason × (is_number reason ≡ false) × (l ≡ lines.Other)))

abbrev pub IsOwn : List ℕ → Type 0
IsOwn line = HasSuch line (λ words. is_own words ≡ true)

-- a line that begins with a word of patch text's own is one of its own; every other is one of assembly
abbrev pub Says : List ℕ → PatchLine → Type 0
Says line l = HasSuch line (λ words. (is_own words ≡ true) × OwnSays words l) ⊎ ((IsOwn line → ⊥) × AsmSays line l)
