-- What directives say with their operands.
use Rattle.std.specs.Prelude.{◌≡◌, ◌≢◌, ◌⊎◌, ◌<◌, ◌≤◌, ◌%◌, ◌^◌, ◌∷◌, ◌++◌, [], ℕ, List, IsSome, IsTrue, Option, Some, None, Ok}
use Rattle.std.specs.Int.{is_power_of_two}
use Rattle.hex.specs.Hex.{decode_of}
use Rattle.a64_forms.specs.declared.form.Numbers.{Numbers}
use Rattle.a64_forms.specs.declared.form.Numbers.TheVariants.{Any}
use Rattle.a64_inst.specs.Kinds.{operand_kind}
use Rattle.asm_read.specs.Identifier.{identifier_of}
use Rattle.asm_lines.specs.declared.line.AsmExpr.{AsmExpr}
use Rattle.asm_lines.specs.declared.line.AsmItem.TheVariants as items
use Rattle.asm_lines.specs.declared.line.AsmLine.{AsmLine}
use Rattle.asm_lines.specs.declared.line.AsmLine.TheVariants as lines
use Rattle.asm_lines.specs.declared.line.AsmName.{AsmName}
use Rattle.asm_lines.specs.Expressions.{HasExpressionShape}
use Rattle.asm_lines.specs.Labels.{IsLabel}
use Rattle.asm_directives.specs.declared.directive.Directive.{Directive}
use Rattle.asm_directives.specs.declared.directive.Directive.TheVariants as directives
use Rattle.asm_directives.specs.Operands.{IsDifference, IsDistance, IsExpressionAs, IsNumberAs, IsQuarter}

-- `.set LABEL, NUMBER`
abbrev pub IsSet : Numbers → (first second : List ℕ) → AsmLine → Type 0
IsSet n first second said =
    (label : List ℕ) × (name : AsmName) × (value : ℕ) × (first ≡ label ++ 44 ∷ []) × IsLabel label name × IsNumberAs n second value
    × (said ≡ lines.Set name value)

abbrev pub plain : List ℕ → AsmName
plain name = record { name = name; ordinal = None }

-- `.section NAME`
abbrev pub IsSection : List ℕ → AsmLine → Type 0
IsSection text said = (name : List ℕ) × IsLabel text (plain name) × (said ≡ lines.Section name)

-- a power of two up to 4096
abbrev pub IsAlignment : ℕ → Type 0
IsAlignment align = IsTrue (is_power_of_two align) × (align ≤ 4096)

-- a place in a page of 4096 bytes that suits the alignment
abbrev pub IsResidue : ℕ → ℕ → Type 0
IsResidue align residue = (residue < 4096) × (residue % align ≡ 0)

-- `.interval UUID ALIGN`
abbrev pub IsInterval : Numbers → (first second : List ℕ) → AsmLine → Type 0
IsInterval n first second said =
    (uuid : List ℕ) × (align : ℕ) × (identifier_of first ≡ Some uuid) × IsNumberAs n second align × IsAlignment align
    × (said ≡ lines.Interval uuid align None)

-- `.interval UUID ALIGN RESIDUE`
abbrev pub IsIntervalAt : Numbers → (first second third : List ℕ) → AsmLine → Type 0
IsIntervalAt n first second third said =
    (uuid : List ℕ) × (align residue : ℕ) × (identifier_of first ≡ Some uuid) × IsNumberAs n second align × IsAlignment align
    × IsNumberAs n third residue × IsResidue align residue × (said ≡ lines.Interval uuid align (Some residue))

-- `.hex DIGITS`: one byte or more
abbrev pub IsHex : List ℕ → AsmLine → Type 0
IsHex text said = (bytes : List ℕ) × (decode_of text ≡ Ok bytes) × (bytes ≢ []) × (said ≡ lines.Item (items.Bytes bytes))

-- `.zero NUMBER`: at most 2^24
abbrev pub IsZero : Numbers → List ℕ → AsmLine → Type 0
IsZero n text said = (count : ℕ) × IsNumberAs n text count × (count ≤ 2 ^ 24) × (said ≡ lines.Item (items.Zero count))

-- `.inst NUMBER`: a word
abbrev pub IsInst : Numbers → List ℕ → AsmLine → Type 0
IsInst n text said = (word : ℕ) × IsNumberAs n text word × (word < 2 ^ 32) × (said ≡ lines.Item (items.Word word None))

-- a word that has an operand
abbrev pub IsOpenWord : ℕ → Type 0
IsOpenWord word = (word < 2 ^ 32) × IsSome (operand_kind word)

-- `.inst NUMBER, EXPR`: a word with an operand that the expression can fill
abbrev pub IsInstWith : Numbers → (first second : List ℕ) → AsmLine → Type 0
IsInstWith n first second said =
    (number : List ℕ) × (word : ℕ) × (e : AsmExpr) × (first ≡ number ++ 44 ∷ []) × IsNumberAs n number word × IsOpenWord word
    × IsExpressionAs n second e × (said ≡ lines.Item (items.Word word (Some e)))

-- `.quad EXPR`, else `.quad DIFF`
abbrev pub IsQuad : Numbers → List ℕ → AsmLine → Type 0
IsQuad n text said =
    ((e : AsmExpr) × IsExpressionAs n text e × (said ≡ lines.Item (items.Quad e)))
    ⊎ ((HasExpressionShape text → ⊥) × (first : AsmName) × (second : AsmExpr) × IsDifference n text first second × (said ≡ lines.Item (items.QuadDiff first second.label second.offset)))

-- `.word DIFF`, `.word (LABEL-LABEL)/4`
abbrev pub IsWord : Numbers → List ℕ → AsmLine → Type 0
IsWord n text said =
    ((first : AsmName) × (second : AsmExpr) × IsDifference n text first second × (said ≡ lines.Item (items.WordDiff first second.label second.offset)))
    ⊎ ((first second : AsmName) × IsQuarter text first second × (said ≡ lines.Item (items.Entry 4 4 first second)))

-- `.byte` and `.hword`: `LABEL-LABEL`, or `(LABEL-LABEL)/4`, in one byte or two
abbrev pub IsNarrow : ℕ → List ℕ → AsmLine → Type 0
IsNarrow size text said =
    ((first second : AsmName) × IsDistance text first second × (said ≡ lines.Item (items.Entry size 1 first second)))
    ⊎ ((first second : AsmName) × IsQuarter text first second × (said ≡ lines.Item (items.Entry size 4 first second)))

-- what a directive says alone
abbrev pub NoneSays : Directive → AsmLine → Type 0
NoneSays directives.Entry said = said ≡ lines.Entry
NoneSays _ said = ⊥

-- with one operand
abbrev pub OneSays : Numbers → Directive → List ℕ → AsmLine → Type 0
OneSays n directives.Section text said = IsSection text said
OneSays n directives.Hex text said = IsHex text said
OneSays n directives.Zero text said = IsZero n text said
OneSays n directives.Inst text said = IsInst n text said
OneSays n directives.Quad text said = IsQuad n text said
OneSays n directives.Word text said = IsWord n text said
OneSays n directives.Byte text said = IsNarrow 1 text said
OneSays n directives.Hword text said = IsNarrow 2 text said
OneSays n _ text said = ⊥

-- with two
abbrev pub TwoSay : Numbers → Directive → (first second : List ℕ) → AsmLine → Type 0
TwoSay n directives.Set first second said = IsSet n first second said
TwoSay n directives.Interval first second said = IsInterval n first second said
TwoSay n directives.Inst first second said = IsInstWith n first second said
TwoSay n _ first second said = ⊥

-- with three
abbrev pub ThreeSay : Numbers → Directive → (first second third : List ℕ) → AsmLine → Type 0
ThreeSay n directives.Interval first second third said = IsIntervalAt n first second third said
ThreeSay n _ first second third said = ⊥

-- what a directive says with these operands
abbrev pub OperandsSay : Numbers → Directive → List (List ℕ) → AsmLine → Type 0
OperandsSay n d [] said = NoneSays d said
OperandsSay n d (first ∷ []) said = OneSays n d first said
OperandsSay n d (first ∷ second ∷ []) said = TwoSay n d first second said
OperandsSay n d (first ∷ second ∷ third ∷ []) said = ThreeSay n d first second third said
OperandsSay n d (first ∷ second ∷ third ∷ fourth ∷ rest) said = ⊥

-- it would say something with other numbers in the places of its number words
abbrev pub HaveShape : Directive → List (List ℕ) → Type 0
HaveShape d operands = (said : AsmLine) × OperandsSay Any d operands said
