-- The operands of directives.
use Rattle.std.specs.Prelude.{◌≡◌, ◌<◌, ◌^◌, ◌∷◌, ◌++◌, ℕ, List, codes}
use Rattle.a64_forms.specs.declared.form.Numbers.{Numbers}
use Rattle.a64_forms.specs.declared.form.Numbers.TheVariants.{Fitting, Any}
use Rattle.a64_forms.specs.Number.{IsNumber, IsNumberWord}
use Rattle.asm_lines.specs.declared.line.AsmExpr.{AsmExpr}
use Rattle.asm_lines.specs.declared.line.AsmName.{AsmName}
use Rattle.asm_lines.specs.Expressions.{HasExpressionShape, IsExpression}
use Rattle.asm_lines.specs.Labels.{IsLabel}

-- the word spells the number, or is a number word, in whose place this number could stand
abbrev pub IsNumberAs : Numbers → List ℕ → ℕ → Type 0
IsNumberAs Fitting word n = IsNumber word n
IsNumberAs Any word n = IsNumberWord word × (n < 2 ^ 64)

-- the text is the label expression, or would be one with another number
abbrev pub IsExpressionAs : Numbers → List ℕ → AsmExpr → Type 0
IsExpressionAs Fitting text e = IsExpression text e
IsExpressionAs Any text e = HasExpressionShape text

-- `LABEL-LABEL` and perhaps an offset, which goes with the second
abbrev pub IsDifference : Numbers → List ℕ → AsmName → AsmExpr → Type 0
IsDifference n text first second =
    (label behind : List ℕ) × (text ≡ label ++ 45 ∷ behind) × IsLabel label first × IsExpressionAs n behind second

-- `LABEL-LABEL`
abbrev pub IsDistance : List ℕ → AsmName → AsmName → Type 0
IsDistance text first second = (label behind : List ℕ) × (text ≡ label ++ 45 ∷ behind) × IsLabel label first × IsLabel behind second

-- `(LABEL-LABEL)/4`
abbrev pub IsQuarter : List ℕ → AsmName → AsmName → Type 0
IsQuarter text first second = (inside : List ℕ) × (text ≡ 40 ∷ inside ++ codes ")/4") × IsDistance inside first second
