-- Label expressions.
use Rattle.std.specs.Prelude.{◌≡◌, ◌⊎◌, ℕ, ℤ, pos, ◌-ℤ◌, FitsSigned, List, [], ◌∷◌, ◌++◌}
use Rattle.std.specs.Int.{w64}
use Rattle.asm_read.specs.declared.fault.TextReason.{TextReason}
use Rattle.asm_read.specs.declared.fault.TextReason.TheVariants as reasons
use Rattle.a64_forms.specs.Number.{IsNumber, IsNumberWord}
use Rattle.asm_lines.specs.declared.expression.Sign.{Sign}
use Rattle.asm_lines.specs.declared.expression.Sign.TheVariants.{Plus, Minus}
use Rattle.asm_lines.specs.declared.line.AsmExpr.{AsmExpr}
use Rattle.asm_lines.specs.declared.line.AsmName.{AsmName}
use Rattle.asm_lines.specs.Labels.{IsLabel}

abbrev pub byte_of : Sign → ℕ
byte_of Plus = 43
byte_of Minus = 45

-- a number with its sign
abbrev pub signed : Sign → ℕ → ℤ
signed Plus n = pos n
signed Minus n = pos 0 -ℤ pos n

-- the digits spell a number that fits 64 bits with its sign
abbrev pub IsSigned : Sign → List ℕ → ℤ → Type 0
IsSigned sign digits offset = (n : ℕ) × IsNumber digits n × (offset ≡ signed sign n) × FitsSigned w64 offset

-- nothing, for 0, or a sign and a number
abbrev pub IsOffset : List ℕ → ℤ → Type 0
IsOffset text offset = ((text ≡ []) × (offset ≡ pos 0)) ⊎ ((sign : Sign) × (digits : List ℕ) × (text ≡ byte_of sign ∷ digits) × IsSigned sign digits offset)

-- nothing, or a sign and a number word
abbrev pub HasOffsetShape : List ℕ → Type 0
HasOffsetShape text = (text ≡ []) ⊎ ((sign : Sign) × (digits : List ℕ) × (text ≡ byte_of sign ∷ digits) × IsNumberWord digits)

-- which reason it is: whether another number would serve
abbrev pub Tells : TextReason → Type 0 → Type 0
Tells reasons.Number Shape = Shape
Tells reasons.Syntax Shape = Shape → ⊥
Tells reasons.LabelTwice Shape = ⊥
Tells reasons.LabelUnknown Shape = ⊥
Tells reasons.Directive Shape = ⊥

-- the text is a label and perhaps an offset
pub record IsExpression (text : List ℕ) (e : AsmExpr) : Type 0 where
  pub label : List ℕ
  pub offset : List ℕ
  pub parts : text ≡ label ++ offset
  pub label_is : IsLabel label e.label
  pub offset_is : IsOffset offset e.offset

-- it would be one with another number in the place of its number word
pub record HasExpressionShape (text : List ℕ) : Type 0 where
  pub label : List ℕ
  pub offset : List ℕ
  pub name : AsmName
  pub parts : text ≡ label ++ offset
  pub label_is : IsLabel label name
  pub offset_is : HasOffsetShape offset
