-- Instructions, with what they name in place of a number.
use Rattle.std.specs.Prelude.{◌≡◌, ◌⊎◌, ℕ, pos, List, Option, Some, None}
use Rattle.std.specs.Option.{option_map}
use Rattle.a64_forms.specs.declared.form.Aim.{Aim}
use Rattle.a64_forms.specs.declared.form.Aim.TheVariants as aims
use Rattle.a64_forms.specs.declared.share.Target.{Target}
use Rattle.a64_forms.specs.Spelling.{IsShape, IsSpelling, Spelled}
use Rattle.asm_lines.specs.declared.line.AsmExpr.{AsmExpr}
use Rattle.asm_lines.specs.declared.line.AsmItem.{AsmItem}
use Rattle.asm_lines.specs.declared.line.AsmItem.TheVariants as items
use Rattle.asm_lines.specs.declared.line.AsmName.{AsmName}
use Rattle.asm_lines.specs.Expressions.{HasExpressionShape, IsExpression}
use Rattle.asm_lines.specs.Labels.{IsLabel}

-- what a text names: a label alone, or a label expression
abbrev pub IsAimed : Aim → List ℕ → AsmExpr → Type 0
IsAimed aims.Label text e = IsLabel text e.label × (e.offset ≡ pos 0)
IsAimed aims.Expression text e = IsExpression text e

abbrev pub HasAimedShape : Aim → List ℕ → Type 0
HasAimedShape aims.Label text = (name : AsmName) × IsLabel text name
HasAimedShape aims.Expression text = HasExpressionShape text

-- what a target of the program names
abbrev pub aimed : Option Target → Option (Aim × List ℕ)
aimed target = option_map (λ t. (t.aim, t.text.now)) target

-- what an instruction names, if anything
abbrev pub IsTarget : Option (Aim × List ℕ) → Option AsmExpr → Type 0
IsTarget None None = Unit {0}
IsTarget None (Some e) = ⊥
IsTarget (Some t) None = ⊥
IsTarget (Some t) (Some e) = IsAimed t.0 t.1 e

abbrev pub HasTargetShape : Option (Aim × List ℕ) → Type 0
HasTargetShape None = Unit {0}
HasTargetShape (Some t) = HasAimedShape t.0 t.1

-- the texts spell this word with this target
abbrev pub IsInstruction : List (List ℕ) → AsmItem → Type 0
IsInstruction texts (items.Word bits target) = (s : Spelled) × IsSpelling texts s × (bits ≡ s.bits) × IsTarget s.target target
IsInstruction texts (items.Bytes bytes) = ⊥
IsInstruction texts (items.Zero count) = ⊥
IsInstruction texts (items.Quad e) = ⊥
IsInstruction texts (items.QuadDiff first second offset) = ⊥
IsInstruction texts (items.WordDiff first second offset) = ⊥
IsInstruction texts (items.Entry size scale first second) = ⊥

-- they would spell a word with other numbers in the places of their number words
abbrev pub HasInstructionShape : List (List ℕ) → Type 0
HasInstructionShape texts = (s : Spelled) × IsShape texts s × HasTargetShape s.target
