-- What a line of assembly text says, directives among them, and why it says nothing.
use Rattle.std.specs.Prelude.{◌≡◌, ◌⊎◌, ℕ, List, ◌∷◌, Option, Some, None, Result, Ok, Err}
use Rattle.std.specs.Option.{option_or}
use Rattle.gr_base.specs.declared.end.End.{End}
use Rattle.gr_base.specs.declared.end.End.TheVariants as ends
use Rattle.a64_forms.specs.declared.form.Numbers.{Numbers}
use Rattle.a64_forms.specs.declared.form.Numbers.TheVariants.{Fitting, Any}
use Rattle.asm_read.specs.declared.fault.TextReason.{TextReason}
use Rattle.asm_read.specs.declared.fault.TextReason.TheVariants as reasons
use Rattle.asm_lines.specs.declared.line.AsmLine.{AsmLine}
use Rattle.asm_lines.specs.Instructions.{HasInstructionShape}
use Rattle.asm_lines.specs.Lines.{HasSuch, IsDirectiveWord, WordsSay}
use Rattle.asm_lines.specs.Texts.{texts_of}
use Rattle.asm_directives.specs.declared.directive.Directive.{Directive}
use Rattle.asm_directives.specs.Answers.{Answers}
use Rattle.asm_directives.specs.Directives.{HaveShape, OperandsSay}
use Rattle.asm_directives.specs.Names.{bytes_of, mark_of, value_of}

-- the directive that a word names
abbrev pub directive_of : List ℕ → Option Directive
directive_of word = option_or (mark_of word) (option_or (bytes_of word) (value_of word))

-- the words, each behind the first cut behind its commas, begin with a word like a directive's
abbrev pub Begins : List (List ℕ) → List ℕ → List (List ℕ) → Type 0
Begins words first operands = (texts_of words ≡ first ∷ operands) × IsDirectiveWord first

-- a directive says this with its operands
abbrev pub DirectiveSays : Numbers → List (List ℕ) → AsmLine → Type 0
DirectiveSays n words said =
    (first : List ℕ) × (operands : List (List ℕ)) × (d : Directive) × Begins words first operands × (directive_of first ≡ Some d)
    × OperandsSay n d operands said

-- what words say: a directive, or what they say without directives
abbrev pub AllSay : List (List ℕ) → AsmLine → Type 0
AllSay words said = DirectiveSays Fitting words said ⊎ WordsSay words said

-- the first word is like a directive's, and none's
abbrev pub IsUnknown : List (List ℕ) → Type 0
IsUnknown words = (first : List ℕ) × (operands : List (List ℕ)) × Begins words first operands × (directive_of first ≡ None)

-- they would say something with other numbers in the places of their number words
abbrev pub HasLineShape : List (List ℕ) → Type 0
HasLineShape words = ((said : AsmLine) × DirectiveSays Any words said) ⊎ HasInstructionShape (texts_of words)

-- why words say nothing: an unknown directive; else other numbers would make them say something; else their form is no line's
abbrev pub AreRefused : List (List ℕ) → TextReason → Type 0
AreRefused words reasons.Directive = IsUnknown words
AreRefused words reasons.Number = ((said : AsmLine) → AllSay words said → ⊥) × HasLineShape words
AreRefused words reasons.Syntax =
    ((said : AsmLine) → AllSay words said → ⊥) × (IsUnknown words → ⊥) × (HasLineShape words → ⊥)
AreRefused words reasons.LabelTwice = ⊥
AreRefused words reasons.LabelUnknown = ⊥

-- what a line says
abbrev pub IsAsmLine : List ℕ → AsmLine → Type 0
IsAsmLine line said = HasSuch line (λ words. AllSay words said)

-- why a line says nothing: that of its words, and Syntax where it has none
abbrev pub IsAsmFault : List ℕ → TextReason → Type 0
IsAsmFault line reason =
    HasSuch line (λ words. AreRefused words reason) ⊎ ((reason ≡ reasons.Syntax) × (HasSuch line (λ words. Unit {0}) → ⊥))

-- the line is UTF-8, and its words, each behind the first cut behind its commas, are these
abbrev pub HasTexts : List ℕ → List (List ℕ) → Type 0
HasTexts line texts = HasSuch line (λ words. texts_of words ≡ texts)

-- what a word like a directive's says with these operands
abbrev pub NamedSays : List ℕ → List (List ℕ) → Result AsmLine (End TextReason) → Type 0
NamedSays first operands result =
    ((directive_of first ≡ None) × (result ≡ Err (ends.Fault reasons.Directive)))
    ⊎ ((d : Directive) × (directive_of first ≡ Some d) × Answers (OperandsSay Fitting d operands) (HaveShape d operands) result)

-- why a line says nothing, unless memory ran out
abbrev pub LineEnds : List ℕ → End TextReason → Type 0
LineEnds line ends.Memory = Unit {0}
LineEnds line (ends.Fault reason) = IsAsmFault line reason

-- what a line says, or why it says nothing
abbrev pub LineSays : List ℕ → Result AsmLine (End TextReason) → Type 0
LineSays line (Ok said) = IsAsmLine line said
LineSays line (Err end) = LineEnds line end
