-- What assembly text gives.
use Rattle.std.specs.Prelude.{◌≡◌, ℕ, ◌==◌, if◌then◌else◌, List, [], ◌∷◌, Result, Ok, Err}
use Rattle.gr_base.specs.declared.end.End.{End}
use Rattle.gr_base.specs.declared.end.End.TheVariants as ends
use Rattle.asm_read.specs.declared.fault.TextFault.{TextFault}
use Rattle.asm_read.specs.declared.fault.TextReason.{TextReason}
use Rattle.asm_read.specs.Words.{before_first}
use Rattle.asm_lines.specs.declared.line.AsmLine.{AsmLine}
use Rattle.asm_directives.specs.Lines.{IsAsmFault, IsAsmLine}
use Rattle.asm_modules.specs.declared.module.AsmModule.{AsmModule}
use Rattle.asm_modules.specs.Outcomes.{outcome}

-- the lines of a text: each ends with the byte 10, which the last may lack
abbrev pub lines_of : List ℕ → List (List ℕ)
lines_of [] = []
lines_of (b ∷ bytes) = if b == 10 then [] ∷ lines_of bytes else before_first (b ∷ []) (lines_of bytes)

-- what a line says, or why it says nothing
abbrev pub LineGives : List ℕ → Result AsmLine TextReason → Type 0
LineGives line (Ok said) = IsAsmLine line said
LineGives line (Err reason) = IsAsmFault line reason

-- each of the lines gives what stands in its place
abbrev pub Give : List (List ℕ) → List (Result AsmLine TextReason) → Type 0
Give [] [] = Unit {0}
Give (line ∷ lines) (given ∷ more) = LineGives line given × Give lines more
Give _ _ = ⊥

-- the module that a text gives, or the first fault
abbrev pub asm_text : List ℕ → Result AsmModule TextFault → Type 0
asm_text text result = (given : List (Result AsmLine TextReason)) × Give (lines_of text) given × (result ≡ outcome given)

-- the text gives the module
abbrev pub asm : List ℕ → AsmModule → Type 0
asm text gives = asm_text text (Ok gives)

-- the text gives none, and this is its first fault
abbrev pub text_fault : List ℕ → TextFault → Type 0
text_fault text fault = asm_text text (Err fault)

-- what is answered holds, unless memory ran out
abbrev pub EndBy : {A F : Type 0} → End F → (Result A F → Type 0) → Type 0
EndBy ends.Memory P = Unit {0}
EndBy (ends.Fault f) P = P (Err f)

abbrev pub GivesBy : {A F : Type 0} → Result A (End F) → (Result A F → Type 0) → Type 0
GivesBy (Ok x) P = P (Ok x)
GivesBy (Err e) P = EndBy e P
