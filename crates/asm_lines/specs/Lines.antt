-- What a line says, and why it says nothing.
use Rattle.std.specs.Prelude.{◌≡◌, ◌⊎◌, ℕ, List, [], ◌∷◌, ◌++◌, IsUtf8}
use Rattle.asm_read.specs.declared.fault.TextReason.{TextReason}
use Rattle.asm_read.specs.declared.fault.TextReason.TheVariants as reasons
use Rattle.asm_read.specs.Words.{HasWords}
use Rattle.asm_lines.specs.declared.line.AsmLine.{AsmLine}
use Rattle.asm_lines.specs.declared.line.AsmLine.TheVariants as lines
use Rattle.asm_lines.specs.declared.line.AsmName.{AsmName}
use Rattle.asm_lines.specs.Instructions.{HasInstructionShape, IsInstruction}
use Rattle.asm_lines.specs.Labels.{IsLabel}
use Rattle.asm_lines.specs.Texts.{texts_of}

-- a label with its colon
abbrev pub IsLabelLine : List (List ℕ) → AsmName → Type 0
IsLabelLine words name = (label : List ℕ) × (words ≡ (label ++ 58 ∷ []) ∷ []) × IsLabel label name

-- what the words of a line say; directives say nothing yet
abbrev pub WordsSay : List (List ℕ) → AsmLine → Type 0
WordsSay words lines.Blank = words ≡ []
WordsSay words (lines.Label name) = IsLabelLine words name
WordsSay words (lines.Item item) = IsInstruction (texts_of words) item
WordsSay words (lines.Set name value) = ⊥
WordsSay words (lines.Section name) = ⊥
WordsSay words (lines.Interval uuid align residue) = ⊥
WordsSay words lines.Entry = ⊥

-- it begins with a dot and doesn't end with a colon
abbrev pub IsDirectiveWord : List ℕ → Type 0
IsDirectiveWord word = (behind : List ℕ) × (word ≡ 46 ∷ behind) × ((front : List ℕ) → word ≡ front ++ 58 ∷ [] → ⊥)

-- the first word is that of a directive
abbrev pub IsDirective : List (List ℕ) → Type 0
IsDirective words = (first : List ℕ) × (rest : List (List ℕ)) × (words ≡ first ∷ rest) × IsDirectiveWord first

-- why words say nothing: a directive; else other numbers would make them say something; else their form is no line's
abbrev pub AreFaulty : List (List ℕ) → TextReason → Type 0
AreFaulty words reasons.Directive = IsDirective words
AreFaulty words reasons.Number = ((said : AsmLine) → WordsSay words said → ⊥) × HasInstructionShape (texts_of words)
AreFaulty words reasons.Syntax =
    ((said : AsmLine) → WordsSay words said → ⊥) × (IsDirective words → ⊥) × (HasInstructionShape (texts_of words) → ⊥)
AreFaulty words reasons.LabelTwice = ⊥
AreFaulty words reasons.LabelUnknown = ⊥

-- the line is UTF-8 and has words of which this holds
pub record HasSuch (line : List ℕ) (P : List (List ℕ) → Type 0) : Type 0 where
  pub utf8 : IsUtf8 line
  pub words : List (List ℕ)
  pub has : HasWords line words
  pub such : P words

-- what a line says
abbrev pub IsLine : List ℕ → AsmLine → Type 0
IsLine line said = HasSuch line (λ words. WordsSay words said)

-- why a line says nothing: that of its words, and Syntax where it has none
abbrev pub IsFault : List ℕ → TextReason → Type 0
IsFault line reason = HasSuch line (λ words. AreFaulty words reason) ⊎ ((reason ≡ reasons.Syntax) × (HasSuch line (λ words. Unit {0}) → ⊥))
