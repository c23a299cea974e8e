-- Whether a line says something.
use Rattle.std.proofs.Common.{◌≡◌, ◌⊎◌, ℕ, List, [], ◌∷◌, ◌++◌, refl, sym, ap, subst, ◌∙◌, inl, inr}
use Rattle.std.specs.Str.{IsUtf8}
use Rattle.asm_read.specs.declared.fault.TextReason.{TextReason}
use Rattle.asm_read.specs.declared.fault.TextReason.TheVariants as reasons
use Rattle.asm_read.specs.Words.{HasWords}
use Rattle.asm_lines.specs.declared.line.AsmName.{AsmName}
use Rattle.asm_lines.specs.Labels.{IsLabel}
use Rattle.asm_lines.specs.declared.line.AsmItem.{AsmItem}
use Rattle.asm_lines.specs.declared.line.AsmLine.{AsmLine}
use Rattle.asm_lines.specs.declared.line.AsmLine.TheVariants as lines
use Rattle.asm_lines.specs.Instructions.{IsInstruction}
use Rattle.asm_lines.specs.Lines.{AreFaulty, IsDirective, IsDirectiveWord, IsFault, IsLabelLine, IsLine, WordsSay}
use Rattle.asm_lines.specs.Texts.{texts_of}
use Rattle.asm_lines.proofs.Decisions.{Decided, as_well, both_decided, either_decided, none_decided, same_word, utf8_decided}
use Rattle.asm_lines.proofs.DecidedInstructions.{instruction, instruction_shape}
use Rattle.asm_lines.proofs.DecidedLabels.{label}
use Rattle.asm_lines.proofs.DecidedWords.{words_decided}
use Rattle.asm_lines.proofs.Searches.{headed, split_with}

-- ---- words

abbrev Colon : List ℕ → Type 0
Colon word = (front : List ℕ) × (rest : List ℕ) × (word ≡ front ++ rest) × ((rest ≡ 58 ∷ []) × ((name : AsmName) × IsLabel front name))

colon : (word : List ℕ) → Decided (Colon word)
colon = split_with (λ front rest. (rest ≡ 58 ∷ []) × ((name : AsmName) × IsLabel front name)) (λ front rest. both_decided (same_word rest (58 ∷ [])) (label front))

alone : (a b : List ℕ) → a ∷ [] ≡ b ∷ [] → a ≡ b
alone a b e = cc

label_line : (words : List (List ℕ)) → Decided ((name : AsmName) × IsLabelLine words name)
label_line [] = inr (λ x. let e = x.1.1 in cc)
label_line (word ∷ []) = as_well
    (λ x. (x.3.1.0, (x.0, ap (λ (w : List ℕ). w ∷ []) (x.2 ∙ ap (λ (l : List ℕ). x.0 ++ l) x.3.0), x.3.1.1)))
    (λ x. (x.1.0, 58 ∷ [], alone word (x.1.0 ++ 58 ∷ []) x.1.1, (refl, (x.0, x.1.2))))
    (colon word)
label_line (word ∷ other ∷ words) = inr (λ x. let e = x.1.1 in cc)

no_words : (words : List (List ℕ)) → Decided (words ≡ [])
no_words [] = inl refl
no_words (word ∷ words) = inr (λ e. cc)

words_say : (words : List (List ℕ)) → Decided ((said : AsmLine) × WordsSay words said)
words_say words = as_well to back (either_decided (no_words words) (either_decided (label_line words) (instruction (texts_of words)))) where
  to : (words ≡ []) ⊎ (((name : AsmName) × IsLabelLine words name) ⊎ ((item : AsmItem) × IsInstruction (texts_of words) item)) → (said : AsmLine) × WordsSay words said
  to (inl e) = (lines.Blank, e)
  to (inr (inl x)) = (lines.Label x.0, x.1)
  to (inr (inr x)) = (lines.Item x.0, x.1)

  back : (said : AsmLine) × WordsSay words said → (words ≡ []) ⊎ (((name : AsmName) × IsLabelLine words name) ⊎ ((item : AsmItem) × IsInstruction (texts_of words) item))
  back (lines.Blank, e) = inl e
  back (lines.Label name, is) = inr (inl (name, is))
  back (lines.Item item, is) = inr (inr (item, is))
  back (lines.Set name value, is) = absurd is
  back (lines.Section name, is) = absurd is
  back (lines.Interval uuid align residue, is) = absurd is
  back (lines.Entry, is) = absurd is

-- ---- directives

ends_with_colon : (word : List ℕ) → Decided ((front : List ℕ) × (word ≡ front ++ 58 ∷ []))
ends_with_colon word = as_well
    (λ x. (x.0, x.2 ∙ ap (λ (l : List ℕ). x.0 ++ l) x.3))
    (λ x. (x.0, 58 ∷ [], x.1, refl))
    (split_with (λ front rest. rest ≡ 58 ∷ []) (λ front rest. same_word rest (58 ∷ [])) word)

directive_word : (word : List ℕ) → Decided (IsDirectiveWord word)
directive_word word = as_well
    (λ x. (x.0, x.1, λ front e. x.2 (front, e)))
    (λ x. (x.0, x.1, λ y. x.2 y.0 y.1))
    (headed 46 (λ behind. (front : List ℕ) × (word ≡ front ++ 58 ∷ []) → ⊥) (λ behind. none_decided (ends_with_colon word)) word)

first_word : (a b : List ℕ) (xs ys : List (List ℕ)) → a ∷ xs ≡ b ∷ ys → a ≡ b
first_word a b xs ys e = cc

directive : (words : List (List ℕ)) → Decided (IsDirective words)
directive [] = inr (λ x. let e = x.2 in cc)
directive (word ∷ words) = as_well (λ d. (word, words, refl, d)) (λ x. subst IsDirectiveWord (sym (first_word word x.0 words x.1 x.2)) x.3) (directive_word word)

-- ---- lines

fault_of : (words : List (List ℕ)) → ((said : AsmLine) → WordsSay words said → ⊥) → (reason : TextReason) × AreFaulty words reason
fault_of words none =
    elim (directive words) [
      | inl d ↦ (reasons.Directive, d)
      | inr plain ↦ elim (instruction_shape (texts_of words)) [
        | inl shape ↦ (reasons.Number, (none, shape))
        | inr refuted ↦ (reasons.Syntax, (none, plain, refuted))
      ]
    ]

abbrev pub SaysOrFault : List ℕ → Type 0
SaysOrFault line = ((said : AsmLine) × IsLine line said) ⊎ ((reason : TextReason) × IsFault line reason)

of_words : (line : List ℕ) → IsUtf8 line → (words : List (List ℕ)) → HasWords line words → SaysOrFault line
of_words line utf8 words has =
    elim (words_say words) [
      | inl x ↦ inl (x.0, record { utf8 = utf8; words = words; has = has; such = x.1 })
      | inr none ↦
          let f = fault_of words (λ said says. none (said, says)) in
          inr (f.0, inl (record { utf8 = utf8; words = words; has = has; such = f.1 }))
    ]

pub says_or_fault : (line : List ℕ) → SaysOrFault line
says_or_fault line =
    elim (utf8_decided line) [
      | inr refuted ↦ inr (reasons.Syntax, inr (refl, λ h. refuted h.utf8))
      | inl utf8 ↦ elim (words_decided line) [
        | inr none ↦ inr (reasons.Syntax, inr (refl, λ h. none (h.words, h.has)))
        | inl w ↦ of_words line utf8 w.0 w.1
      ]
    ]
