-- Directives of bytes and words.
use Rattle.std.proofs.Common.{◌≡◌, ◌≢◌, ◌⊎◌, ◌↔◌, ◌<◌, ◌≤◌, ◌^◌, ℕ, List, [], ◌∷◌, ◌++◌, Option, Some, None, Result, Ok, Err, refl, sym, ap, subst, ◌∙◌, inl, inr, arith}
use Rattle.std.specs.Prelude.{IsSome}
use Rattle.std.proofs.lemmas.List.{append_cancel_right}
use Rattle.gr_base.specs.declared.end.End.{End}
use Rattle.gr_base.specs.declared.end.End.TheVariants as ends
use Rattle.hex.specs.Hex.{decode_of}
use Rattle.hex.specs.declared.error.FromHexError.{FromHexError}
use Rattle.hex.specs.declared.error.FromHexError.TheVariants.{OutOfMemory}
use Rattle.a64_forms.specs.declared.form.Numbers.TheVariants.{Any, Fitting}
use Rattle.a64_forms.specs.Number.{IsNumber, IsNumberWord}
use Rattle.a64_inst.specs.Kinds.{operand_kind}
use Rattle.asm_read.specs.declared.fault.TextReason.{TextReason}
use Rattle.asm_read.specs.declared.fault.TextReason.TheVariants as reasons
use Rattle.asm_lines.specs.declared.line.AsmExpr.{AsmExpr}
use Rattle.asm_lines.specs.declared.line.AsmItem.TheVariants as items
use Rattle.asm_lines.specs.declared.line.AsmLine.{AsmLine}
use Rattle.asm_lines.specs.declared.line.AsmLine.TheVariants as lines
use Rattle.asm_lines.specs.Expressions.{HasExpressionShape, IsExpression, Tells}
use Rattle.asm_directives.specs.Answers.{Answers, RefusedBy}
use Rattle.asm_directives.specs.Directives.{IsHex, IsInst, IsInstWith, IsOpenWord, IsZero}
use Rattle.asm_directives.specs.Operands.{IsNumberAs}
use Rattle.asm_directives.proofs.Marks.{Reads, no_read, one_comma}
use Rattle.asm_directives.proofs.Moved.{moved, no_fault, tells_of}

-- ---- bytes

abbrev pub Some_bytes : List ℕ → AsmLine → Type 0
Some_bytes bytes said = (bytes ≢ []) × (said ≡ lines.Item (items.Bytes bytes))

pub same_bytes : (text a b : List ℕ) → decode_of text ≡ Ok a → decode_of text ≡ Ok b → a ≡ b
same_bytes text a b e f = inside (sym e ∙ f) where
  inside : ◌≡◌ {A = Result (List ℕ) FromHexError} (Ok a) (Ok b) → a ≡ b
  inside e = cc

not_both : (text bytes : List ℕ) (error : FromHexError) → decode_of text ≡ Ok bytes → decode_of text ≡ Err error → ⊥
not_both text bytes error e f = apart (sym e ∙ f) where
  apart : ◌≡◌ {A = Result (List ℕ) FromHexError} (Ok bytes) (Err error) → ⊥
  apart e = cc

pub hex_said : (text bytes : List ℕ) (r : Result AsmLine (End TextReason)) → decode_of text ≡ Ok bytes → Answers (Some_bytes bytes) (bytes ≢ []) r → Answers (IsHex text) ((said : AsmLine) × IsHex text said) r
hex_said text bytes r e h = moved
    (Some_bytes bytes) (IsHex text) (bytes ≢ []) ((said : AsmLine) × IsHex text said) r
    (λ said s. (bytes, e, s.0, s.1))
    (λ said s. let same = same_bytes text s.0 bytes s.1 e in (subst (λ (b : List ℕ). b ≢ []) same s.2, s.3 ∙ ap (λ (b : List ℕ). lines.Item (items.Bytes b)) same))
    (λ some. (lines.Item (items.Bytes bytes), (bytes, e, some, refl)))
    (λ s. subst (λ (b : List ℕ). b ≢ []) (same_bytes text s.1.0 bytes s.1.1 e) s.1.2)
    h

pub hex_refused : (text : List ℕ) (error : FromHexError) (end : End TextReason) → (error ≡ OutOfMemory) ⊎ (decode_of text ≡ Err error) → (end ≡ ends.Memory) ⊎ ((end ≡ ends.Fault reasons.Syntax) × (error ≡ OutOfMemory → ⊥)) → RefusedBy (IsHex text) ((said : AsmLine) × IsHex text said) end
hex_refused text error end why is = elim is [
  | inl memory ↦ subst (RefusedBy (IsHex text) ((said : AsmLine) × IsHex text said)) (sym memory) tt
  | inr fault ↦ subst (RefusedBy (IsHex text) ((said : AsmLine) × IsHex text said)) (sym fault.0) (elim why [
    | inl out ↦ absurd (fault.1 out)
    | inr bad ↦ (λ said s. not_both text s.0 error s.1 bad, λ s. not_both text s.1.0 error s.1.1 bad)
  ])
]

-- ---- numbers

-- a directive of one number
abbrev pub Says : (ℕ → Type 0) → (ℕ → AsmLine) → List ℕ → AsmLine → Type 0
Says P line text said = (n : ℕ) × IsNumber text n × P n × (said ≡ line n)

abbrev pub SaysSome : (ℕ → Type 0) → (ℕ → AsmLine) → List ℕ → AsmLine → Type 0
SaysSome P line text said = (n : ℕ) × IsNumberAs Any text n × P n × (said ≡ line n)

abbrev pub SaysAny : (ℕ → Type 0) → (ℕ → AsmLine) → List ℕ → Type 0
SaysAny P line text = (said : AsmLine) × SaysSome P line text said

pub number_found : (P : ℕ → Type 0) (line : ℕ → AsmLine) (text : List ℕ) (n : ℕ) → Reads P text (Some n) → Says P line text (line n)
number_found P line text n read = let is = (read n).0 refl in (n, is.0, is.1, refl)

pub number_refused : (P : ℕ → Type 0) (line : ℕ → AsmLine) (text : List ℕ) (reason : TextReason) → P 0 → Reads P text None → Tells reason (IsNumberWord text) → RefusedBy (Says P line text) (SaysAny P line text) (ends.Fault reason)
number_refused P line text reason zero read tells = (
  λ said s. no_read P text read s.0 s.1 s.2,
  tells_of reason (IsNumberWord text) (SaysAny P line text) (λ word. (line 0, (0, (word, omega arith), zero, refl))) (λ s. s.1.1.0) tells,
)

-- ---- words with expressions

abbrev pub OpenSays : List ℕ → AsmExpr → AsmLine → Type 0
OpenSays number e said = (word : ℕ) × IsNumber number word × IsOpenWord word × (said ≡ lines.Item (items.Word word (Some e)))

pub open_found : (number : List ℕ) (e : AsmExpr) (word : ℕ) → Reads IsOpenWord number (Some word) → OpenSays number e (lines.Item (items.Word word (Some e)))
open_found number e word read = let is = (read word).0 refl in (word, is.0, is.1, refl)

pub open_refused : (number : List ℕ) (e : AsmExpr) (reason : TextReason) → Reads IsOpenWord number None → Tells reason (IsNumberWord number) → RefusedBy (OpenSays number e) (IsNumberWord number) (ends.Fault reason)
open_refused number e reason read tells = (λ said s. no_read IsOpenWord number read s.0 s.1 s.2, tells)

-- the word of a branch has an operand
branch_open : IsOpenWord 335544320
branch_open = (omega arith, refl)

abbrev pub FilledShape : List ℕ → List ℕ → Type 0
FilledShape first second = (said : AsmLine) × IsInstWith Any first second said

module _ (number text : List ℕ) where
  abbrev Filled : AsmLine → Type 0
  Filled = IsInstWith Fitting (number ++ 44 ∷ []) text

  abbrev Shape : Type 0
  Shape = FilledShape (number ++ 44 ∷ []) text

  shape_of : (e : AsmExpr) → HasExpressionShape text → IsNumberWord number → Shape
  shape_of e shape word = (lines.Item (items.Word 335544320 (Some e)), (number, 335544320, e, refl, (word, omega arith), branch_open, shape, refl))

  word_of : Shape → IsNumberWord number
  word_of s = subst IsNumberWord (one_comma number s.1.0 s.1.3) s.1.4.0

  pub filled_said : (e : AsmExpr) → IsExpression text e → HasExpressionShape text → ((other : AsmExpr) → IsExpression text other → e ≡ other) → (r : Result AsmLine (End TextReason)) → Answers (OpenSays number e) (IsNumberWord number) r → Answers Filled Shape r
  filled_said e is shape only r h = moved
      (OpenSays number e) Filled (IsNumberWord number) Shape r
      (λ said o. (number, o.0, e, refl, o.1, o.2, is, o.3))
      (λ said s. (
        s.1,
        subst (λ (d : List ℕ). IsNumber d s.1) (one_comma number s.0 s.3) s.4,
        s.5,
        s.7 ∙ ap (λ (x : AsmExpr). lines.Item (items.Word s.1 (Some x))) (sym (only s.2 s.6)),
      ))
      (λ word. shape_of e shape word)
      (λ s. word_of s)
      h

  pub filled_refused : (e : End TextReason) (reason joint : TextReason) → e ≡ ends.Fault reason → ((other : AsmExpr) → IsExpression text other → e ≡ ends.Memory) → Tells reason (HasExpressionShape text) → (dummy : HasExpressionShape text → AsmExpr)
      → (reason ≡ reasons.Number → Tells joint (IsNumberWord number)) → ((reason ≡ reasons.Number → ⊥) → joint ≡ reasons.Syntax) → RefusedBy Filled Shape (ends.Fault joint)
  filled_refused e reason joint fault only tells dummy same other = (λ said s. no_fault e fault (only s.2 s.6), by_reason reason tells same other)
    where
      by_reason : (reason : TextReason) → Tells reason (HasExpressionShape text) → (reason ≡ reasons.Number → Tells joint (IsNumberWord number)) → ((reason ≡ reasons.Number → ⊥) → joint ≡ reasons.Syntax) → Tells joint Shape
      by_reason reasons.Number shape same other = tells_of joint (IsNumberWord number) Shape (λ word. shape_of (dummy shape) shape word) word_of (same refl)
      by_reason reasons.Syntax none same other = subst (λ (r : TextReason). Tells r Shape) (sym (other (λ e. cc))) (λ s. none s.1.6)
      by_reason reasons.LabelTwice none same other = absurd none
      by_reason reasons.LabelUnknown none same other = absurd none
      by_reason reasons.Directive none same other = absurd none

pub no_comma_word : (first second : List ℕ) → ((front : List ℕ) → first ≡ front ++ 44 ∷ [] → ⊥) → RefusedBy (IsInstWith Fitting first second) (FilledShape first second) (ends.Fault reasons.Syntax)
no_comma_word first second none = (λ said s. none s.0 s.3, λ s. none s.1.0 s.1.3)

pub filled_of : (first second number : List ℕ) (r : Result AsmLine (End TextReason)) → first ≡ number ++ 44 ∷ [] → Answers (IsInstWith Fitting (number ++ 44 ∷ []) second) (FilledShape (number ++ 44 ∷ []) second) r → Answers (IsInstWith Fitting first second) (FilledShape first second) r
filled_of first second number r e h = subst (λ (f : List ℕ). Answers (IsInstWith Fitting f second) (FilledShape f second) r) (sym e) h
