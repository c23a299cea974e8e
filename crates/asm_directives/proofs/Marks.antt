-- Directives that mark places.
use Rattle.std.proofs.Common.{◌≡◌, ◌↔◌, ◌<◌, ◌^◌, ℕ, List, [], ◌∷◌, ◌++◌, Option, Some, None, Result, Ok, Err, refl, sym, ap, subst, ◌∙◌, arith}
use Rattle.std.proofs.lemmas.List.{append_cancel_right}
use Rattle.gr_base.specs.declared.end.End.{End}
use Rattle.gr_base.specs.declared.end.End.TheVariants as ends
use Rattle.a64_forms.specs.declared.form.Numbers.TheVariants.{Any, Fitting}
use Rattle.a64_forms.specs.Number.{IsNumber, IsNumberWord}
use Rattle.asm_read.specs.declared.fault.TextReason.{TextReason}
use Rattle.asm_read.specs.declared.fault.TextReason.TheVariants as reasons
use Rattle.asm_read.specs.Identifier.{identifier_of}
use Rattle.asm_lines.specs.declared.line.AsmLine.{AsmLine}
use Rattle.asm_lines.specs.declared.line.AsmLine.TheVariants as lines
use Rattle.asm_lines.specs.declared.line.AsmName.{AsmName}
use Rattle.asm_lines.specs.Expressions.{Tells}
use Rattle.asm_lines.specs.Labels.{IsLabel}
use Rattle.asm_directives.specs.Answers.{Answers, RefusedBy}
use Rattle.asm_directives.specs.Directives.{IsAlignment, IsInterval, IsIntervalAt, IsResidue, IsSection, IsSet, plain}
use Rattle.asm_directives.specs.Operands.{IsNumberAs}
use Rattle.asm_directives.proofs.Moved.{moved, no_fault, tells_of}
use Rattle.asm_directives.proofs.Numbers.{as_any, none_read}

-- ---- absolute labels

abbrev pub IsValue : AsmName → List ℕ → AsmLine → Type 0
IsValue name number said = (value : ℕ) × IsNumber number value × (said ≡ lines.Set name value)

pub set_refused : (name : AsmName) (number : List ℕ) (reason : TextReason) → ((n : ℕ) → (None ≡ Some n) ↔ IsNumber number n) → Tells reason (IsNumberWord number) → RefusedBy (IsValue name number) (IsNumberWord number) (ends.Fault reason)
set_refused name number reason none tells = (λ said is. none_read number none is.0 is.1, tells)

-- what stands before the comma is the label
pub one_comma : (label other : List ℕ) → label ++ 44 ∷ [] ≡ other ++ 44 ∷ [] → other ≡ label
one_comma label other e = append_cancel_right other label (44 ∷ []) (sym e)

module _ (label number : List ℕ) where
  pub set_said : (name : AsmName) → IsLabel label name → ((other : AsmName) → IsLabel label other → name ≡ other) → (r : Result AsmLine (End TextReason)) → Answers (IsValue name number) (IsNumberWord number) r → Answers (IsSet Fitting (label ++ 44 ∷ []) number) ((said : AsmLine) × IsSet Any (label ++ 44 ∷ []) number said) r
  set_said name is only r h = moved
      (IsValue name number) (IsSet Fitting (label ++ 44 ∷ []) number) (IsNumberWord number) ((said : AsmLine) × IsSet Any (label ++ 44 ∷ []) number said) r
      (λ said v. (label, name, v.0, refl, is, v.1, v.2))
      (λ said s.
      let other = subst (λ (l : List ℕ). IsLabel l s.1) (one_comma label s.0 s.3) s.4 in
      (s.2, s.5, s.6 ∙ ap (λ (a : AsmName). lines.Set a s.2) (sym (only s.1 other))))
      (λ word. (lines.Set name 0, (label, name, 0, refl, is, (word, omega arith), refl)))
      (λ s. s.1.5.0)
      h

  pub no_set : (e : End TextReason) {reason : TextReason} → e ≡ ends.Fault reason → ((other : AsmName) → IsLabel label other → e ≡ ends.Memory) → RefusedBy (IsSet Fitting (label ++ 44 ∷ []) number) ((said : AsmLine) × IsSet Any (label ++ 44 ∷ []) number said) (ends.Fault reasons.Syntax)
  no_set e fault only = (λ said s. none s.0 s.1 s.3 s.4, λ s. none s.1.0 s.1.1 s.1.3 s.1.4)
    where
      none : (other : List ℕ) (name : AsmName) → label ++ 44 ∷ [] ≡ other ++ 44 ∷ [] → IsLabel other name → ⊥
      none other name same is = no_fault e fault (only name (subst (λ (l : List ℕ). IsLabel l name) (one_comma label other same) is))

pub no_comma_set : (first second : List ℕ) → ((front : List ℕ) → first ≡ front ++ 44 ∷ [] → ⊥) → RefusedBy (IsSet Fitting first second) ((said : AsmLine) × IsSet Any first second said) (ends.Fault reasons.Syntax)
no_comma_set first second none = (λ said s. none s.0 s.3, λ s. none s.1.0 s.1.3)

pub set_of : (first second label : List ℕ) (r : Result AsmLine (End TextReason)) → first ≡ label ++ 44 ∷ [] → Answers (IsSet Fitting (label ++ 44 ∷ []) second) ((said : AsmLine) × IsSet Any (label ++ 44 ∷ []) second said) r → Answers (IsSet Fitting first second) ((said : AsmLine) × IsSet Any first second said) r
set_of first second label r e h = subst (λ (f : List ℕ). Answers (IsSet Fitting f second) ((said : AsmLine) × IsSet Any f second said) r) (sym e) h

-- ---- sections

abbrev Refused : List ℕ → Type 0
Refused text = RefusedBy (IsSection text) ((said : AsmLine) × IsSection text said) (ends.Fault reasons.Syntax)

pub no_section : (text : List ℕ) (e : End TextReason) {reason : TextReason} → e ≡ ends.Fault reason → ((other : AsmName) → IsLabel text other → e ≡ ends.Memory) → Refused text
no_section text e fault only = (λ said s. no_fault e fault (only (plain s.0) s.1), λ s. no_fault e fault (only (plain s.1.0) s.1.1))

abbrev pub IsPlain : AsmName → AsmLine → Type 0
IsPlain label said = (name : List ℕ) × (label ≡ plain name) × (said ≡ lines.Section name)

abbrev pub HasPlain : AsmName → Type 0
HasPlain label = (name : List ℕ) × (label ≡ plain name)

no_plain : (label : AsmName) (name : List ℕ) (k : ℕ) → label.ordinal ≡ Some k → label ≡ plain name → ⊥
no_plain label name k e same = let none : label.ordinal ≡ None = ap (λ (l : AsmName). l.ordinal) same in cc

pub ordinal_refused : (label : AsmName) (k : ℕ) → label.ordinal ≡ Some k → RefusedBy (IsPlain label) (HasPlain label) (ends.Fault reasons.Syntax)
ordinal_refused label k e = (λ said p. no_plain label p.0 k e p.1, λ p. no_plain label p.0 k e p.1)

pub section_said : (text : List ℕ) (label : AsmName) → IsLabel text label → ((other : AsmName) → IsLabel text other → label ≡ other) → (r : Result AsmLine (End TextReason)) → Answers (IsPlain label) (HasPlain label) r → Answers (IsSection text) ((said : AsmLine) × IsSection text said) r
section_said text label is only r h = moved
    (IsPlain label) (IsSection text) (HasPlain label) ((said : AsmLine) × IsSection text said) r
    (λ said p. (p.0, subst (λ (l : AsmName). IsLabel text l) p.1 is, p.2))
    (λ said s. (s.0, only (plain s.0) s.1, s.2))
    (λ p. (lines.Section p.0, (p.0, subst (λ (l : AsmName). IsLabel text l) p.1 is, refl)))
    (λ s. (s.1.0, only (plain s.1.0) s.1.1))
    h

-- ---- intervals

none_some : (uuid : List ℕ) (o : Option (List ℕ)) → None ≡ o → o ≡ Some uuid → ⊥
none_some uuid o e f = cc

pub some_id : (a b : List ℕ) (o : Option (List ℕ)) → Some a ≡ o → o ≡ Some b → a ≡ b
some_id a b o e f = cc

pub no_id : (first second : List ℕ) → None ≡ identifier_of first → RefusedBy (IsInterval Fitting first second) ((said : AsmLine) × IsInterval Any first second said) (ends.Fault reasons.Syntax)
no_id first second none = (λ said s. none_some s.0 (identifier_of first) none s.2, λ s. none_some s.1.0 (identifier_of first) none s.1.2)

pub no_id_at : (first second third : List ℕ) → None ≡ identifier_of first → RefusedBy (IsIntervalAt Fitting first second third) ((said : AsmLine) × IsIntervalAt Any first second third said) (ends.Fault reasons.Syntax)
no_id_at first second third none = (λ said s. none_some s.0 (identifier_of first) none s.3, λ s. none_some s.1.0 (identifier_of first) none s.1.3)

-- an alignment is read, or none
abbrev pub Reads : (ℕ → Type 0) → List ℕ → Option ℕ → Type 0
Reads P word r = (n : ℕ) → (r ≡ Some n) ↔ (IsNumber word n × P n)

pub no_read : (P : ℕ → Type 0) (word : List ℕ) → Reads P word None → (n : ℕ) → IsNumber word n → P n → ⊥
no_read P word h n is p = let no = (h n).1 (is, p) in cc

found : (P : ℕ → Type 0) (word : List ℕ) (k : ℕ) → Reads P word (Some k) → IsNumber word k × P k
found P word k h = (h k).0 refl

same_read : (P : ℕ → Type 0) (word : List ℕ) (k n : ℕ) → Reads P word (Some k) → IsNumber word n → P n → k ≡ n
same_read P word k n h is p = let same : Some k ≡ Some n = (h n).1 (is, p) in cc

pub one_aligned : IsAlignment 1
unfolding lib.Count.ones
one_aligned = (refl, omega arith)

module _ (first second uuid : List ℕ) (id : Some uuid ≡ identifier_of first) where
  pub interval_found : (align : ℕ) → Reads IsAlignment second (Some align) → IsInterval Fitting first second (lines.Interval uuid align None)
  interval_found align read = let is = found IsAlignment second align read in (uuid, align, sym id, is.0, is.1, refl)

  pub interval_refused : (reason : TextReason) → Reads IsAlignment second None → Tells reason (IsNumberWord second) → RefusedBy (IsInterval Fitting first second) ((said : AsmLine) × IsInterval Any first second said) (ends.Fault reason)
  interval_refused reason read tells = (
    λ said s. no_read IsAlignment second read s.1 s.3 s.4,
    tells_of
        reason (IsNumberWord second) ((said : AsmLine) × IsInterval Any first second said)
        (λ word. (lines.Interval uuid 1 None, (uuid, 1, sym id, (word, omega arith), one_aligned, refl)))
        (λ s. s.1.3.0)
        tells,
  )

  module _ (third : List ℕ) where
    abbrev Shape : Type 0
    Shape = (said : AsmLine) × IsIntervalAt Any first second third said

    shape : (reason : TextReason) → Tells reason (IsNumberWord second × IsNumberWord third) → Tells reason Shape
    shape reason tells = tells_of
        reason (IsNumberWord second × IsNumberWord third) Shape
        (λ words. (lines.Interval uuid 1 (Some 0), (uuid, 1, 0, sym id, (words.0, omega arith), one_aligned, (words.1, omega arith), (omega arith, refl), refl)))
        (λ s. (s.1.4.0, s.1.6.0))
        tells

    pub no_alignment : (reason : TextReason) → Reads IsAlignment second None → Tells reason (IsNumberWord second × IsNumberWord third) → RefusedBy (IsIntervalAt Fitting first second third) Shape (ends.Fault reason)
    no_alignment reason read tells = (λ said s. no_read IsAlignment second read s.1 s.4 s.5, shape reason tells)

    pub no_residue : (align : ℕ) (reason : TextReason) → Reads IsAlignment second (Some align) → Reads (IsResidue align) third None → Tells reason (IsNumberWord second × IsNumberWord third) → RefusedBy (IsIntervalAt Fitting first second third) Shape (ends.Fault reason)
    no_residue align reason aligned read tells = (
      λ said s.
          let same = same_read IsAlignment second align s.1 aligned s.4 s.5 in
          no_read (IsResidue align) third read s.2 s.6 (subst (λ (a : ℕ). IsResidue a s.2) (sym same) s.7),
      shape reason tells,
    )

    pub interval_at_found : (align residue : ℕ) → Reads IsAlignment second (Some align) → Reads (IsResidue align) third (Some residue) → IsIntervalAt Fitting first second third (lines.Interval uuid align (Some residue))
    interval_at_found align residue aligned read =
        let a = found IsAlignment second align aligned in
        let r = found (IsResidue align) third residue read in
        (uuid, align, residue, sym id, a.0, a.1, r.0, r.1, refl)
