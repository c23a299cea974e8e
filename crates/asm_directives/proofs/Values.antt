-- Directives of addresses and differences.
use Rattle.std.proofs.Common.{◌≡◌, ◌≢◌, ◌⊎◌, ◌↔◌, ℕ, Bool, true, false, IsTrue, List, [], ◌∷◌, ◌++◌, Option, Some, None, Result, Ok, Err, pos, refl, sym, ap, subst, ◌∙◌, inl, inr, codes}
use Rattle.gr_base.specs.declared.end.End.{End}
use Rattle.gr_base.specs.declared.end.End.TheVariants as ends
use Rattle.a64_forms.specs.declared.form.Numbers.{Numbers}
use Rattle.a64_forms.specs.declared.form.Numbers.TheVariants.{Any, Fitting}
use Rattle.asm_read.specs.declared.fault.TextReason.{TextReason}
use Rattle.asm_read.specs.declared.fault.TextReason.TheVariants as reasons
use Rattle.asm_lines.specs.declared.line.AsmExpr.{AsmExpr}
use Rattle.asm_lines.specs.declared.line.AsmItem.{AsmItem}
use Rattle.asm_lines.specs.declared.line.AsmItem.TheVariants as items
use Rattle.asm_lines.specs.declared.line.AsmLine.{AsmLine}
use Rattle.asm_lines.specs.declared.line.AsmLine.TheVariants as lines
use Rattle.asm_lines.specs.declared.line.AsmName.{AsmName}
use Rattle.asm_lines.specs.Expressions.{HasExpressionShape, IsExpression, Tells}
use Rattle.asm_directives.specs.Answers.{Answers, RefusedBy}
use Rattle.asm_directives.specs.Directives.{IsNarrow, IsQuad, IsWord}
use Rattle.asm_directives.specs.Operands.{IsDifference, IsDistance, IsQuarter}
use Rattle.asm_directives.proofs.Differences.{no_bracket, one_inside}
use Rattle.asm_directives.proofs.Moved.{moved, moved_end}

abbrev pub Differ : (AsmName → AsmExpr → AsmItem) → List ℕ → AsmLine → Type 0
Differ item text said = (first : AsmName) × (second : AsmExpr) × IsDifference Fitting text first second × (said ≡ lines.Item (item first second))

abbrev pub DiffersAs : List ℕ → Type 0
DiffersAs text = (first : AsmName) × (second : AsmExpr) × IsDifference Any text first second

abbrev pub quad_of : AsmName → AsmExpr → AsmItem
quad_of first second = items.QuadDiff first second.label second.offset

abbrev pub word_of : AsmName → AsmExpr → AsmItem
word_of first second = items.WordDiff first second.label second.offset

pub differ_end : (item : AsmName → AsmExpr → AsmItem) (text : List ℕ) (end : End TextReason) → RefusedBy (λ (x : AsmName × AsmExpr). IsDifference Fitting text x.0 x.1) (DiffersAs text) end → RefusedBy (Differ item text) (DiffersAs text) end
differ_end item text end h = moved_end
    (λ (x : AsmName × AsmExpr). IsDifference Fitting text x.0 x.1) (Differ item text) (DiffersAs text) (DiffersAs text) end
    (λ said d. ((d.0, d.1), d.2)) (λ s. s) (λ s. s) h

abbrev pub Enters : ℕ → ℕ → List ℕ → AsmLine → Type 0
Enters size scale text said = (first second : AsmName) × IsDistance text first second × (said ≡ lines.Item (items.Entry size scale first second))

abbrev pub EntersAs : List ℕ → Type 0
EntersAs text = (first second : AsmName) × IsDistance text first second

pub entry_end : (size scale : ℕ) (text : List ℕ) (end : End TextReason) → RefusedBy (λ (x : AsmName × AsmName). IsDistance text x.0 x.1) (EntersAs text) end → RefusedBy (Enters size scale text) (EntersAs text) end
entry_end size scale text end h = moved_end
    (λ (x : AsmName × AsmName). IsDistance text x.0 x.1) (Enters size scale text) (EntersAs text) (EntersAs text) end
    (λ said d. ((d.0, d.1), d.2)) (λ s. s) (λ s. s) h

-- ---- eight bytes

abbrev pub QuadShape : List ℕ → Type 0
QuadShape text = (said : AsmLine) × IsQuad Any text said

pub none_of : (text : List ℕ) (e : End TextReason) {reason : TextReason} → e ≡ ends.Fault reason → ((x : AsmExpr) → IsExpression text x → e ≡ ends.Memory) → (x : AsmExpr) → IsExpression text x → ⊥
none_of text e fault only x is = let memory = only x is in cc

module _ (text : List ℕ) (none : (e : AsmExpr) → IsExpression text e → ⊥) where
  pub quad_number : HasExpressionShape text → RefusedBy (IsQuad Fitting text) (QuadShape text) (ends.Fault reasons.Number)
  quad_number shape = (
    λ said q. elim q [ inl x ↦ none x.0 x.1 | inr d ↦ d.0 shape ],
    let e : AsmExpr = record { label = shape.name; offset = pos 0 } in (lines.Item (items.Quad e), inl (e, shape, refl)),
  )

  pub quad_differs : (HasExpressionShape text → ⊥) → (r : Result AsmLine (End TextReason)) → Answers (Differ quad_of text) (DiffersAs text) r → Answers (IsQuad Fitting text) (QuadShape text) r
  quad_differs plain r h = moved
      (Differ quad_of text) (IsQuad Fitting text) (DiffersAs text) (QuadShape text) r
      (λ said d. inr (plain, d.0, d.1, d.2, d.3))
      (λ said q. elim q [ inl x ↦ absurd (none x.0 x.1) | inr d ↦ (d.1, d.2, d.3, d.4) ])
      (λ d. (lines.Item (quad_of d.0 d.1), inr (plain, d.0, d.1, d.2, refl)))
      (λ s. elim s.1 [ inl x ↦ absurd (plain x.1) | inr d ↦ (d.1, d.2, d.3) ])
      h

pub number_tells : (reason : TextReason) (P : Type 0) → reason ≡ reasons.Number → Tells reason P → P
number_tells reason P e h = subst (λ (r : TextReason). Tells r P) e h

pub other_tells : (reason : TextReason) (P : Type 0) → (reason ≡ reasons.Number → ⊥) → Tells reason P → P → ⊥
other_tells reasons.Number P other h = absurd (other refl)
other_tells reasons.Syntax P other h = h
other_tells reasons.LabelTwice P other h = absurd h
other_tells reasons.LabelUnknown P other h = absurd h
other_tells reasons.Directive P other h = absurd h

-- ---- four bytes

abbrev pub WordShape : List ℕ → Type 0
WordShape text = (said : AsmLine) × IsWord Any text said

-- a difference begins with a label
unbracketed : (n : Numbers) (text inside : List ℕ) (first : AsmName) (second : AsmExpr) → text ≡ 40 ∷ inside → IsDifference n text first second → ⊥
unbracketed n text inside first second e d = no_bracket text d.0 (45 ∷ d.1) inside first d.2 d.3 e

pub word_quarter : (text inside : List ℕ) (r : Result AsmLine (End TextReason)) → text ≡ 40 ∷ inside ++ codes ")/4" → Answers (Enters 4 4 inside) (EntersAs inside) r → Answers (IsWord Fitting text) (WordShape text) r
word_quarter text inside r e h = moved
    (Enters 4 4 inside) (IsWord Fitting text) (EntersAs inside) (WordShape text) r
    (λ said d. inr (d.0, d.1, (inside, e, d.2), d.3))
    (λ said w. elim w [ inl d ↦ absurd (unbracketed Fitting text (inside ++ codes ")/4") d.0 d.1 e d.2) | inr q ↦ (q.0, q.1, subst (λ (i : List ℕ). IsDistance i q.0 q.1) (one_inside text q.2.0 inside q.2.1 e) q.2.2, q.3) ])
    (λ d. (lines.Item (items.Entry 4 4 d.0 d.1), inr (d.0, d.1, (inside, e, d.2), refl)))
    (λ s. elim s.1 [ inl d ↦ absurd (unbracketed Any text (inside ++ codes ")/4") d.0 d.1 e d.2) | inr q ↦ (q.0, q.1, subst (λ (i : List ℕ). IsDistance i q.0 q.1) (one_inside text q.2.0 inside q.2.1 e) q.2.2) ])
    h

pub word_plain : (text : List ℕ) (r : Result AsmLine (End TextReason)) → ((inside : List ℕ) → text ≡ 40 ∷ inside ++ codes ")/4" → ⊥) → Answers (Differ word_of text) (DiffersAs text) r → Answers (IsWord Fitting text) (WordShape text) r
word_plain text r none h = moved
    (Differ word_of text) (IsWord Fitting text) (DiffersAs text) (WordShape text) r
    (λ said d. inl d)
    (λ said w. elim w [ inl d ↦ d | inr q ↦ absurd (none q.2.0 q.2.1) ])
    (λ d. (lines.Item (word_of d.0 d.1), inl (d.0, d.1, d.2, refl)))
    (λ s. elim s.1 [ inl d ↦ (d.0, d.1, d.2) | inr q ↦ absurd (none q.2.0 q.2.1) ])
    h

-- ---- one byte or two

unbracketed_distance : (text inside : List ℕ) (first second : AsmName) → text ≡ 40 ∷ inside → IsDistance text first second → ⊥
unbracketed_distance text inside first second e d = no_bracket text d.0 (45 ∷ d.1) inside first d.2 d.3 e

pub narrow_quarter : (size : ℕ) (text inside : List ℕ) (r : Result AsmLine (End TextReason)) → text ≡ 40 ∷ inside ++ codes ")/4" → Answers (Enters size 4 inside) (EntersAs inside) r → Answers (IsNarrow size text) ((said : AsmLine) × IsNarrow size text said) r
narrow_quarter size text inside r e h = moved
    (Enters size 4 inside) (IsNarrow size text) (EntersAs inside) ((said : AsmLine) × IsNarrow size text said) r
    (λ said d. inr (d.0, d.1, (inside, e, d.2), d.3))
    (λ said w. elim w [ inl d ↦ absurd (unbracketed_distance text (inside ++ codes ")/4") d.0 d.1 e d.2) | inr q ↦ (q.0, q.1, subst (λ (i : List ℕ). IsDistance i q.0 q.1) (one_inside text q.2.0 inside q.2.1 e) q.2.2, q.3) ])
    (λ d. (lines.Item (items.Entry size 4 d.0 d.1), inr (d.0, d.1, (inside, e, d.2), refl)))
    (λ s. elim s.1 [ inl d ↦ absurd (unbracketed_distance text (inside ++ codes ")/4") d.0 d.1 e d.2) | inr q ↦ (q.0, q.1, subst (λ (i : List ℕ). IsDistance i q.0 q.1) (one_inside text q.2.0 inside q.2.1 e) q.2.2) ])
    h

pub narrow_plain : (size : ℕ) (text : List ℕ) (r : Result AsmLine (End TextReason)) → ((inside : List ℕ) → text ≡ 40 ∷ inside ++ codes ")/4" → ⊥) → Answers (Enters size 1 text) (EntersAs text) r → Answers (IsNarrow size text) ((said : AsmLine) × IsNarrow size text said) r
narrow_plain size text r none h = moved
    (Enters size 1 text) (IsNarrow size text) (EntersAs text) ((said : AsmLine) × IsNarrow size text said) r
    (λ said d. inl d)
    (λ said w. elim w [ inl d ↦ d | inr q ↦ absurd (none q.2.0 q.2.1) ])
    (λ d. (lines.Item (items.Entry size 1 d.0 d.1), inl (d.0, d.1, d.2, refl)))
    (λ s. elim s.1 [ inl d ↦ (d.0, d.1, d.2) | inr q ↦ absurd (none q.2.0 q.2.1) ])
    h
