-- Differences of labels.
use Rattle.std.proofs.Common.{◌≡◌, ◌⊎◌, ◌↔◌, ◌<◌, ◌≤◌, ◌||◌, ◌==◌, ℕ, Bool, true, false, IsTrue, List, [], ◌∷◌, ◌++◌, Option, Some, None, Result, Ok, Err, pos, refl, sym, ap, subst, ◌∙◌, inl, inr, arith, codes}
use Rattle.std.specs.Prelude.{MatchOption}
use Rattle.std.proofs.lemmas.List.{append_cancel_right}
use Rattle.gr_base.specs.declared.end.End.{End}
use Rattle.gr_base.specs.declared.end.End.TheVariants as ends
use Rattle.a64_forms.specs.declared.form.Numbers.TheVariants.{Any, Fitting}
use Rattle.asm_read.specs.declared.fault.TextReason.{TextReason}
use Rattle.asm_read.specs.declared.fault.TextReason.TheVariants as reasons
use Rattle.asm_lines.specs.declared.line.AsmExpr.{AsmExpr}
use Rattle.asm_lines.specs.declared.line.AsmName.{AsmName}
use Rattle.asm_lines.specs.Expressions.{HasExpressionShape, IsExpression, Tells}
use Rattle.asm_lines.specs.Labels.{EndsLabel, IsBare, IsLabel, IsName, begins_bare, quoted}
use Rattle.asm_directives.specs.Answers.{Answers, RefusedBy}
use Rattle.asm_directives.specs.Operands.{IsDifference, IsDistance, IsExpressionAs, IsQuarter}
use Rattle.asm_directives.proofs.Moved.{heads, moved_end, no_fault, tails}

-- ---- where a label ends

-- the law of labels: ahead of the end or of a sign stands one at most
abbrev pub OneAhead : Type 0
OneAhead = (text a x b y : List ℕ) (m n : AsmName) → text ≡ a ++ x → text ≡ b ++ y → IsLabel a m → IsLabel b n → EndsLabel x → EndsLabel y → (m ≡ n) × (x ≡ y)

pub minus_ends : (behind : List ℕ) → EndsLabel (45 ∷ behind)
minus_ends behind = inr refl

pub joined : (text label rest behind : List ℕ) → text ≡ label ++ rest → rest ≡ 45 ∷ behind → text ≡ label ++ 45 ∷ behind
joined text label rest behind e f = e ∙ ap (λ (r : List ℕ). label ++ r) f

pub behind_one : (a rest b : List ℕ) → rest ≡ 45 ∷ a → rest ≡ 45 ∷ b → a ≡ b
behind_one a rest b e f = tails 45 45 a b (sym e ∙ f)

-- ---- readers of both labels

-- no minus sign behind a label
pub no_split : (text : List ℕ) (end : End TextReason) → ((label behind : List ℕ) (name : AsmName) → text ≡ label ++ 45 ∷ behind → IsLabel label name → end ≡ ends.Memory)
    → ((reason : TextReason) → ◌≡◌ {A = End TextReason} end (ends.Fault reason) → reason ≡ reasons.Syntax)
    → RefusedBy (λ (x : AsmName × AsmExpr). IsDifference Fitting text x.0 x.1) ((first : AsmName) × (second : AsmExpr) × IsDifference Any text first second) end
no_split text ends.Memory only reason = tt
no_split text (ends.Fault reason) only is = subst
    (λ (r : TextReason). RefusedBy (λ (x : AsmName × AsmExpr). IsDifference Fitting text x.0 x.1) ((first : AsmName) × (second : AsmExpr) × IsDifference Any text first second) (ends.Fault r))
    (sym (is reason refl))
    (λ x d. no_fault (ends.Fault reason) refl (only d.0 d.1 x.0 d.2 d.3), λ s. no_fault (ends.Fault reason) refl (only s.2.0 s.2.1 s.0 s.2.2 s.2.3))

pub no_distance : (text : List ℕ) (end : End TextReason) → ((label behind : List ℕ) (name : AsmName) → text ≡ label ++ 45 ∷ behind → IsLabel label name → end ≡ ends.Memory)
    → ((reason : TextReason) → ◌≡◌ {A = End TextReason} end (ends.Fault reason) → reason ≡ reasons.Syntax)
    → RefusedBy (λ (x : AsmName × AsmName). IsDistance text x.0 x.1) ((first second : AsmName) × IsDistance text first second) end
no_distance text ends.Memory only reason = tt
no_distance text (ends.Fault reason) only is = subst
    (λ (r : TextReason). RefusedBy (λ (x : AsmName × AsmName). IsDistance text x.0 x.1) ((first second : AsmName) × IsDistance text first second) (ends.Fault r))
    (sym (is reason refl))
    (λ x d. no_fault (ends.Fault reason) refl (only d.0 d.1 x.0 d.2 d.3), λ s. no_fault (ends.Fault reason) refl (only s.2.0 s.2.1 s.0 s.2.2 s.2.3))

-- what a reader's clauses say of its refusals
pub ended : {A : Type 0} (P : A → Type 0) (S : Type 0) (end : End TextReason) → ((x : A) → P x → end ≡ ends.Memory) → ((reason : TextReason) → ◌≡◌ {A = End TextReason} end (ends.Fault reason) → Tells reason S) → RefusedBy P S end
ended P S ends.Memory only reason = tt
ended P S (ends.Fault reason) only tells = (λ x p. no_fault (ends.Fault reason) refl (only x p), tells reason refl)

module _ (text label behind : List ℕ) (first : AsmName) (parts : text ≡ label ++ 45 ∷ behind) (is : IsLabel label first)
    (only : (l b : List ℕ) (name : AsmName) → text ≡ l ++ 45 ∷ b → IsLabel l name → (first ≡ name) × (behind ≡ b)) where
  pub difference_end : (end : End TextReason) → ((e : AsmExpr) → IsExpression behind e → end ≡ ends.Memory) → ((reason : TextReason) → ◌≡◌ {A = End TextReason} end (ends.Fault reason) → Tells reason (HasExpressionShape behind))
      → RefusedBy (λ (x : AsmName × AsmExpr). IsDifference Fitting text x.0 x.1) ((first : AsmName) × (second : AsmExpr) × IsDifference Any text first second) end
  difference_end end none tells = moved_end
      (λ (e : AsmExpr). IsExpression behind e) (λ (x : AsmName × AsmExpr). IsDifference Fitting text x.0 x.1)
      (HasExpressionShape behind) ((first : AsmName) × (second : AsmExpr) × IsDifference Any text first second) end
      (λ x d. (x.1, subst (λ (b : List ℕ). IsExpression b x.1) (sym (only d.0 d.1 x.0 d.2 d.3).1) d.4))
      (λ shape. (first, record { label = first; offset = pos 0 }, (label, behind, parts, is, shape)))
      (λ s. subst HasExpressionShape (sym (only s.2.0 s.2.1 s.0 s.2.2 s.2.3).1) s.2.4)
      (ended (λ (e : AsmExpr). IsExpression behind e) (HasExpressionShape behind) end none tells)

  pub distance_end : (end : End TextReason) → ((name : AsmName) → IsLabel behind name → end ≡ ends.Memory) → ((reason : TextReason) → ◌≡◌ {A = End TextReason} end (ends.Fault reason) → reason ≡ reasons.Syntax)
      → RefusedBy (λ (x : AsmName × AsmName). IsDistance text x.0 x.1) ((first second : AsmName) × IsDistance text first second) end
  distance_end ends.Memory none syntax = tt
  distance_end (ends.Fault reason) none syntax = subst
      (λ (r : TextReason). RefusedBy (λ (x : AsmName × AsmName). IsDistance text x.0 x.1) ((first second : AsmName) × IsDistance text first second) (ends.Fault r))
      (sym (syntax reason refl)) (
        λ x d. no_fault (ends.Fault reason) refl (none x.1 (subst (λ (b : List ℕ). IsLabel b x.1) (sym (only d.0 d.1 x.0 d.2 d.3).1) d.4)),
        λ s. no_fault (ends.Fault reason) refl (none s.1 (subst (λ (b : List ℕ). IsLabel b s.1) (sym (only s.2.0 s.2.1 s.0 s.2.2 s.2.3).1) s.2.4)),
      )

-- ---- how labels begin

abbrev Begins : List ℕ → Type 0
Begins text = (b : ℕ) × (rest : List ℕ) × (text ≡ b ∷ rest) × (IsTrue (begins_bare b) ⊎ (b ≡ 34))

bare_begins : (spelling : List ℕ) → IsBare spelling → Begins spelling
bare_begins [] is = absurd is
bare_begins (b ∷ rest) is = (b, rest, refl, inl is.0)

spelling_begins : (spelling name : List ℕ) → IsName spelling name → Begins spelling
spelling_begins spelling name is = elim is [ inl h ↦ bare_begins spelling h.0 | inr e ↦ (34, _, e, inr refl) ]

pub label_begins : (label : List ℕ) (name : AsmName) → IsLabel label name → Begins label
label_begins label name is =
    let s = spelling_begins is.spelling name.name is.name_is in
    (s.0, s.1 ++ is.ordinal, is.parts ∙ ap (λ (l : List ℕ). l ++ is.ordinal) s.2, s.3)

text_begins : (text label behind : List ℕ) (name : AsmName) → text ≡ label ++ behind → IsLabel label name → Begins text
text_begins text label behind name e is =
    let s = label_begins label name is in
    (s.0, s.1 ++ behind, e ∙ ap (λ (l : List ℕ). l ++ behind) s.2, s.3)

no_bracket_byte : (b : ℕ) → IsTrue (begins_bare b) ⊎ (b ≡ 34) → b ≡ 40 → ⊥
no_bracket_byte b is e = elim is [ inl bare ↦ no_bare (subst (λ (n : ℕ). IsTrue (begins_bare n)) e bare) | inr quote ↦ absurd (omega (arith, e, quote)) ]
  where
    no_bare : IsTrue (begins_bare 40) → ⊥
    no_bare h = cc

-- a bracket begins no label
pub no_bracket : (text label behind inside : List ℕ) (name : AsmName) → text ≡ label ++ behind → IsLabel label name → text ≡ 40 ∷ inside → ⊥
no_bracket text label behind inside name e is f =
    let s = text_begins text label behind name e is in
    no_bracket_byte s.0 s.3 (heads s.0 40 s.1 inside (sym s.2 ∙ f))

-- what stands in brackets stands there once
pub one_inside : (text a b : List ℕ) → text ≡ 40 ∷ a ++ codes ")/4" → text ≡ 40 ∷ b ++ codes ")/4" → a ≡ b
one_inside text a b e f = append_cancel_right a b (codes ")/4") (tails 40 40 (a ++ codes ")/4") (b ++ codes ")/4") (sym e ∙ f))

-- ---- brackets

-- what stands before the end behind a bracket
pub quarter_of : {A : Type 0} (r : Option A) (now : A → List ℕ) (text rest : List ℕ) → text ≡ 40 ∷ rest → MatchOption r ((front : List ℕ) → rest ≡ front ++ codes ")/4" → ⊥) (λ x. rest ≡ now x ++ codes ")/4")
    → MatchOption r ((inside : List ℕ) → text ≡ 40 ∷ inside ++ codes ")/4" → ⊥) (λ x. text ≡ 40 ∷ now x ++ codes ")/4")
quarter_of {A} None now text rest e h = λ inside f. h inside (tails 40 40 rest (inside ++ codes ")/4") (sym e ∙ f))
quarter_of {A} (Some x) now text rest e h = e ∙ ap (λ (r : List ℕ). 40 ∷ r) h
