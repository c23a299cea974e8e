-- Whether texts are an instruction.
use Rattle.std.proofs.Common.{ℕ, Option, Some, None, List, refl, inl, pos}
use Rattle.a64_forms.specs.declared.form.Numbers.TheVariants.{Fitting, Any}
use Rattle.a64_forms.specs.Spelling.{HasForm, Spelled}
use Rattle.a64_forms.specs.declared.form.Aim.{Aim}
use Rattle.a64_forms.specs.declared.form.Aim.TheVariants as aims
use Rattle.asm_lines.specs.declared.line.AsmExpr.{AsmExpr}
use Rattle.asm_lines.specs.declared.line.AsmItem.{AsmItem}
use Rattle.asm_lines.specs.declared.line.AsmItem.TheVariants as items
use Rattle.asm_lines.specs.Instructions.{HasAimedShape, HasInstructionShape, HasTargetShape, IsAimed, IsInstruction, IsTarget}
use Rattle.asm_lines.proofs.Decisions.{Decided, as_well}
use Rattle.asm_lines.proofs.DecidedExpressions.{expression, expression_shape}
use Rattle.asm_lines.proofs.DecidedForms.{form_with}
use Rattle.asm_lines.proofs.DecidedLabels.{label}

-- ---- what instructions name

aimed : (aim : Aim) (text : List ℕ) → Decided ((e : AsmExpr) × IsAimed aim text e)
aimed aims.Label text = as_well (λ x. (record { label = x.0; offset = pos 0 }, (x.1, refl))) (λ x. (x.0.label, x.1.0)) (label text)
aimed aims.Expression text = expression text

aimed_shape : (aim : Aim) (text : List ℕ) → Decided (HasAimedShape aim text)
aimed_shape aims.Label text = label text
aimed_shape aims.Expression text = expression_shape text

target : (t : Option (Aim × List ℕ)) → Decided ((e : Option AsmExpr) × IsTarget t e)
target None = inl (None, tt)
target (Some t) = as_well (λ x. (Some x.0, x.1)) back (aimed t.0 t.1) where
  back : (e : Option AsmExpr) × IsTarget (Some t) e → (e : AsmExpr) × IsAimed t.0 t.1 e
  back (None, is) = absurd is
  back (Some e, is) = (e, is)

target_shape : (t : Option (Aim × List ℕ)) → Decided (HasTargetShape t)
target_shape None = inl tt
target_shape (Some t) = aimed_shape t.0 t.1

-- ---- instructions

abbrev Word : List (List ℕ) → Type 0
Word texts = (s : Spelled) × HasForm Fitting texts s × ((e : Option AsmExpr) × IsTarget s.target e)

of_instruction : (texts : List (List ℕ)) (item : AsmItem) → IsInstruction texts item → Word texts
of_instruction texts (items.Word bits target) is = (is.0, is.1, (target, is.3))
of_instruction texts (items.Bytes bytes) is = absurd is
of_instruction texts (items.Zero count) is = absurd is
of_instruction texts (items.Quad e) is = absurd is
of_instruction texts (items.QuadDiff first second offset) is = absurd is
of_instruction texts (items.WordDiff first second offset) is = absurd is
of_instruction texts (items.Entry size scale first second) is = absurd is

pub instruction : (texts : List (List ℕ)) → Decided ((item : AsmItem) × IsInstruction texts item)
instruction texts = as_well
    (λ x. (items.Word x.0.bits x.2.0, (x.0, x.1, refl, x.2.1)))
    (λ x. of_instruction texts x.0 x.1)
    (form_with (λ s. (e : Option AsmExpr) × IsTarget s.target e) (λ s. target s.target) Fitting texts)

pub instruction_shape : (texts : List (List ℕ)) → Decided (HasInstructionShape texts)
instruction_shape texts = form_with (λ s. HasTargetShape s.target) (λ s. target_shape s.target) Any texts
