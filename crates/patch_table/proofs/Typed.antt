-- What lines hold is of its types.
use Rattle.std.proofs.Common.{◌≡◌, ◌<◌, ◌^◌, ℕ, Bool, true, false, not, Option, Some, None, List, refl, subst, sym}
use Rattle.std.specs.Prelude.{IfSome, IsSome, IsUtf8, MatchOption}
use Rattle.std.specs.Option.{is_some, option_map}
use Rattle.a64_inst.specs.Kinds.{operand_kind}
use Rattle.gt_model.specs.Typed.{IsI64}
use Rattle.sym_expr.specs.TableOk.{is_aimed}
use Rattle.asm_lines.specs.declared.line.AsmExpr.{AsmExpr}
use Rattle.asm_lines.specs.declared.line.AsmLine.TheVariants as asm
use Rattle.asm_lines.specs.declared.line.AsmName.{AsmName}
use Rattle.asm_lines.specs.Lines.{IsLine}
use Rattle.patch_lines.specs.declared.line.LabelSum.{LabelSum}
use Rattle.patch_lines.specs.Values.{IsWordLine}
use Rattle.patch_table.specs.PatchLines.{has_aim, label_sum}

not_aimed : (b : Bool) → not b ≡ true → b ≡ false
not_aimed true h = cc
not_aimed false h = cc

some_kind : {A : Type 0} (o : Option A) → is_some o ≡ true → IsSome o
some_kind None h = cc
some_kind (Some x) h = refl

-- a word that may stand in patch text, with what it names
aimed_well : (word : ℕ) (target : Option AsmExpr) → IfSome (option_map label_sum target) (λ (s : LabelSum). IsI64 s.offset) → has_aim word target ≡ true
    → MatchOption (option_map label_sum target) (is_aimed word ≡ false) (λ (s : LabelSum). IsSome (operand_kind word) × IsI64 s.offset)
aimed_well word None typed has = not_aimed (is_aimed word) has
aimed_well word (Some e) typed has = (some_kind (operand_kind word) has, typed)

pub word_typed : (word : ℕ) (target : Option AsmExpr) (sum : Option LabelSum) → word < 2 ^ 32 → sum ≡ option_map label_sum target → IfSome sum (λ (s : LabelSum). IsI64 s.offset) → has_aim word target ≡ true → IsWordLine word sum
word_typed word target sum below same typed has = record {
  word = below;
  aim = subst (λ (o : Option LabelSum). MatchOption o (is_aimed word ≡ false) (λ (s : LabelSum). IsSome (operand_kind word) × IsI64 s.offset)) (sym same)
      (aimed_well word target (subst (λ (o : Option LabelSum). IfSome o (λ (s : LabelSum). IsI64 s.offset)) same typed) has);
}

-- the name of a line that is a label is UTF-8
pub label_utf8 : (line : List ℕ) (label : AsmName) → IsLine line (asm.Label label) → IsUtf8 label.name
label_utf8 line label is = is.such.2.utf8
