-- What lines that were read hold: values of their types, and words that may stand there.
use Rattle.std.specs.Prelude.{◌≡◌, ℕ, ◌<◌, ◌^◌, false, Option, IsSome, MatchOption, IsUtf8}
use Rattle.a64_inst.specs.Kinds.{operand_kind}
use Rattle.gt_model.specs.Typed.{IsU64, IsI64}
use Rattle.sym_expr.specs.TableOk.{is_aimed}
use Rattle.patch_lines.specs.declared.line.LabelSum.{LabelSum}
use Rattle.patch_lines.specs.declared.line.PatchLine.{PatchLine}
use Rattle.patch_lines.specs.declared.line.PatchLine.TheVariants as lines

-- only a word that has an operand names something, and one that makes no sense without a target does
pub record IsWordLine (bits : ℕ) (sum : Option LabelSum) : Type 0 where
  pub word : bits < 2 ^ 32
  pub aim : MatchOption sum (is_aimed bits ≡ false) (λ (s : LabelSum). IsSome (operand_kind bits) × IsI64 s.offset)

abbrev pub typed_line : PatchLine → Type 0
typed_line (lines.Insert spot offset) = IsU64 offset
typed_line (lines.Function name) = IsUtf8 name
typed_line (lines.Label name) = IsUtf8 name
typed_line (lines.Word word sum) = IsWordLine word sum
typed_line _ = Unit {0}
