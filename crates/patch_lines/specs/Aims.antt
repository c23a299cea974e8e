-- What a word may not name, by what a symbol stands for.
use Rattle.std.specs.Prelude.{ℕ, ℤ, Bool, false, not, if◌then◌else◌, Option, Some, None}
use Rattle.a64_inst.specs.Kinds.{is_branch}
use Rattle.gt_model.specs.declared.intervals.Block.{Block}
use Rattle.gt_model.specs.declared.modules.Module.{Module}
use Rattle.gt_model.specs.declared.symbols.Payload.{Payload}
use Rattle.gt_model.specs.declared.symbols.Payload.TheVariants as payloads
use Rattle.sym_expr.specs.Expressions.{is_zero}
use Rattle.sym_expr.specs.Modules.{is_code}
use Rattle.patch_lines.specs.Faults.{block_at}

-- a loaded block, or nothing loaded
abbrev pub is_bad_block : ℕ → ℤ → Option Block → Bool
is_bad_block word offset None = false
is_bad_block word offset (Some b) = if is_code b then not (is_zero offset) else is_branch word

abbrev pub is_bad_payload : Module → ℕ → ℤ → Payload → Bool
is_bad_payload m word offset payloads.Nothing = false
is_bad_payload m word offset (payloads.Value value) = is_branch word
is_bad_payload m word offset (payloads.Referent id) = is_bad_block word offset (block_at m id)
