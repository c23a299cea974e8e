-- Identifiers that are taken, in small modules: evaluated, and cited by nothing.
use Rattle.std.proofs.Common.{◌≡◌, ◌<◌, ℕ, pos, true, false, List, [], ◌∷◌, length, Option, None, Some, refl, ap, ◌∙◌, arith}
use Rattle.std.specs.Prelude.{replicate}
use Rattle.std.specs.List.{list_any}
use Rattle.std.specs.Option.{option_map}
use Rattle.std.specs.Str.{bytes_eq}
use Rattle.a64_inst.specs.Rows.{table}
use Rattle.gt_model.specs.declared.intervals.Block.{Block}
use Rattle.gt_model.specs.declared.intervals.Body.TheVariants as bodies
use Rattle.gt_model.specs.declared.intervals.Interval.{Interval}
use Rattle.gt_model.specs.declared.ir.Ir.{Ir}
use Rattle.gt_model.specs.declared.modules.Module.{Module}
use Rattle.gt_model.specs.declared.modules.Section.{Section}
use Rattle.gt_model.specs.Linked.{repeated}
use Rattle.sym_expr.specs.declared.patches.PatchTable.{PatchTable}
use Rattle.sym_expr.specs.declared.patches.PatchWord.{PatchWord}
use Rattle.sym_expr.specs.declared.patches.FunLine.TheVariants as lines
use Rattle.sym_expr.specs.Derived.{derived, part_text, function_text, interval_text, block_text, symbol_text}
use Rattle.taken_ids.specs.declared.fault.RewriteFault.TheVariants.{IdTaken}
use Rattle.taken_ids.specs.Faults.{first_taken, id_fault, taken_ids}
use Rattle.taken_ids.specs.Identifiers.{derived_ids}
use Rattle.taken_ids.proofs.Repeats.{held_in, repeated-held}

-- an identifier of equal bytes
abbrev id : ℕ → List ℕ
id n = replicate 16 n

abbrev code : List ℕ → ℕ → ℕ → Block
code uuid offset size = record { offset = offset; body = bodies.Code uuid size 0 }

abbrev module_of : List Block → List ℕ → Module
module_of blocks bytes =
    let i : Interval = record { uuid = id 4; blocks = blocks; exprs = []; has_address = false; address = 0; size = length bytes; contents = bytes } in
    let s : Section = record { uuid = id 3; name = []; intervals = i ∷ []; flags = pos 4 ∷ [] } in
    record { uuid = id 2; binary_path = []; preferred_addr = 0; rebase_delta = pos 0; file_format = pos 0; isa = pos 7; name = []; symbols = []; sections = s ∷ []; proxies = []; aux = []; entry = Some (id 5); byte_order = pos 2 }

abbrev ir_with : Module → Ir
ir_with m = record { uuid = id 1; modules = m ∷ []; aux = []; version = 4; cfg = None }

-- a call in a block of its own, and then movz x8, #93 and svc #0
abbrev call : Module
call = module_of (code (id 5) 0 4 ∷ code (id 11) 4 8 ∷ []) (0 ∷ 0 ∷ 0 ∷ 148 ∷ 168 ∷ 11 ∷ 128 ∷ 210 ∷ 1 ∷ 0 ∷ 0 ∷ 212 ∷ [])

-- add x0, x0, #2 behind the call
abbrev behind : PatchTable
behind = record { inserts = record { block = id 5; offset = 4; body = record { word = 0x91000800; target = None } ∷ [] } ∷ []; functions = [] }

abbrev part : List ℕ
part = derived (id 2) (part_text (id 5) 4)

-- the call ends a part
first_time : derived_ids call behind ≡ part ∷ []
unfolding table
first_time = refl

-- the module with that word inserted, where the part has an identifier
abbrev called : List ℕ → Module
called x = module_of (code (id 5) 0 4 ∷ code x 4 4 ∷ code (id 11) 8 8 ∷ []) (0 ∷ 0 ∷ 0 ∷ 148 ∷ 0 ∷ 8 ∷ 0 ∷ 145 ∷ 168 ∷ 11 ∷ 128 ∷ 210 ∷ 1 ∷ 0 ∷ 0 ∷ 212 ∷ [])

second_time : (x : List ℕ) → bytes_eq (id 5) x ≡ false → derived_ids (called x) behind ≡ part ∷ []
unfolding table
second_time x other = rw other refl

-- inserted once more, the part's identifier is taken
taken_by_the_first : bytes_eq (id 5) part ≡ false → id_fault (ir_with (called part)) (called part) behind ≡ Some (IdTaken part)
taken_by_the_first other =
    let taken = taken_ids (ir_with (called part)) (called part) in
    let within : 5 < length taken = omega arith in
    ap (first_taken taken) (second_time part other)
    ∙ ap (option_map IdTaken) (repeated-held taken [] [] part refl (held_in part taken (5, within, refl)))

-- a function's identifiers: its interval, its blocks, its symbols, and itself
abbrev five : PatchTable
five = record { inserts = []; functions = record { name = 53 ∷ []; body = lines.Word (record { word = 0x91001400; target = None }) ∷ lines.Label (54 ∷ []) ∷ lines.Word (record { word = 0xd65f03c0; target = None }) ∷ [] } ∷ [] }

of_a_function : derived_ids call five ≡ derived (id 2) (interval_text (53 ∷ [])) ∷ derived (id 2) (block_text (53 ∷ []) 0) ∷ derived (id 2) (block_text (53 ∷ []) 1)
    ∷ derived (id 2) (symbol_text (53 ∷ [])) ∷ derived (id 2) (symbol_text (54 ∷ [])) ∷ derived (id 2) (function_text (53 ∷ [])) ∷ []
unfolding table
of_a_function = refl
