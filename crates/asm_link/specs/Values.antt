-- What the labels and the items of a module of assembly are as numbers, under a layout.
use Rattle.std.specs.Prelude.{ℕ, ◌+◌, ℤ, pos, ◌-ℤ◌, List, find, None, Some, Result, Ok}
use Rattle.std.specs.Option.{option_map_or}
use Rattle.a64_inst.specs.declared.filling.FitFault.{FitFault}
use Rattle.a64_inst.specs.declared.kind.Kind.{Kind}
use Rattle.a64_inst.specs.Fitting.{fit}
use Rattle.a64_inst.specs.Kinds.{operand_kind}
use Rattle.asm_lines.specs.declared.line.AsmExpr.{AsmExpr}
use Rattle.asm_lines.specs.declared.line.AsmItem.{AsmItem}
use Rattle.asm_lines.specs.declared.line.AsmItem.TheVariants as items
use Rattle.asm_lines.specs.declared.line.AsmName.{AsmName}
use Rattle.asm_modules.specs.declared.module.AsmAt.{AsmAt}
use Rattle.asm_modules.specs.declared.module.AsmAt.TheVariants as ats
use Rattle.asm_modules.specs.declared.module.AsmLabel.{AsmLabel}
use Rattle.asm_modules.specs.Valid.{is_named}
use Rattle.sym_expr.specs.declared.layout.Layout.{Layout}
use Rattle.sym_expr.specs.Differences.{diff_fit}
use Rattle.sym_expr.specs.Layouts.{address_of}
use Rattle.sym_expr.specs.Targets.{plus_offset}

-- an absolute address, or a place behind the address of its interval
abbrev pub at_value : Layout → AsmAt → ℕ
at_value l (ats.Absolute value) = value
at_value l (ats.Inside uuid offset) = address_of l uuid + offset

-- the address of the label that a name means
abbrev pub label_value : Layout → List AsmLabel → AsmName → ℕ
label_value l labels name = option_map_or (λ (x : AsmLabel). at_value l x.at) (find (is_named name) labels) 0

-- the address that an expression gives, modulo 2^64
abbrev pub expr_value : Layout → List AsmLabel → AsmExpr → ℕ
expr_value l labels e = plus_offset (label_value l labels e.label) e.offset

-- the first label with the offset less the second, as a whole number
abbrev pub distance : Layout → List AsmLabel → AsmName → AsmName → ℤ → ℤ
distance l labels first second offset =
    pos (plus_offset (label_value l labels first) offset) -ℤ pos (label_value l labels second)

-- a word at an address with its operand
abbrev pub operand_of : Layout → List AsmLabel → ℕ → ℕ → AsmExpr → Result ℕ FitFault
operand_of l labels at word e = option_map_or (λ (kind : Kind). fit kind at (expr_value l labels e) word) (operand_kind word) (Ok word)

-- the number that an item at an address stands for, if it fits; bytes and zeros stand for themselves
abbrev pub item_value : Layout → List AsmLabel → ℕ → AsmItem → Result ℕ FitFault
item_value l labels at (items.Bytes bytes) = Ok 0
item_value l labels at (items.Zero count) = Ok 0
item_value l labels at (items.Quad e) = Ok (expr_value l labels e)
item_value l labels at (items.QuadDiff first second offset) = diff_fit 8 1 (distance l labels first second offset)
item_value l labels at (items.WordDiff first second offset) = diff_fit 4 1 (distance l labels first second offset)
item_value l labels at (items.Entry size scale first second) = diff_fit size scale (distance l labels first second (pos 0))
item_value l labels at (items.Word word None) = Ok word
item_value l labels at (items.Word word (Some e)) = operand_of l labels at word e
