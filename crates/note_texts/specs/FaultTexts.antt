-- The words of what is wrong with a module, a patch text, a layout or a link: the fault's number, and then its contents.
use Rattle.std.specs.Prelude.{ℕ, List, ◌++◌, codes}
use Rattle.std.specs.Fmt.{decimal, signed_decimal}
use Rattle.uuid.specs.Text.{lower, hyphenated_text}
use Rattle.gr_base.specs.declared.aux_fault.AuxFault.{AuxFault}
use Rattle.gr_base.specs.declared.aux_fault.AuxFault.TheVariants.{Short, Rest, BadBool, BadVariant, BadUtf8, Duplicate}
use Rattle.asm_read.specs.declared.fault.TextReason.{TextReason}
use Rattle.asm_read.specs.declared.fault.TextReason.TheVariants as reasons
use Rattle.layout_plan.specs.declared.fault.LayoutFault.{LayoutFault}
use Rattle.layout_plan.specs.declared.fault.LayoutFault.TheVariants as layouts
use Rattle.node_arena.specs.declared.fault.CheckFault.{CheckFault}
use Rattle.node_arena.specs.declared.fault.CheckFault.TheVariants as checks
use Rattle.patch_lines.specs.declared.fault.PatchFault.{PatchFault}
use Rattle.patch_lines.specs.declared.fault.PatchReason.{PatchReason}
use Rattle.patch_lines.specs.declared.fault.PatchReason.TheVariants as patches
use Rattle.sym_expr.specs.declared.layout.Spot.{Spot}
use Rattle.sym_expr.specs.declared.layout.Spot.TheVariants.{Stack, Interval}
use Rattle.sym_expr.specs.declared.link_fault.LinkFault.{LinkFault}
use Rattle.sym_expr.specs.declared.link_fault.LinkFault.TheVariants as links
use Rattle.taken_ids.specs.declared.fault.RewriteFault.{RewriteFault}
use Rattle.taken_ids.specs.declared.fault.RewriteFault.TheVariants.{IdTaken}

-- an identifier
abbrev pub id_text : List ℕ → List ℕ
id_text id = hyphenated_text lower id

-- two texts with a space between them
abbrev pub spaced : List ℕ → List ℕ → List ℕ
spaced a b = a ++ (codes " " ++ b)

-- the fault of a table's bytes: its number and its place
abbrev pub aux_text : AuxFault → List ℕ
aux_text (Short place) = codes "1 " ++ decimal place
aux_text (Rest place) = codes "2 " ++ decimal place
aux_text (BadBool place) = codes "3 " ++ decimal place
aux_text (BadVariant place) = codes "4 " ++ decimal place
aux_text (BadUtf8 place) = codes "5 " ++ decimal place
aux_text (Duplicate place) = codes "6 " ++ decimal place

abbrev pub check_text : CheckFault → List ℕ
check_text (checks.DupUuid id) = codes "1 " ++ id_text id
check_text (checks.BareBlock interval) = codes "2 " ++ id_text interval
check_text (checks.Dangling from to) = codes "3 " ++ spaced (id_text from) (id_text to)
check_text (checks.WrongKind from to) = codes "4 " ++ spaced (id_text from) (id_text to)
check_text (checks.NoModule count) = codes "5 " ++ decimal count
check_text (checks.NotA64 isa order) = codes "6 " ++ spaced (signed_decimal isa) (signed_decimal order)
check_text (checks.ThreadLocal section) = codes "7 " ++ id_text section
check_text (checks.Large sum) = codes "8 " ++ decimal sum
check_text (checks.ContentsLong interval) = codes "9 " ++ id_text interval
check_text (checks.BlockOutside block) = codes "10 " ++ id_text block
check_text (checks.Overlap a b) = codes "11 " ++ spaced (id_text a) (id_text b)
check_text (checks.CodeAlign block) = codes "12 " ++ id_text block
check_text checks.NoEntry = codes "13"
check_text (checks.Aux table fault) = codes "14 " ++ spaced table (aux_text fault)
check_text (checks.BadPlace table id offset) = codes "15 " ++ spaced table (spaced (id_text id) (decimal offset))
check_text (checks.Flag interval offset flag) = codes "16 " ++ spaced (id_text interval) (spaced (decimal offset) (signed_decimal flag))
check_text (checks.BadOperand interval offset) = codes "17 " ++ spaced (id_text interval) (decimal offset)
check_text (checks.BadTarget interval offset) = codes "18 " ++ spaced (id_text interval) (decimal offset)

-- the number of a reason for which a line can't be read
abbrev pub reason_text : TextReason → List ℕ
reason_text reasons.Syntax = codes "1"
reason_text reasons.Number = codes "2"
reason_text reasons.LabelTwice = codes "3"
reason_text reasons.LabelUnknown = codes "4"
reason_text reasons.Directive = codes "5"

abbrev pub patch_reason_text : PatchReason → List ℕ
patch_reason_text (patches.Text reason) = codes "1 " ++ reason_text reason
patch_reason_text patches.UnknownBlock = codes "2"
patch_reason_text patches.BadOffset = codes "3"
patch_reason_text patches.NameTaken = codes "4"
patch_reason_text patches.TooMany = codes "5"
patch_reason_text patches.UnknownName = codes "6"
patch_reason_text patches.Ambiguous = codes "7"
patch_reason_text patches.BadTarget = codes "8"

abbrev pub patch_text : PatchFault → List ℕ
patch_text fault = codes "line " ++ (decimal fault.line ++ (codes " reason " ++ patch_reason_text fault.reason))

abbrev pub rewrite_text : RewriteFault → List ℕ
rewrite_text (IdTaken id) = codes "1 " ++ id_text id

abbrev pub spot_text : Spot → List ℕ
spot_text Stack = codes "stack"
spot_text (Interval id) = id_text id

abbrev pub layout_text : LayoutFault → List ℕ
layout_text (layouts.Line line) = codes "1 " ++ decimal line
layout_text (layouts.Unknown interval) = codes "2 " ++ id_text interval
layout_text (layouts.Twice interval) = codes "3 " ++ id_text interval
layout_text (layouts.Missing interval) = codes "4 " ++ id_text interval
layout_text (layouts.Outside spot) = codes "5 " ++ spot_text spot
layout_text (layouts.Unaligned spot) = codes "6 " ++ spot_text spot
layout_text (layouts.Overlap a b) = codes "7 " ++ spaced (spot_text a) (spot_text b)

abbrev pub link_text : LinkFault → List ℕ
link_text (links.TooBig sum) = codes "1 " ++ decimal sum
link_text (links.Undefined symbol) = codes "2 " ++ id_text symbol
link_text (links.Range interval offset value) = codes "3 " ++ spaced (id_text interval) (spaced (decimal offset) (signed_decimal value))
link_text (links.Unaligned interval offset value) = codes "4 " ++ spaced (id_text interval) (spaced (decimal offset) (signed_decimal value))
