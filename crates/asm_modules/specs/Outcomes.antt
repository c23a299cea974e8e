-- The module that lines of assembly text give, or the first fault.
use Rattle.std.specs.Prelude.{Option, Some, None, Result, Ok, Err, List, [], ◌∷◌}
use Rattle.std.specs.List.{flat_map}
use Rattle.asm_read.specs.declared.fault.TextFault.{TextFault}
use Rattle.asm_read.specs.declared.fault.TextReason.{TextReason}
use Rattle.asm_read.specs.declared.fault.TextReason.TheVariants as reasons
use Rattle.asm_lines.specs.declared.line.AsmLine.{AsmLine}
use Rattle.asm_modules.specs.declared.module.AsmAt.{AsmAt}
use Rattle.asm_modules.specs.declared.module.AsmModule.{AsmModule}
use Rattle.asm_modules.specs.declared.place.Place.TheVariants as places
use Rattle.asm_modules.specs.Faults.{fault_behind, first_pass, is_label_in, second_pass}
use Rattle.asm_modules.specs.Modules.{entry_behind, intervals_in, labels_behind}

-- a result, unless there is a fault
abbrev pub unless : Option TextFault → Result AsmModule TextFault → Result AsmModule TextFault
unless None result = result
unless (Some fault) result = Err fault

abbrev pub module_of : List AsmLine → AsmAt → AsmModule
module_of ls entry = record { intervals = intervals_in ls; labels = labels_behind places.Ahead ls; entry = entry }

-- where the entry is missing, the line behind the last is at fault; else the first that names a label that is nowhere
abbrev pub entered : List AsmLine → Option AsmAt → Result AsmModule TextFault
entered ls None = Err (fault_behind ls reasons.Directive)
entered ls (Some entry) = unless (second_pass (is_label_in ls) [] ls) (Ok (module_of ls entry))

abbrev pub said : Result AsmLine TextReason → List AsmLine
said (Ok l) = l ∷ []
said (Err reason) = []

-- what lines say that all say something
abbrev pub lines_in : List (Result AsmLine TextReason) → List AsmLine
lines_in given = flat_map said given

-- the module that lines give, of which each says something or nothing, or the first fault
abbrev pub outcome : List (Result AsmLine TextReason) → Result AsmModule TextFault
outcome given = unless (first_pass [] given) (entered (lines_in given) (entry_behind places.Ahead (lines_in given)))
