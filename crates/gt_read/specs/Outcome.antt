-- What files come to, as a function of their bytes.
use Rattle.std.specs.Prelude.{ℕ, List, Option, Some, None, Result, Ok, Err}
use Rattle.gr_base.specs.declared.end.End.{End}
use Rattle.gr_base.specs.declared.end.End.TheVariants as ends
use Rattle.gt_model.specs.Schema.{ir_rows}
use Rattle.gt_model.specs.Values.{Fields, Plain}
use Rattle.gt_read.specs.declared.fault.FormatFault.{FormatFault}
use Rattle.gt_read.specs.File.{format_fault, body_meaning, body_of}
use Rattle.gt_read.specs.Identifiers.{plain}

-- the value of an IR, or why there is none
abbrev pub Outcome : Type 0
Outcome = Result (Fields Plain ir_rows) (End FormatFault)

-- the fault, if there is one, else the value
abbrev pub or_fault : Option FormatFault → Fields Plain ir_rows → Outcome
or_fault None value = Ok value
or_fault (Some fault) value = Err (ends.Fault fault)

-- what the bytes of a whole file come to: their first fault, else what they mean
unfoldable pub outcome : List ℕ → Outcome
outcome bytes = or_fault (format_fault bytes) (plain ir_rows (body_meaning (body_of bytes)))
