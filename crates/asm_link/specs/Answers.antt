-- How answers say what the definitions give.
use Rattle.std.specs.Prelude.{◌≡◌, Option, Some, None, Result, Ok, Err}
use Rattle.gr_base.specs.declared.end.End.{End}
use Rattle.gr_base.specs.declared.end.End.TheVariants as ends
use Rattle.sym_expr.specs.declared.link_fault.LinkFault.{LinkFault}

-- want of memory, or this fault
abbrev pub Ends : End LinkFault → Option LinkFault → Type 0
Ends ends.Memory fault = Unit {0}
Ends (ends.Fault f) fault = fault ≡ Some f

-- Ok where there is no fault, and else the fault, unless memory ran out
abbrev pub Tells : {A : Type 0} → Result A (End LinkFault) → Option LinkFault → Type 0
Tells (Ok x) fault = fault ≡ None
Tells (Err e) fault = Ends e fault
