-- How answers say what the definitions give.
use Rattle.std.specs.Prelude.{◌≡◌, ℕ, Option, Some, None, Result, Ok, Err}
use Rattle.gr_base.specs.declared.end.End.{End}
use Rattle.gr_base.specs.declared.end.End.TheVariants as ends
use Rattle.layout_plan.specs.declared.fault.LayoutFault.{LayoutFault}
use Rattle.layout_plan.specs.declared.fault.LayoutFault.TheVariants.{Line}

abbrev pub Ends : End LayoutFault → Option LayoutFault → Type 0
Ends ends.Memory fault = Unit {0}
Ends (ends.Fault f) fault = fault ≡ Some f

-- Ok where there is no fault, and else the fault, unless memory ran out
abbrev pub Tells : {A : Type 0} → Result A (End LayoutFault) → Option LayoutFault → Type 0
Tells (Ok x) fault = fault ≡ None
Tells (Err e) fault = Ends e fault

-- the same of what takes no memory
abbrev pub TellsFault : {A : Type 0} → Result A LayoutFault → Option LayoutFault → Type 0
TellsFault (Ok x) fault = fault ≡ None
TellsFault (Err f) fault = fault ≡ Some f

-- want of memory, or a line whose number holds the fact
abbrev pub IsLine : End LayoutFault → (ℕ → Type 0) → Type 0
IsLine ends.Memory P = Unit {0}
IsLine (ends.Fault f) P = (number : ℕ) × (f ≡ Line number) × P number
