-- What a check that may run out of memory answers.
use Rattle.std.specs.Prelude.{◌≡◌, Option, Some, None, Result, Ok, Err}
use Rattle.gr_base.specs.declared.end.End.{End}
use Rattle.gr_base.specs.declared.end.End.TheVariants as ends

-- an error is want of memory or the fault
abbrev pub Stops : {F : Type 0} → End F → Option F → Type 0
Stops ends.Memory fault = Unit {0}
Stops (ends.Fault f) fault = fault ≡ Some f

-- Ok where there is no fault, and else the fault, unless memory ran out
abbrev pub Tells : {A F : Type 0} → Result A (End F) → Option F → Type 0
Tells (Ok x) fault = fault ≡ None
Tells (Err e) fault = Stops e fault
