-- What a check that may run out of memory answers.
use Rattle.std.specs.Prelude.{◌≡◌, ⊤, Option, Some, None, Result, Ok, Err}
use Rattle.gr_base.specs.declared.end.End.{End}
use Rattle.gr_base.specs.declared.end.End.TheVariants as ends

-- an error is want of memory or the fault
abbrev pub Stops : {F : Type 0} → End F → Option F → Type 0
Stops ends.Memory fault = ⊤
Stops (ends.Fault f) fault = fault ≡ Some f

-- a value of which something holds, where there is no fault, or the fault, unless memory ran out
abbrev pub Ends : {X F : Type 0} → Result X (End F) → Option F → (X → Type 0) → Type 0
Ends (Ok x) fault P = (fault ≡ None) × P x
Ends (Err e) fault P = Stops e fault
