-- How answers say what the definitions give.
use Rattle.std.specs.Prelude.{◌≡◌, Option, Some, None, Result, Ok, Err}
use Rattle.gr_base.specs.declared.end.End.{End}
use Rattle.gr_base.specs.declared.end.End.TheVariants as ends

-- Ok where there is no fault, and else the fault
abbrev pub Tells : {A F : Type 0} → Result A F → Option F → Type 0
Tells (Ok x) fault = fault ≡ None
Tells (Err f) fault = fault ≡ Some f

-- the same, unless memory ran out
abbrev pub EndTells : {F : Type 0} → End F → Option F → Type 0
EndTells ends.Memory fault = Unit {0}
EndTells (ends.Fault f) fault = fault ≡ Some f

abbrev pub TellsEnd : {A F : Type 0} → Result A (End F) → Option F → Type 0
TellsEnd (Ok x) fault = fault ≡ None
TellsEnd (Err e) fault = EndTells e fault

-- the result, unless memory ran out
abbrev pub EndIs : {A F : Type 0} → End F → Result A F → Type 0
EndIs ends.Memory expected = Unit {0}
EndIs (ends.Fault f) expected = expected ≡ Err f

abbrev pub Gives : {A F : Type 0} → Result A (End F) → Result A F → Type 0
Gives (Ok x) expected = expected ≡ Ok x
Gives (Err e) expected = EndIs e expected
