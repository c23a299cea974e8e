-- What a call that may run out of memory returns, against a value or a fault that is known.
use Rattle.std.specs.Prelude.{◌≡◌, Result, Ok, Err}
use Rattle.gr_base.specs.declared.end.End.{End}
use Rattle.gr_base.specs.declared.end.End.TheVariants as ends

-- one step of reading after another, up to the first fault
infixl 10 ◌>>=◌
abbrev pub ◌>>=◌ : {A B F : Type 0} → Result A F → (A → Result B F) → Result B F
(Ok x) >>= f = f x
(Err e) >>= f = Err e

-- an error is want of memory or the fault that is known
abbrev pub Fails : {Y F : Type 0} → End F → Result Y F → Type 0
Fails ends.Memory known = Unit {0}
Fails (ends.Fault f) known = known ≡ Err f

-- a result, seen by view, is what is known, unless memory ran out
abbrev pub Gives : {X Y F : Type 0} → (X → Y) → Result X (End F) → Result Y F → Type 0
Gives view (Ok x) known = known ≡ Ok (view x)
Gives view (Err e) known = Fails e known
