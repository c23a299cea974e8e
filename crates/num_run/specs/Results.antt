-- Where results go, and the machine after them.
use Rattle.std.specs.Prelude.{ℕ, ◌+◌, ◌%◌, ◌^◌, Bool, true, false, ◌==◌, if◌then◌else◌}
use Rattle.a64_inst.specs.declared.flags.Flags.{Flags}
use Rattle.a64_inst.specs.declared.operations.Sum.{Sum}
use Rattle.a64_inst.specs.Numbers.{sum_value, sum_flags}
use Rattle.num_run.specs.Machine.{Machine, with_register}
use Rattle.num_run.specs.Numeric.{at_place}

-- on to the next instruction
abbrev pub gone_on : Machine → Machine
gone_on m = at_place ((m.place + 4) % 2 ^ 64) m

-- a result in a register, where 31 keeps none, and on
abbrev pub kept : ℕ → ℕ → Machine → Machine
kept rd n m = if rd == 31 then gone_on m else gone_on (with_register false rd n m)

-- a result in a register, where 31 is for true the stack pointer and for false zero, and on
abbrev pub put : Bool → ℕ → ℕ → Machine → Machine
put stack rd n m = gone_on (with_register stack rd n m)

-- other flags
abbrev pub with_flags : Flags → Machine → Machine
with_flags flags m = record m { flags = flags }

-- a sum or a difference, kept, and where s is 1 its flags
abbrev pub summed : Sum → ℕ → ℕ → (a b rd : ℕ) → Machine → Machine
summed sum width s a b rd m = kept rd (sum_value sum width a b) (if s == 1 then with_flags (sum_flags sum width a b) m else m)

-- the same, where without flags 31 is the stack pointer
abbrev pub summed_or_stack : Sum → ℕ → ℕ → (a b rd : ℕ) → Machine → Machine
summed_or_stack sum width s a b rd m =
    if s == 1 then kept rd (sum_value sum width a b) (with_flags (sum_flags sum width a b) m) else put true rd (sum_value sum width a b) m
