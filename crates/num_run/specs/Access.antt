-- What loads and stores come to in a machine whose values are numbers.
use Rattle.std.specs.Prelude.{ℕ, ◌+◌, ◌*◌, ◌%◌, ◌^◌, Bool, true, false, ◌==◌, nat_le, if◌then◌else◌}
use Rattle.a64_inst.specs.declared.operations.Width.TheVariants.{W, X}
use Rattle.a64_inst.specs.declared.operations.Sum.TheVariants.{Add}
use Rattle.a64_inst.specs.declared.operations.Unary.TheVariants.{Extend}
use Rattle.a64_inst.specs.Numbers.{low, sign_extended, sum_value, operand_value}
use Rattle.a64_inst.specs.Domain.{next, then_do}
use Rattle.a64_inst.specs.Meaning.{pair_size}
use Rattle.num_run.specs.Machine.{Machine, register, with_register}
use Rattle.num_run.specs.Numeric.{Outcome, at_place, stored, loaded}

-- the low bytes of a register, as many as size counts
abbrev pub low_bytes : (size r : ℕ) → Machine → ℕ
low_bytes size r m = operand_value (Extend size 0) 64 (register false r m)

-- the access that size and opc name, of a register at an address
abbrev pub accessed : (size opc rt at : ℕ) → Machine → Outcome Machine
accessed size opc rt at m =
    if opc == 0 then stored (2 ^ size) (low_bytes size rt m) at m
    else then_do (loaded (2 ^ size) (nat_le 2 opc) (if opc == 3 then W else X) at m) (λ n. next (with_register false rt n m))

-- on to the next instruction
abbrev pub advanced : Machine → Outcome Machine
advanced m = next (at_place ((m.place + 4) % 2 ^ 64) m)

-- the base changes, and on to the next instruction
abbrev pub moved : (rn base : ℕ) → Machine → Outcome Machine
moved rn base m = advanced (with_register true rn base m)

-- the address behind so many bytes
abbrev pub behind : ℕ → ℕ → ℕ
behind at count = sum_value Add 64 at count

-- the address that a signed offset in units of a pair's size gives
abbrev pub pair_address : (opc imm7 rn : ℕ) → Machine → ℕ
pair_address opc imm7 rn m = sum_value Add 64 (register true rn m) (low 64 (sign_extended 7 64 imm7 * 2 ^ pair_size opc))

-- two loads of so many bytes one behind the other, and then both registers
abbrev pub pair_loaded : (count : ℕ) (signed : Bool) (rt rt2 at : ℕ) → Machine → Outcome Machine
pair_loaded count signed rt rt2 at m =
    then_do (loaded count signed X at m) (λ a. then_do (loaded count signed X (behind at count) m) (λ b. next (with_register false rt2 b (with_register false rt a m))))

-- two stores of registers one behind the other
abbrev pub pair_stored : (size rt rt2 at : ℕ) → Machine → Outcome Machine
pair_stored size rt rt2 at m = then_do (stored (2 ^ size) (low_bytes size rt m) at m) (stored (2 ^ size) (low_bytes size rt2 m) (behind at (2 ^ size)))

-- the accesses of a pair
abbrev pub pair_accessed : (opc l rt rt2 at : ℕ) → Machine → Outcome Machine
pair_accessed opc l rt rt2 at m =
    if l == 1 then pair_loaded (2 ^ pair_size opc) (opc == 1) rt rt2 at m else pair_stored (pair_size opc) rt rt2 at m
