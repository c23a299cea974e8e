-- What operations do in a machine whose values are numbers.
use Rattle.std.specs.Prelude.{ℕ, ◌+◌, ◌*◌, ◌/◌, ◌%◌, ◌^◌, min, Bool, false, not, ◌==◌, nat_lt, if◌then◌else◌, ◌++◌, length, take, drop}
use Rattle.a64_inst.specs.declared.trap.Trap.TheVariants as traps
use Rattle.a64_inst.specs.declared.operations.Width.{Width}
use Rattle.a64_inst.specs.declared.operations.Sum.TheVariants.{Add}
use Rattle.a64_inst.specs.Numbers.{bits_of, sign_extended, bit_of, sum_value, sum_flags, carry_flags, logic_flags, named_flags, holds, unary_value, binary_value, chosen, zero_bit}
use Rattle.a64_inst.specs.Domain.{exit, trapped, Answer, next, ended, Domain}
use Rattle.paged_memory.specs.Mapping.{is_mapped, bytes_from, with_bytes, number_of, bytes_of}
use Rattle.num_run.specs.Machine.{Machine, register, with_register}

-- what an operation comes to; a machine of numbers is never stuck
abbrev pub Outcome : Type 0 → Type 0
Outcome A = Answer ⊥ Machine A

-- at this place
abbrev pub at_place : ℕ → Machine → Machine
at_place place m = record m { place = place }

-- the bytes of a number at an address, whose bytes are all mapped
abbrev pub stored : ℕ → ℕ → ℕ → Machine → Outcome Machine
stored count n at m = if is_mapped m.memory at count then next (record m { memory = with_bytes m.memory at (bytes_of count n) }) else ended (trapped traps.Fault) m

-- the number whose bytes stand at an address, whose bytes are all mapped
abbrev pub loaded : ℕ → Bool → Width → ℕ → Machine → Outcome ℕ
loaded count signed width at m =
    if is_mapped m.memory at count then
    next (if signed then sign_extended (8 * count) (bits_of width) (number_of (bytes_from m.memory at count)) else number_of (bytes_from m.memory at count))
    else ended (trapped traps.Fault) m

-- call 64 writes as many bytes as X2 says, from the address in X1 on; the output ends at 2 ^ 24 bytes
abbrev pub written : (at count : ℕ) → Machine → Outcome Machine
written at count m =
    if count == 0 then next (with_register false 0 count m)
    else if not (is_mapped m.memory at count) then ended (trapped traps.Fault) m
    else if nat_lt (2 ^ 24) (length m.output + count) then ended (trapped traps.OutputFull) m
    else next (with_register false 0 count (record m { output = m.output ++ bytes_from m.memory at count }))

-- so many bytes of the input go to an address
abbrev pub received : (at count : ℕ) → Machine → Outcome Machine
received at count m =
    if count == 0 then next (with_register false 0 count m)
    else if not (is_mapped m.memory at count) then ended (trapped traps.Fault) m
    else next (with_register false 0 count (record m { memory = with_bytes m.memory at (take count m.input); input = drop count m.input }))

-- the call in X8: 93 exits with the low byte of X0, 64 writes where X0 is 1, and 63 reads where X0 is 0
abbrev pub called : ℕ → Machine → Outcome Machine
called immediate m =
    if not (immediate == 0) then ended (trapped traps.BadCall) m
    else if register false 8 m == 93 then ended (exit (register false 0 m % 256)) m
    else if register false 8 m == 64 then (if register false 0 m == 1 then written (register false 1 m) (register false 2 m) m else ended (trapped traps.BadCall) m)
    else if register false 8 m == 63 then (if register false 0 m == 0 then received (register false 1 m) (min (register false 2 m) (length m.input)) m else ended (trapped traps.BadCall) m)
    else ended (trapped traps.BadCall) m

-- the machine
abbrev pub numeric : Domain ⊥ ℕ Machine
numeric = record {
  number = λ n. n;
  target = λ page offset m. next (((if page then m.place / 4096 * 4096 else m.place) + offset) % 2 ^ 64);
  read = λ stack r m. next (register stack r m);
  carry = λ m. next (bit_of m.flags.c);
  unary = λ function width a m. next (unary_value function (bits_of width) a);
  binary = λ function width a b m. next (binary_value function (bits_of width) a b);
  sum = λ sum width a b m. next (sum_value sum (bits_of width) a b);
  join_low = λ unit field a m. next (sum_value Add 64 a (field * unit));
  load = loaded;
  condition = λ which m. next (bit_of (holds which m.flags));
  is_zero = λ negated width a m. next (zero_bit negated (bits_of width) a);
  choose = λ inverted more width test a b m. next (chosen inverted more (bits_of width) test a b);
  store = stored;
  write = λ stack r n m. next (with_register stack r n m);
  flags_of_sum = λ sum width a b m. next (record m { flags = sum_flags sum (bits_of width) a b });
  flags_of_carry = λ sum width a b carry m. next (record m { flags = carry_flags sum (bits_of width) a b carry });
  flags_of_logic = λ width a m. next (record m { flags = logic_flags (bits_of width) a });
  flags_if = λ sum width test a b nzcv m. next (record m { flags = if test == 0 then named_flags nzcv else sum_flags sum (bits_of width) a b });
  link = λ m. next (with_register false 30 ((m.place + 4) % 2 ^ 64) m);
  call = called;
  advance = λ m. next (at_place ((m.place + 4) % 2 ^ 64) m);
  jump = λ at m. next (at_place at m);
  jump_if = λ test at m. next (at_place (if test == 0 then (m.place + 4) % 2 ^ 64 else at) m);
  trap = λ why m. ended (trapped why) m;
}
