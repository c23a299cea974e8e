-- What operations do in a machine whose values may be addresses: each case that is defined, and why all others are
-- stuck (the rules are ours).
use Rattle.std.specs.Prelude.{ℕ, suc, ◌+◌, ◌*◌, ◌/◌, ◌%◌, ◌^◌, ℤ, pos, ◌-ℤ◌, min, Bool, true, false, ◌==◌, ◌&&◌, ◌||◌, not, nat_lt, nat_le, unsigned_abs, if◌then◌else◌, List, [], ◌∷◌, ◌++◌, map, length, take, drop, find, Option, None, Some, unwrap_or}
use Rattle.std.specs.Int.{int_rem_euclid, int_div_euclid}
use Rattle.std.specs.List.{list_any}
use Rattle.std.specs.Option.{option_map, option_map_or, option_and_then}
use Rattle.std.specs.Str.{bytes_eq}
use Rattle.a64_inst.specs.declared.flags.Flags.{Flags}
use Rattle.a64_inst.specs.declared.operations.Sum.{Sum}
use Rattle.a64_inst.specs.declared.operations.Sum.TheVariants.{Add, Subtract}
use Rattle.a64_inst.specs.declared.operations.Unary.{Unary}
use Rattle.a64_inst.specs.declared.operations.Unary.TheVariants as unary
use Rattle.a64_inst.specs.declared.operations.Width.{Width}
use Rattle.a64_inst.specs.declared.operations.Width.TheVariants.{W, X}
use Rattle.a64_inst.specs.declared.trap.Trap.TheVariants as traps
use Rattle.a64_inst.specs.Domain.{exit, trapped, Answer, next, ended, stuck, then_do, Domain}
use Rattle.a64_inst.specs.Numbers.{bits_of, sign_extended, bit_of, sum_value, sum_flags, carry_flags, logic_flags, named_flags, holds, unary_value, binary_value, chosen, zero_bit}
use Rattle.sym_expr.specs.declared.cause.Cause.{Cause}
use Rattle.sym_expr.specs.declared.cause.Cause.TheVariants.{Outside, Mixed, Flag, Fell, Plain}
use Rattle.sym_expr.specs.declared.cause.Cause.TheVariants as causes
use Rattle.sym_expr.specs.declared.point.Point.{Point}
use Rattle.sym_expr.specs.Images.{depth}
use Rattle.sym_expr.specs.Placing.{Placed, placed}
use Rattle.sym_expr.specs.Points.{after, data_at, object_alignment, is_code_piece}
use Rattle.sym_expr.specs.declared.program.Stretch.{Stretch}
use Rattle.sym_expr.specs.declared.program.Program.{Program}
use Rattle.sym_expr.specs.States.{flags_unknown, State, register, with_register, cells_at, with_cells, value_cells, number_cells, object_size, less}
use Rattle.sym_expr.specs.declared.target.Target.{Target}
use Rattle.sym_expr.specs.declared.target.Target.TheVariants.{Number, Address, Code}
use Rattle.sym_expr.specs.declared.target.Target.TheVariants as targets
use Rattle.sym_expr.specs.declared.value.KnownFlags.{KnownFlags}
use Rattle.sym_expr.specs.declared.value.Object.{Object}
use Rattle.sym_expr.specs.declared.value.Value.{Value}
use Rattle.sym_expr.specs.declared.value.Value.TheVariants.{Num, Addr, At, PageOf, Diff, Step}
use Rattle.sym_expr.specs.Values.{Cell, Byte, Part, Quarter, EntryPart, Blank, same_object, same_point, same_target, same_value, number_in, value_of, page_value}

-- what an operation comes to
abbrev pub Outcome : Type 0 → Type 0
Outcome A = Answer Cause State A

-- goes on with what is there, or is stuck
abbrev pub or_stuck : {A : Type 0} → Cause → Option A → Outcome A
or_stuck cause None = stuck cause
or_stuck cause (Some a) = next a

-- ---- distances of points, which no layout changes

-- the offset of a point in its interval
abbrev pub offset_in : Program → Stretch → Point → ℕ
offset_in g s p =
    option_map_or (λ (x : Placed). x.at) (find (λ (x : Placed). is_code_piece p.block x.piece) (placed s)) 0 + depth g p

abbrev pub point_offset : Program → Point → ℕ
point_offset g p = option_map_or (λ s. offset_in g s p) (find (λ (s : Stretch). list_any (is_code_piece p.block) s.pieces) g.stretches) 0

-- how far the first of two points of one interval is behind the second
abbrev pub dist : Program → Point → Point → ℤ
dist g p q = pos (point_offset g p) -ℤ pos (point_offset g q)

-- a whole number modulo a power of two
abbrev pub wrapped : ℕ → ℤ → ℕ
wrapped bits z = unsigned_abs (int_rem_euclid z (pos (2 ^ bits)))

-- ---- number functions

-- a function of numbers
abbrev pub of_number : (ℕ → ℕ) → Value → Outcome Value
of_number f v = or_stuck causes.Value (option_map (λ n. Num (f n)) (number_in v))

abbrev pub of_numbers : {A : Type 0} → (ℕ → ℕ → A) → Value → Value → Outcome A
of_numbers f a b = or_stuck causes.Value (option_and_then (λ m. option_map (λ n. f m n) (number_in b)) (number_in a))

-- a shift to the left, or an extension, of 64 bits
abbrev pub keeps_step : Unary → Width → Bool
keeps_step (unary.Shift kind amount) X = kind == 0
keeps_step (unary.Extend option amount) X = true
keeps_step f w = false

-- a step stays one where it is shifted to the left or extended, with the number that this gives
abbrev pub unary_outcome : Unary → Width → Value → Outcome Value
unary_outcome f w (Step p q n) = if keeps_step f w then next (Step p q (unary_value f 64 n)) else next (Num (unary_value f (bits_of w) n))
unary_outcome f w v = of_number (unary_value f (bits_of w)) v

-- ---- sums of 64 bits, one line a case

abbrev pub is_zero : Value → Bool
is_zero (Num n) = n == 0
is_zero _ = false

-- a number more in an object
abbrev pub moved : Object → ℕ → ℕ → Value
moved o offset n = Addr o ((offset + n) % 2 ^ 64)

-- the address of the second target of a difference gives that of the first
abbrev pub across : Target → Target → Value → Outcome Value
across p q v = if option_map_or (same_value v) (value_of q) false then or_stuck causes.Value (value_of p) else stuck causes.Value

-- a step where it is no more than its number: 0 changes nothing
abbrev pub plus_step : Value → ℕ → Outcome Value
plus_step v n = if n == 0 then next v else stuck causes.Value

-- the second point of a step gives the first, where the number is their distance
abbrev pub stepped : Program → Point → Point → ℕ → Point → Outcome Value
stepped g p q n at = if same_point at q && (n == wrapped 64 (dist g p q)) then next (At p) else plus_step (At at) n

abbrev pub added : Program → Value → Value → Outcome Value
added g (Addr o x) (Num n) = next (moved o x n)
added g (Num n) (Addr o x) = next (moved o x n)
added g (Addr o x) (Step p q n) = next (moved o x n)
added g (Step p q n) (Addr o x) = next (moved o x n)
added g (Addr o x) (Diff p q) = across p q (Addr o x)
added g (Diff p q) (Addr o x) = across p q (Addr o x)
added g (At at) (Diff p q) = across p q (At at)
added g (Diff p q) (At at) = across p q (At at)
added g (At at) (Step p q n) = stepped g p q n at
added g (Step p q n) (At at) = stepped g p q n at
added g (PageOf t) (Step p q n) = plus_step (PageOf t) n
added g (Step p q n) (PageOf t) = plus_step (PageOf t) n
added g (Diff a b) (Step p q n) = plus_step (Diff a b) n
added g (Step p q n) (Diff a b) = plus_step (Diff a b) n
added g a b = of_numbers (λ m n. Num (sum_value Add 64 m n)) a b

-- any value plus 0, in either order, is that value
abbrev pub sum_of : Program → Value → Value → Outcome Value
sum_of g a b = if is_zero b then next a else if is_zero a then next b else added g a b

abbrev pub difference_of : Value → Value → Outcome Value
difference_of (Addr o x) (Num n) = next (Addr o (less x (n % 2 ^ 64)))
difference_of (Addr o x) (Step p q n) = next (Addr o (less x (n % 2 ^ 64)))
difference_of (Addr o x) (Addr other y) = if same_object o other then next (Num (less x y)) else stuck causes.Value
difference_of (At p) (At q) = if same_point p q then next (Num 0) else stuck causes.Value
difference_of a b = of_numbers (λ m n. Num (sum_value Subtract 64 m n)) a b

-- a sum, or a difference; of 32 bits numbers alone have one
abbrev pub sum_outcome : Program → Sum → Width → Value → Value → Outcome Value
sum_outcome g sum W a b = of_numbers (λ m n. Num (sum_value sum 32 m n)) a b
sum_outcome g Add X a b = sum_of g a b
sum_outcome g Subtract X a b = difference_of a b

-- ---- flags

abbrev pub known : Flags → KnownFlags
known f = record { n = Some f.n; z = Some f.z; c = Some f.c; v = Some f.v }

-- as of 0 less 0, and as of a positive number less 0
abbrev pub flags_of_equal : KnownFlags
flags_of_equal = record { n = Some false; z = Some true; c = Some true; v = Some false }

abbrev pub flags_of_positive : KnownFlags
flags_of_positive = record { n = Some false; z = Some false; c = Some true; v = Some false }

-- of addresses that differ, nothing more
abbrev pub flags_of_other : KnownFlags
flags_of_other = record { n = None; z = Some false; c = None; v = None }

-- two addresses of one object: N and Z by their difference, C and V where both lie in the object
abbrev pub flags_of_offsets : ℕ → ℕ → ℕ → KnownFlags
flags_of_offsets size x y = record {
  n = Some (nat_le (2 ^ 63) (less x y));
  z = Some (less x y == 0);
  c = if nat_le x size && nat_le y size then Some (nat_le y x) else None;
  v = if nat_le x size && nat_le y size then Some false else None;
}

-- the flags of the difference of two values of 64 bits
abbrev pub compared : State → Value → Value → Outcome KnownFlags
compared s (Addr o x) (Addr other y) =
    if same_object o other then next (flags_of_offsets (object_size s o) x y)
    else if nat_lt x (object_size s o) && nat_lt y (object_size s other) then next flags_of_other
    else stuck causes.Value
compared s (At p) (At q) = if same_point p q then next flags_of_equal else stuck causes.Value
compared s (At p) (Num n) = next (if n == 0 then flags_of_positive else flags_unknown)
compared s (At p) (Step q r n) = next (if n == 0 then flags_of_positive else flags_unknown)
compared s (Addr o x) (Num n) = next (if (n == 0) && nat_le x (object_size s o) then flags_of_positive else flags_unknown)
compared s (Addr o x) (Step q r n) = next (if (n == 0) && nat_le x (object_size s o) then flags_of_positive else flags_unknown)
compared s a b = of_numbers (λ m n. known (sum_flags Subtract 64 m n)) a b

abbrev pub is_address : Value → Bool
is_address (Addr o x) = true
is_address (At p) = true
is_address _ = false

-- the flags of a sum with an address are unknown
abbrev pub flags_outcome : State → Sum → Width → Value → Value → Outcome KnownFlags
flags_outcome s sum W a b = of_numbers (λ m n. known (sum_flags sum 32 m n)) a b
flags_outcome s Subtract X a b = compared s a b
flags_outcome s Add X a b =
    if is_address a || is_address b then next flags_unknown else of_numbers (λ m n. known (sum_flags Add 64 m n)) a b

-- the flags of a sum with a carry are of numbers alone
abbrev pub carried_outcome : Sum → Width → Value → Value → Value → Outcome KnownFlags
carried_outcome sum w a b c =
    or_stuck causes.Value (option_and_then (λ m. option_and_then (λ n. option_map (λ k. known (carry_flags sum (bits_of w) m n k)) (number_in c)) (number_in b)) (number_in a))

abbrev pub with_flags : State → KnownFlags → State
with_flags s f = record s { flags = f }

-- a condition needs the flags that it speaks of, whatever they are
abbrev pub both : Option Bool → Option Bool → (Bool → Bool → Bool) → Option Bool
both a b f = option_and_then (λ x. option_map (λ y. f x y) b) a

abbrev pub flag_or : Bool → Option Bool → Bool
flag_or other flag = unwrap_or flag other

abbrev pub is_known : Option Bool → Bool
is_known None = false
is_known (Some b) = true

-- the flags that the upper three bits of a condition ask about are known
abbrev pub can_ask : ℕ → KnownFlags → Bool
can_ask which f =
    if which == 0 then is_known f.z
    else if which == 1 then is_known f.c
    else if which == 2 then is_known f.n
    else if which == 3 then is_known f.v
    else if which == 4 then is_known f.c && is_known f.z
    else if which == 5 then is_known f.n && is_known f.v
    else if which == 6 then is_known f.n && (is_known f.v && is_known f.z)
    else true

-- flags with any truth for what is unknown
abbrev pub guessed : KnownFlags → Flags
guessed f = record { n = flag_or false f.n; z = flag_or false f.z; c = flag_or false f.c; v = flag_or false f.v }

abbrev pub condition_outcome : ℕ → State → Outcome Value
condition_outcome which s =
    if can_ask (which / 2) s.flags then next (Num (bit_of (holds which (guessed s.flags)))) else stuck Flag

-- ---- targets

-- the address of what the instruction's expression names, or its page
abbrev pub target_outcome : Bool → Option Target → Outcome Value
target_outcome page None = stuck Plain
target_outcome page (Some t) = or_stuck causes.Undefined (if page then page_value t else value_of t)

-- two targets lie in one granule of a data block: as much of it as its effective alignment
abbrev pub one_granule : Program → Target → Target → Bool
one_granule g (Address a x) (Address b y) =
    bytes_eq a b && option_map_or (λ d. x / object_alignment d == y / object_alignment d) (data_at g a) false
one_granule g t u = false

-- the page of a target joined with the low twelve bits of another
abbrev pub joined_to : Program → Target → Value → Outcome Value
joined_to g t (PageOf u) = if same_target t u || one_granule g t u then or_stuck causes.Value (value_of t) else stuck causes.Value
joined_to g t v = stuck causes.Value

abbrev pub joined : Program → Value → Target → Outcome Value
joined g v (Number n) = of_number (λ m. sum_value Add 64 m (n % 4096)) v
joined g v (targets.Undefined symbol) = stuck causes.Undefined
joined g v t = joined_to g t v

abbrev pub join_low_outcome : Program → ℕ → ℕ → Value → Option Target → Outcome Value
join_low_outcome g unit field v None = sum_of g v (Num (field * unit))
join_low_outcome g unit field v (Some t) = joined g v t

-- ---- tests and choices

-- whether a value of 64 bits is 0: an address in its object, its end included, isn't
abbrev pub zero_outcome : Bool → Value → State → Outcome Value
zero_outcome negated (At p) s = next (Num (bit_of negated))
zero_outcome negated (Addr o x) s = if nat_le x (object_size s o) then next (Num (bit_of negated)) else stuck causes.Value
zero_outcome negated v s = of_number (zero_bit negated 64) v

abbrev pub is_zero_outcome : Bool → Width → Value → State → Outcome Value
is_zero_outcome negated W v s = of_number (zero_bit negated 32) v
is_zero_outcome negated X v s = zero_outcome negated v s

-- the second of two values: as it is, one more, or a number with its bits turned round
abbrev pub other_outcome : Program → Bool → Bool → Value → Outcome Value
other_outcome g true more b = of_number (λ n. chosen true more 64 0 0 n) b
other_outcome g false true b = sum_of g b (Num 1)
other_outcome g false false b = next b

-- a choice by a test, which is 0 or 1; what isn't chosen isn't looked at
abbrev pub choose_outcome : Program → Bool → Bool → Width → Value → Value → Value → Outcome Value
choose_outcome g inverted more W test a b =
    if is_zero test then of_number (λ n. chosen inverted more 32 0 0 n) b else of_number (λ n. chosen inverted more 32 1 n 0) a
choose_outcome g inverted more X test a b = if is_zero test then other_outcome g inverted more b else next a

-- ---- memory

abbrev pub byte_in : Cell → Option ℕ
byte_in (Byte n) = Some n
byte_in _ = None

abbrev pub is_blank : Cell → Bool
is_blank Blank = true
is_blank _ = false

-- the number of bytes, the low one first
abbrev pub number_of_cells : List Cell → Option ℕ
number_of_cells [] = Some 0
number_of_cells (c ∷ cs) = option_and_then (λ b. option_map (λ n. b + 256 * n) (number_of_cells cs)) (byte_in c)

-- the value of which these are all eight parts
abbrev pub is_part : ℕ → Value → Cell → Bool
is_part k v (Part j w) = (j == k) && same_value v w
is_part k v _ = false

abbrev pub are_parts : ℕ → Value → List Cell → Bool
are_parts k v [] = true
are_parts k v (c ∷ cs) = is_part k v c && are_parts (suc k) v cs

abbrev pub whole_value : List Cell → Option Value
whole_value (Part j v ∷ cs) = if are_parts 0 v (Part j v ∷ cs) then Some v else None
whole_value _ = None

-- the difference of which these are all four parts
abbrev pub is_quarter : ℕ → Target → Target → Cell → Bool
is_quarter k p q (Quarter j r s) = (j == k) && (same_target p r && same_target q s)
is_quarter k p q _ = false

abbrev pub are_quarters : ℕ → Target → Target → List Cell → Bool
are_quarters k p q [] = true
are_quarters k p q (c ∷ cs) = is_quarter k p q c && are_quarters (suc k) p q cs

abbrev pub whole_difference : List Cell → Option Value
whole_difference (Quarter j p q ∷ cs) = if are_quarters 0 p q (Quarter j p q ∷ cs) then Some (Diff p q) else None
whole_difference _ = None

-- the entry of so many bytes of which these are all parts, as a step: its number is what the load makes of the
-- distance divided by the scale
abbrev pub is_entry_part : ℕ → ℕ → ℕ → Point → Point → Cell → Bool
is_entry_part k size scale p q (EntryPart j z y r s) = (j == k) && ((z == size) && ((y == scale) && (same_point p r && same_point q s)))
is_entry_part k size scale p q _ = false

abbrev pub are_entry_parts : ℕ → ℕ → ℕ → Point → Point → List Cell → Bool
are_entry_parts k size scale p q [] = true
are_entry_parts k size scale p q (c ∷ cs) = is_entry_part k size scale p q c && are_entry_parts (suc k) size scale p q cs

-- a number of so many bytes, with its sign to a width or without
abbrev pub taken : ℕ → Bool → Width → ℕ → ℕ
taken count signed w n = if signed then sign_extended (8 * count) (bits_of w) n else n

abbrev pub entry_step : Program → ℕ → Bool → Width → ℕ → Point → Point → Value
entry_step g count signed w scale p q = Step p q (taken count signed w (wrapped (8 * count) (int_div_euclid (dist g p q) (pos scale))))

abbrev pub whole_entry : Program → ℕ → Bool → Width → List Cell → Option Value
whole_entry g count signed w (EntryPart j size scale p q ∷ cs) =
    if (size == count) && are_entry_parts 0 size scale p q (EntryPart j size scale p q ∷ cs) then Some (entry_step g count signed w scale p q) else None
whole_entry g count signed w _ = None

-- a load of four bytes with their sign to 64 bits takes differences too
abbrev pub takes_quarters : ℕ → Bool → Width → Bool
takes_quarters count signed W = false
takes_quarters count signed X = (count == 4) && signed

abbrev pub or_else : {A : Type 0} → Option A → Option A → Option A
or_else None b = b
or_else (Some a) b = Some a

-- the value that cells form for a load
abbrev pub formed_value : Program → ℕ → Bool → Width → List Cell → Option Value
formed_value g count signed w cells =
    or_else (option_map (λ n. Num (taken count signed w n)) (number_of_cells cells))
    (or_else (whole_entry g count signed w cells)
    (or_else (if takes_quarters count signed w then whole_difference cells else None)
    (if count == 8 then whole_value cells else None)))

abbrev pub read_cells : Program → ℕ → Bool → Width → List Cell → Outcome Value
read_cells g count signed w cells =
    if list_any is_blank cells then stuck causes.Undefined else or_stuck Mixed (formed_value g count signed w cells)

-- so many bytes from an offset on lie in an object
abbrev pub is_inside : State → Object → ℕ → ℕ → Bool
is_inside s o offset count = nat_le (offset + count) (object_size s o)

abbrev pub load_outcome : Program → ℕ → Bool → Width → Value → State → Outcome Value
load_outcome g count signed w (Addr o x) s = if is_inside s o x count then read_cells g count signed w (cells_at s o x count) else stuck Outside
load_outcome g count signed w v s = stuck causes.Value

-- the cells that a store of so many bytes puts: eight bytes hold any value
abbrev pub stored_cells : ℕ → Value → Option (List Cell)
stored_cells count v = if count == 8 then Some (value_cells v) else option_map (number_cells count) (number_in v)

abbrev pub put_cells : Value → List Cell → State → Outcome State
put_cells (Addr o x) cells s = if is_inside s o x (length cells) then next (with_cells o x cells s) else stuck Outside
put_cells v cells s = stuck causes.Value

abbrev pub store_outcome : ℕ → Value → Value → State → Outcome State
store_outcome count v at s = then_do (or_stuck causes.Value (stored_cells count v)) (λ cells. put_cells at cells s)

-- ---- where a program goes on

abbrev pub at_place : Point → State → State
at_place p s = record s { place = p }

abbrev pub advanced : Program → State → State
advanced g s = at_place (after g s.place) s

abbrev pub jumped : Value → State → Outcome State
jumped (At p) s = next (at_place p s)
jumped v s = stuck causes.Value

-- ---- calls of the system

-- a register that must be a number
abbrev pub counted : {A : Type 0} → ℕ → State → (ℕ → Outcome A) → Outcome A
counted r s go = then_do (or_stuck causes.Value (number_in (register false r s))) go

-- the object and the offset of an address
abbrev pub addressed : {A : Type 0} → Value → (Object → ℕ → Outcome A) → Outcome A
addressed (Addr o x) go = go o x
addressed v go = stuck causes.Value

-- bytes that are known as numbers
abbrev pub bytes_in : List Cell → Option (List ℕ)
bytes_in [] = Some []
bytes_in (c ∷ cs) = option_and_then (λ b. option_map (λ bs. b ∷ bs) (bytes_in cs)) (byte_in c)

abbrev pub known_bytes : List Cell → Outcome (List ℕ)
known_bytes cells = if list_any is_blank cells then stuck causes.Undefined else or_stuck Mixed (bytes_in cells)

abbrev pub call_done : ℕ → State → Outcome State
call_done count s = next (with_register false 0 (Num count) s)

-- call 64 writes as many bytes as X2 says, from the address in X1 on; the output ends at 2 ^ 24 bytes
abbrev pub written : ℕ → State → Outcome State
written count s =
    if count == 0 then call_done count s
    else addressed (register false 1 s) (λ o x.
    if not (is_inside s o x count) then stuck Outside
    else if nat_lt (2 ^ 24) (length s.output + count) then ended (trapped traps.OutputFull) s
    else then_do (known_bytes (cells_at s o x count)) (λ bytes. call_done count (record s { output = s.output ++ bytes })))

-- call 63 reads so many bytes of the input to the address in X1
abbrev pub received : ℕ → State → Outcome State
received count s =
    if count == 0 then call_done count s
    else addressed (register false 1 s) (λ o x.
    if not (is_inside s o x count) then stuck Outside
    else call_done count (with_cells o x (map Byte (take count s.input)) (record s { input = drop count s.input })))

abbrev pub bad_call : State → Outcome State
bad_call s = ended (trapped traps.BadCall) s

abbrev pub call_of : ℕ → State → Outcome State
call_of number s =
    if number == 93 then counted 0 s (λ status. ended (exit (status % 256)) s)
    else if number == 64 then counted 0 s (λ file. if file == 1 then counted 2 s (λ count. written count s) else bad_call s)
    else if number == 63 then counted 0 s (λ file. if file == 0 then counted 2 s (λ count. received (min count (length s.input)) s) else bad_call s)
    else bad_call s

-- the call in X8; each register must be a number where it is first read
abbrev pub called : ℕ → State → Outcome State
called immediate s = if immediate == 0 then counted 8 s (λ number. call_of number s) else bad_call s

-- ---- the machine of a program
abbrev pub symbolic : Program → Domain Cause Value State
symbolic g = record {
  number = λ n. Num n;
  target = λ page offset s. target_outcome page s.named;
  read = λ stack r s. next (register stack r s);
  carry = λ s. or_stuck Flag (option_map (λ c. Num (bit_of c)) s.flags.c);
  unary = λ f w v s. unary_outcome f w v;
  binary = λ f w a b s. of_numbers (λ m n. Num (binary_value f (bits_of w) m n)) a b;
  sum = λ sum w a b s. sum_outcome g sum w a b;
  join_low = λ unit field v s. join_low_outcome g unit field v s.named;
  load = load_outcome g;
  condition = condition_outcome;
  is_zero = is_zero_outcome;
  choose = λ inverted more w test a b s. choose_outcome g inverted more w test a b;
  store = store_outcome;
  write = λ stack r v s. next (with_register stack r v s);
  flags_of_sum = λ sum w a b s. then_do (flags_outcome s sum w a b) (λ f. next (with_flags s f));
  flags_of_carry = λ sum w a b c s. then_do (carried_outcome sum w a b c) (λ f. next (with_flags s f));
  flags_of_logic = λ w v s. then_do (or_stuck causes.Value (number_in v)) (λ n. next (with_flags s (known (logic_flags (bits_of w) n))));
  flags_if = λ sum w test a b nzcv s. if is_zero test then next (with_flags s (known (named_flags nzcv))) else then_do (flags_outcome s sum w a b) (λ f. next (with_flags s f));
  link = λ s. next (with_register false 30 (At (after g s.place)) s);
  call = called;
  advance = λ s. next (advanced g s);
  jump = jumped;
  jump_if = λ test v s. if is_zero test then next (advanced g s) else jumped v s;
  trap = λ why s. ended (trapped why) s;
}
