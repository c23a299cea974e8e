-- Calls of the system.
use Rattle.std.proofs.Common.{◌≡◌, ℕ, ◌+◌, ◌%◌, ◌^◌, ◌<◌, ◌≤◌, min, Bool, true, false, List, [], ◌∷◌, ◌++◌, length, take, drop, Option, Some, None, refl, sym, ap, ◌∙◌, subst, arith}
use Rattle.std.specs.Prelude.{◌==◌, not, nat_lt, if◌then◌else◌, map, All}
use Rattle.std.specs.List.{list_any}
use Rattle.std.specs.Option.{option_map}
use Rattle.std.proofs.lemmas.Bool.{leb-true}
use Rattle.std.proofs.lemmas.List.{length-take-le, length-map}
use Rattle.std.proofs.lemmas.List.Elements.{All-take, All-drop}
use Rattle.a64_inst.specs.declared.trap.Trap.TheVariants as traps
use Rattle.a64_inst.specs.Domain.{exit, trapped, Answer, next, ended, stuck, then_do}
use Rattle.num_run.specs.Machine.{Machine, register as number_in_register, with_register as with_number}
use Rattle.num_run.specs.Numeric.{written as written_from, received as received_at, called as called_by}
use Rattle.paged_memory.specs.Mapping.{Mapping, is_mapped, bytes_from, with_bytes}
use Rattle.sym_expr.specs.declared.cause.Cause.{Cause}
use Rattle.sym_expr.specs.declared.cause.Cause.TheVariants.{Mixed, Outside}
use Rattle.sym_expr.specs.declared.cause.Cause.TheVariants as causes
use Rattle.sym_expr.specs.declared.point.Point.{Point}
use Rattle.sym_expr.specs.declared.program.Program.{Program}
use Rattle.sym_expr.specs.declared.target.Target.{Target}
use Rattle.sym_expr.specs.declared.value.Object.{Object}
use Rattle.sym_expr.specs.declared.value.Value.{Value}
use Rattle.sym_expr.specs.declared.value.Value.TheVariants.{Num, Addr, At, PageOf, Diff, Step}
use Rattle.sym_expr.specs.States.{State, register, cells_at, with_cells, object_size}
use Rattle.sym_expr.specs.Symbolic.{or_stuck, is_blank, is_inside, counted, addressed, bytes_in, known_bytes, call_done, written, received, bad_call, call_of, called}
use Rattle.sym_expr.specs.Values.{Cell, Byte, Part, Quarter, EntryPart, Blank, number_in}
use Rattle.simulation.specs.Placement.{Placement, object_address}
use Rattle.simulation.specs.Meant.{Means}
use Rattle.simulation.specs.Held.{Related}
use Rattle.simulation.specs.Placed.{IsPlaced}
use Rattle.simulation.proofs.Context.{During, Leaves, IsNumber, number_is}
use Rattle.simulation.proofs.Values.{means_small}
use Rattle.simulation.proofs.Changes.{register_means, write_during}
use Rattle.simulation.proofs.Bytes.{AreBytes, input_stored}
use Rattle.simulation.proofs.Loads.{object_span}
use Rattle.simulation.proofs.Stores.{related_stored}

-- ---- known bytes

-- bytes that cells are known to be
abbrev pub AreKnown : Option (List ℕ) → List ℕ → Type 0
AreKnown None bs = Unit {0}
AreKnown (Some known) bs = known ≡ bs

known_more : (o : Option (List ℕ)) (b c : ℕ) (bs : List ℕ) → AreKnown o bs → b ≡ c → AreKnown (option_map (λ xs. c ∷ xs) o) (b ∷ bs)
known_more None b c bs h e = tt
known_more (Some xs) b c bs h e = rw (h, e) refl

module _ (pl : Placement) (g : Program) where
  pub bytes_known : (cs : List Cell) (bs : List ℕ) → AreBytes pl g cs bs → AreKnown (bytes_in cs) bs
  bytes_known [] [] h = refl
  bytes_known [] (b ∷ bs) h = absurd h
  bytes_known (c ∷ cs) [] h = absurd h
  bytes_known (Byte x ∷ cs) (b ∷ bs) h = known_more (bytes_in cs) b x bs (bytes_known cs bs h.1) h.0.0
  bytes_known (Part k v ∷ cs) (b ∷ bs) h = tt
  bytes_known (Quarter k p q ∷ cs) (b ∷ bs) h = tt
  bytes_known (EntryPart k size scale p q ∷ cs) (b ∷ bs) h = tt
  bytes_known (Blank ∷ cs) (b ∷ bs) h = tt

  -- ---- input and output

  input_changed : (xs ys : List ℕ) (s : State) (m : Machine) → Related pl g s m → All (λ b. b < 256) xs → ys ≡ xs → Related pl g (record s { input = xs }) (record m { input = ys })
  input_changed xs ys s m h bytes e = record {
    count = h.count;
    registers = h.registers;
    stack_pointer = h.stack_pointer;
    flags = h.flags;
    sizes = h.sizes;
    cells = h.cells;
    code = h.code;
    is_point = h.is_point;
    place = h.place;
    bytes = bytes;
    input = e;
    output = h.output;
  }

  output_changed : (xs ys : List ℕ) (s : State) (m : Machine) → Related pl g s m → ys ≡ xs → Related pl g (record s { output = xs }) (record m { output = ys })
  output_changed xs ys s m h e = record {
    count = h.count;
    registers = h.registers;
    stack_pointer = h.stack_pointer;
    flags = h.flags;
    sizes = h.sizes;
    cells = h.cells;
    code = h.code;
    is_point = h.is_point;
    place = h.place;
    bytes = h.bytes;
    input = h.input;
    output = e;
  }

module _ (pl : Placement) (g : Program) (memory0 : Mapping) (placed : IsPlaced pl g memory0) (at : Point) (t : Option Target) where
  -- either of two
  either_leaves : (b : Bool) (x y : Answer Cause State State) (z u : Answer ⊥ Machine Machine) → Leaves pl g at t x z → Leaves pl g at t y u → Leaves pl g at t (if b then x else y) (if b then z else u)
  either_leaves true x y z u h k = h
  either_leaves false x y z u h k = k

  number_goes : (o : Option ℕ) (n : ℕ) (go : ℕ → Answer Cause State State) (y : Answer ⊥ Machine Machine) → IsNumber o n → Leaves pl g at t (go n) y → Leaves pl g at t (then_do (or_stuck causes.Value o) go) y
  number_goes None n go y h k = tt
  number_goes (Some x) n go y h k = subst (λ (z : ℕ). Leaves pl g at t (go z) y) (sym h.0) k

  module _ (s : State) (m : Machine) (h : During pl g at t s m) where
    -- a register that is a number
    register_goes : (r : ℕ) (go : ℕ → Answer Cause State State) (y : Answer ⊥ Machine Machine) → Leaves pl g at t (go (number_in_register false r m)) y → Leaves pl g at t (counted r s go) y
    register_goes r go y k =
        number_goes (number_in (register false r s)) (number_in_register false r m) go y (number_is pl g (register false r s) (number_in_register false r m) (register_means pl g false r s m h.related)) k

    done : (n : ℕ) → n < 2 ^ 64 → Leaves pl g at t (call_done n s) (next (with_number false 0 n m))
    done n small = write_during pl g at t false 0 (Num n) n s m h (record { valid = small; number = refl })

    -- ---- writing

    output_done : (n : ℕ) (o : Option (List ℕ)) (bs : List ℕ) → n < 2 ^ 64 → AreKnown o bs
        → Leaves pl g at t (then_do (or_stuck Mixed o) (λ xs. call_done n (record s { output = s.output ++ xs }))) (next (with_number false 0 n (record m { output = m.output ++ bs })))
    output_done n None bs small k = tt
    output_done n (Some xs) bs small k =
        write_during pl g at t false 0 (Num n) n (record s { output = s.output ++ xs }) (record m { output = m.output ++ bs })
        (record { related = output_changed pl g (s.output ++ xs) (m.output ++ bs) s m h.related (rw (h.related.output, k) refl); place = h.place; named = h.named })
        (record { valid = small; number = refl })

    blank_or_done : (b : Bool) (n : ℕ) (o : Option (List ℕ)) (bs : List ℕ) → n < 2 ^ 64 → AreKnown o bs
        → Leaves pl g at t (then_do (if b then stuck causes.Undefined else or_stuck Mixed o) (λ xs. call_done n (record s { output = s.output ++ xs }))) (next (with_number false 0 n (record m { output = m.output ++ bs })))
    blank_or_done true n o bs small k = tt
    blank_or_done false n o bs small k = output_done n o bs small k

    written_inside : (b : Bool) (n : ℕ) (o : Object) (x a : ℕ) → n < 2 ^ 64 → Means pl g (Addr o x) a → (b ≡ true → x + n ≤ object_size s o)
        → Leaves pl g at t
        (if not b then stuck Outside
        else if nat_lt (2 ^ 24) (length s.output + n) then ended (trapped traps.OutputFull) s
        else then_do (known_bytes (cells_at s o x n)) (λ xs. call_done n (record s { output = s.output ++ xs })))
        (if not (is_mapped m.memory a n) then ended (trapped traps.Fault) m
        else if nat_lt (2 ^ 24) (length m.output + n) then ended (trapped traps.OutputFull) m
        else next (with_number false 0 n (record m { output = m.output ++ bytes_from m.memory a n })))
    written_inside false n o x a small v inside = tt
    written_inside true n o x a small v inside =
        let read = object_span pl g memory0 placed s m o x a n h.related v (inside refl) in
        let long : nat_lt (2 ^ 24) (length m.output + n) ≡ nat_lt (2 ^ 24) (length s.output + n) = ap (λ (xs : List ℕ). nat_lt (2 ^ 24) (length xs + n)) h.related.output in
        rw (read.0, read.1, long)
        (either_leaves (nat_lt (2 ^ 24) (length s.output + n)) (ended (trapped traps.OutputFull) s) (then_do (known_bytes (cells_at s o x n)) (λ xs. call_done n (record s { output = s.output ++ xs })))
        (ended (trapped traps.OutputFull) m) (next (with_number false 0 n (record m { output = m.output ++ bytes_from m.memory (object_address pl o + x) n })))
        (refl, h.related)
        (blank_or_done (list_any is_blank (cells_at s o x n)) n (bytes_in (cells_at s o x n)) (bytes_from m.memory (object_address pl o + x) n) small (bytes_known pl g (cells_at s o x n) (bytes_from m.memory (object_address pl o + x) n) read.2)))

    written_at : (n : ℕ) (v : Value) (a : ℕ) → n < 2 ^ 64 → Means pl g v a
        → Leaves pl g at t
        (addressed v (λ o x.
        if not (is_inside s o x n) then stuck Outside
        else if nat_lt (2 ^ 24) (length s.output + n) then ended (trapped traps.OutputFull) s
        else then_do (known_bytes (cells_at s o x n)) (λ xs. call_done n (record s { output = s.output ++ xs }))))
        (if not (is_mapped m.memory a n) then ended (trapped traps.Fault) m
        else if nat_lt (2 ^ 24) (length m.output + n) then ended (trapped traps.OutputFull) m
        else next (with_number false 0 n (record m { output = m.output ++ bytes_from m.memory a n })))
    written_at n (Addr o x) a small v = written_inside (is_inside s o x n) n o x a small v (leb-true (x + n) (object_size s o))
    written_at n (Num k) a small v = tt
    written_at n (At p) a small v = tt
    written_at n (PageOf u) a small v = tt
    written_at n (Diff p q) a small v = tt
    written_at n (Step p q k) a small v = tt

    writes : (n : ℕ) → n < 2 ^ 64 → Leaves pl g at t (written n s) (written_from (number_in_register false 1 m) n m)
    writes n small =
        either_leaves (n == 0) (call_done n s) _ (next (with_number false 0 n m)) _ (done n small)
        (written_at n (register false 1 s) (number_in_register false 1 m) small (register_means pl g false 1 s m h.related))

    -- ---- reading

    -- the states after n bytes of the input have gone to an object
    took : (n : ℕ) (o : Object) (x a : ℕ) → n ≤ length s.input → n < 2 ^ 64 → Means pl g (Addr o x) a → x + n ≤ object_size s o → a ≡ object_address pl o + x
        → Leaves pl g at t (call_done n (with_cells o x (map Byte (take n s.input)) (record s { input = drop n s.input })))
        (next (with_number false 0 n (record m { memory = with_bytes m.memory a (take n m.input); input = drop n m.input })))
    took n o x a few small v inside e =
        let bytes = All-take (λ b. b < 256) n s.input h.related.bytes in
        let rest = All-drop (λ b. b < 256) n s.input h.related.bytes in
        let count : length (map Byte (take n s.input)) ≡ n = length-map (take n s.input) Byte ∙ length-take-le n s.input few in
        let after : Related pl g (record s { input = drop n s.input }) (record m { input = drop n m.input }) =
        input_changed pl g (drop n s.input) (drop n m.input) s m h.related rest (ap (λ (xs : List ℕ). drop n xs) h.related.input) in
        let stored = related_stored pl g memory0 placed o x (map Byte (take n s.input)) (take n s.input) (record s { input = drop n s.input }) (record m { input = drop n m.input }) after v.valid.0
        (input_stored pl g (take n s.input) bytes) (omega (arith, count, inside)) in
        let same : take n m.input ≡ take n s.input = ap (λ (xs : List ℕ). take n xs) h.related.input in
        rw (e, same)
        (write_during pl g at t false 0 (Num n) n (with_cells o x (map Byte (take n s.input)) (record s { input = drop n s.input }))
        (record m { memory = with_bytes m.memory (object_address pl o + x) (take n s.input); input = drop n m.input })
        (record { related = stored; place = h.place; named = h.named }) (record { valid = small; number = refl }))

    received_inside : (b : Bool) (n : ℕ) (o : Object) (x a : ℕ) → n ≤ length s.input → n < 2 ^ 64 → Means pl g (Addr o x) a → (b ≡ true → x + n ≤ object_size s o)
        → Leaves pl g at t
        (if not b then stuck Outside else call_done n (with_cells o x (map Byte (take n s.input)) (record s { input = drop n s.input })))
        (if not (is_mapped m.memory a n) then ended (trapped traps.Fault) m
        else next (with_number false 0 n (record m { memory = with_bytes m.memory a (take n m.input); input = drop n m.input })))
    received_inside false n o x a few small v inside = tt
    received_inside true n o x a few small v inside =
        let read = object_span pl g memory0 placed s m o x a n h.related v (inside refl) in
        let mapped : is_mapped m.memory a n ≡ true = ap (λ (b : ℕ). is_mapped m.memory b n) read.0 ∙ read.1 in
        rw mapped (took n o x a few small v (inside refl) read.0)

    received_from : (n : ℕ) (v : Value) (a : ℕ) → n ≤ length s.input → n < 2 ^ 64 → Means pl g v a
        → Leaves pl g at t
        (addressed v (λ o x. if not (is_inside s o x n) then stuck Outside else call_done n (with_cells o x (map Byte (take n s.input)) (record s { input = drop n s.input }))))
        (if not (is_mapped m.memory a n) then ended (trapped traps.Fault) m
        else next (with_number false 0 n (record m { memory = with_bytes m.memory a (take n m.input); input = drop n m.input })))
    received_from n (Addr o x) a few small v = received_inside (is_inside s o x n) n o x a few small v (leb-true (x + n) (object_size s o))
    received_from n (Num k) a few small v = tt
    received_from n (At p) a few small v = tt
    received_from n (PageOf u) a few small v = tt
    received_from n (Diff p q) a few small v = tt
    received_from n (Step p q k) a few small v = tt

    reads : (n : ℕ) → n ≤ length s.input → n < 2 ^ 64 → Leaves pl g at t (received n s) (received_at (number_in_register false 1 m) n m)
    reads n few small =
        either_leaves (n == 0) (call_done n s) _ (next (with_number false 0 n m)) _ (done n small)
        (received_from n (register false 1 s) (number_in_register false 1 m) few small (register_means pl g false 1 s m h.related))

    reads_most : (n : ℕ) → n < 2 ^ 64 → Leaves pl g at t (received (min n (length s.input)) s) (received_at (number_in_register false 1 m) (min n (length m.input)) m)
    reads_most n small =
        subst (λ (xs : List ℕ). Leaves pl g at t (received (min n (length s.input)) s) (received_at (number_in_register false 1 m) (min n (length xs)) m)) (sym h.related.input)
        (reads (min n (length s.input)) (omega arith) (omega (arith, small)))

    -- ---- all calls

    bad : Leaves pl g at t (bad_call s) (ended (trapped traps.BadCall) m)
    bad = (refl, h.related)

    small_register : (r : ℕ) → number_in_register false r m < 2 ^ 64
    small_register r = means_small pl g memory0 placed (register false r s) (number_in_register false r m) (register_means pl g false r s m h.related)

    exits : Leaves pl g at t (counted 0 s (λ status. ended (exit (status % 256)) s)) (ended (exit (number_in_register false 0 m % 256)) m)
    exits = register_goes 0 (λ status. ended (exit (status % 256)) s) (ended (exit (number_in_register false 0 m % 256)) m) (refl, h.related)

    call_writes : Leaves pl g at t (counted 0 s (λ file. if file == 1 then counted 2 s (λ count. written count s) else bad_call s))
        (if number_in_register false 0 m == 1 then written_from (number_in_register false 1 m) (number_in_register false 2 m) m else ended (trapped traps.BadCall) m)
    call_writes =
        register_goes 0 (λ file. if file == 1 then counted 2 s (λ count. written count s) else bad_call s) _
        (either_leaves (number_in_register false 0 m == 1) (counted 2 s (λ count. written count s)) (bad_call s) (written_from (number_in_register false 1 m) (number_in_register false 2 m) m) (ended (trapped traps.BadCall) m)
        (register_goes 2 (λ count. written count s) (written_from (number_in_register false 1 m) (number_in_register false 2 m) m) (writes (number_in_register false 2 m) (small_register 2))) bad)

    call_reads : Leaves pl g at t (counted 0 s (λ file. if file == 0 then counted 2 s (λ count. received (min count (length s.input)) s) else bad_call s))
        (if number_in_register false 0 m == 0 then received_at (number_in_register false 1 m) (min (number_in_register false 2 m) (length m.input)) m else ended (trapped traps.BadCall) m)
    call_reads =
        register_goes 0 (λ file. if file == 0 then counted 2 s (λ count. received (min count (length s.input)) s) else bad_call s) _
        (either_leaves (number_in_register false 0 m == 0) (counted 2 s (λ count. received (min count (length s.input)) s)) (bad_call s)
        (received_at (number_in_register false 1 m) (min (number_in_register false 2 m) (length m.input)) m) (ended (trapped traps.BadCall) m)
        (register_goes 2 (λ count. received (min count (length s.input)) s) (received_at (number_in_register false 1 m) (min (number_in_register false 2 m) (length m.input)) m) (reads_most (number_in_register false 2 m) (small_register 2))) bad)

    by_number : (n : ℕ) → Leaves pl g at t (call_of n s)
        (if n == 93 then ended (exit (number_in_register false 0 m % 256)) m
        else if n == 64 then (if number_in_register false 0 m == 1 then written_from (number_in_register false 1 m) (number_in_register false 2 m) m else ended (trapped traps.BadCall) m)
        else if n == 63 then (if number_in_register false 0 m == 0 then received_at (number_in_register false 1 m) (min (number_in_register false 2 m) (length m.input)) m else ended (trapped traps.BadCall) m)
        else ended (trapped traps.BadCall) m)
    by_number n = either_leaves (n == 93) _ _ _ _ exits (either_leaves (n == 64) _ _ _ _ call_writes (either_leaves (n == 63) _ _ _ _ call_reads bad))

    turned_either : (b : Bool) (x y : Answer Cause State State) (z u : Answer ⊥ Machine Machine) → Leaves pl g at t x z → Leaves pl g at t y u → Leaves pl g at t (if b then x else y) (if not b then u else z)
    turned_either true x y z u k l = k
    turned_either false x y z u k l = l

    pub calls_agree : (immediate : ℕ) → Leaves pl g at t (called immediate s) (called_by immediate m)
    calls_agree immediate =
        turned_either (immediate == 0) (counted 8 s (λ n. call_of n s)) (bad_call s) _ (ended (trapped traps.BadCall) m)
        (register_goes 8 (λ n. call_of n s) _ (by_number (number_in_register false 8 m))) bad
