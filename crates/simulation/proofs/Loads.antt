-- Loads: the value that cells form, and the number of their bytes.
use Rattle.std.proofs.Common.{◌≡◌, ℕ, zero, suc, ◌+◌, ◌-◌, ◌*◌, ◌/◌, ◌%◌, ◌^◌, ◌<◌, ◌≤◌, ℤ, pos, negsuc, inl, inr, Bool, true, false, List, [], ◌∷◌, length, take, drop, Option, Some, None, refl, sym, ap, ◌∙◌, subst, arith}
use Rattle.std.specs.Prelude.{◌==◌, ◌&&◌, if◌then◌else◌, slice_index_or}
use Rattle.std.specs.Int.{int_div_euclid}
use Rattle.std.specs.List.{list_any}
use Rattle.std.specs.Option.{option_map}
use Rattle.std.proofs.Math.Nat.{mod-mod, mod-eq_of_lt, mod-le, pow-suc}
use Rattle.std.proofs.Math.Pow.{pow_mono}
use Rattle.std.proofs.Math.Seq.{drop-cons}
use Rattle.std.proofs.lemmas.Bool.{and_parts, eqb-true, leb-true, cases_lt, false≢true}
use Rattle.std.proofs.lemmas.Nat.{mod_below, pow_pos, pow-add}
use Rattle.a64_inst.specs.declared.operations.Width.{Width}
use Rattle.a64_inst.specs.declared.operations.Width.TheVariants.{W, X}
use Rattle.a64_inst.specs.Domain.{stuck}
use Rattle.a64_inst.specs.Numbers.{bits_of, low, is_negative, sign_extended}
use Rattle.num_run.specs.Machine.{Machine}
use Rattle.num_run.specs.Numeric.{loaded}
use Rattle.paged_memory.specs.Mapping.{Mapping, is_mapped, bytes_from, number_of}
use Rattle.std.proofs.lemmas.List.FromFn.{length-map-range_with_len}
use Rattle.sym_expr.specs.declared.cause.Cause.TheVariants.{Mixed, Outside}
use Rattle.sym_expr.specs.declared.cause.Cause.TheVariants as causes
use Rattle.sym_expr.specs.declared.point.Point.{Point}
use Rattle.sym_expr.specs.declared.program.Program.{Program}
use Rattle.sym_expr.specs.declared.value.Object.{Object}
use Rattle.sym_expr.specs.declared.value.Value.{Value}
use Rattle.sym_expr.specs.declared.value.Value.TheVariants.{Num, Addr, At, PageOf, Diff, Step}
use Rattle.sym_expr.specs.States.{State, cells_at, object_size, less}
use Rattle.sym_expr.specs.Symbolic.{or_stuck, dist, wrapped, is_blank, number_of_cells, are_parts, whole_value, are_quarters, whole_difference, are_entry_parts, taken, entry_step, whole_entry, takes_quarters, or_else, formed_value, read_cells, is_inside, load_outcome}
use Rattle.sym_expr.specs.Values.{Cell, Byte, Part, Quarter, EntryPart, Blank}
use Rattle.simulation.specs.Placement.{Placement, object_address, target_number, value_number}
use Rattle.simulation.specs.Meant.{Means, entry_number}
use Rattle.simulation.specs.Held.{HasCell, Related}
use Rattle.simulation.specs.Placed.{IsPlaced}
use Rattle.simulation.proofs.Context.{Gives, plain}
use Rattle.simulation.proofs.Values.{value_small}
use Rattle.simulation.proofs.Small.{either_small}
use Rattle.simulation.proofs.Sums.{answer}
use Rattle.simulation.proofs.Bytes.{AreBytes, number_from, number_whole, IsNumberOf, number_of_bytes, parts_bytes, quarters_bytes, entry_bytes}

-- ---- numbers of up to eight bytes

bytes_small : (k : ℕ) → k ≤ 8 → 256 ^ k ≤ 2 ^ 64
bytes_small zero h = omega arith
bytes_small (suc zero) h = omega arith
bytes_small (suc (suc zero)) h = omega arith
bytes_small (suc (suc (suc zero))) h = omega arith
bytes_small (suc (suc (suc (suc zero)))) h = omega arith
bytes_small (suc (suc (suc (suc (suc zero))))) h = omega arith
bytes_small (suc (suc (suc (suc (suc (suc zero)))))) h = omega arith
bytes_small (suc (suc (suc (suc (suc (suc (suc zero))))))) h = omega arith
bytes_small (suc (suc (suc (suc (suc (suc (suc (suc zero)))))))) h = omega arith
bytes_small (suc (suc (suc (suc (suc (suc (suc (suc (suc k))))))))) h = absurd (omega (arith, h))

raised : (bits width n : ℕ) → width ≤ 64 → n < 2 ^ 64 → low bits n + (2 ^ width - 2 ^ bits) < 2 ^ 64
raised bits width n most small =
    let below = mod_below n (2 ^ bits) (pow_pos bits) in
    let least = mod-le n (2 ^ bits) in
    let all : 2 ^ width ≤ 2 ^ 64 = pow_mono most in
    elim (cases_lt width bits) [
      | inl more ↦ let p : 2 ^ width ≤ 2 ^ bits = pow_mono (omega (arith, more)) in omega (arith, least, p, small)
      | inr fewer ↦ let p : 2 ^ bits ≤ 2 ^ width = pow_mono fewer in omega (arith, below, p, all)
    ]

pub extended_small : (bits width n : ℕ) → width ≤ 64 → n < 2 ^ 64 → sign_extended bits width n < 2 ^ 64
extended_small bits width n most small =
    let least = mod-le n (2 ^ bits) in
    either_small (is_negative bits (low bits n)) (low bits n + (2 ^ width - 2 ^ bits)) (low bits n) (2 ^ 64) (raised bits width n most small) (omega (arith, least, small))

width_most : (w : Width) → bits_of w ≤ 64
width_most W = omega arith
width_most X = omega arith

pub taken_small : (count : ℕ) (signed : Bool) (w : Width) (n : ℕ) → n < 2 ^ 64 → taken count signed w n < 2 ^ 64
taken_small count true w n h = extended_small (8 * count) (bits_of w) n (width_most w) h
taken_small count false w n h = h

either_same : (b : Bool) (x y : ℕ) → y ≡ x → (if b then y else x) ≡ x
either_same true x y e = e
either_same false x y e = refl

-- eight bytes have no more sign
taken_whole : (signed : Bool) (w : Width) (n : ℕ) → n < 2 ^ 64 → taken 8 signed w n ≡ n
taken_whole false w n h = refl
taken_whole true W n h = either_same (is_negative 64 (low 64 n)) (low 64 n) (low 64 n + (2 ^ 32 - 2 ^ 64)) (omega arith) ∙ mod-eq_of_lt h
taken_whole true X n h = either_same (is_negative 64 (low 64 n)) (low 64 n) (low 64 n + (2 ^ 64 - 2 ^ 64)) (omega arith) ∙ mod-eq_of_lt h

wrapped_small : (bits : ℕ) (z : ℤ) → wrapped bits z < 2 ^ bits
wrapped_small bits (pos a) = mod_below a (2 ^ bits) (pow_pos bits)
wrapped_small bits (negsuc a) = omega (arith, pow_pos bits)

bytes_power : (k : ℕ) → 2 ^ (8 * k) ≡ 256 ^ k
bytes_power zero = refl
bytes_power (suc k) =
    let count : 8 * suc k ≡ 8 + 8 * k = omega arith in
    let split = pow-add 2 8 (8 * k) in
    let power = pow-suc 256 k in
    ap (λ (n : ℕ). 2 ^ n) count ∙ omega (arith, split, power, bytes_power k)

entry_small : (g : Program) (size scale : ℕ) (p q : Point) → entry_number g size scale p q < 256 ^ size
entry_small g size scale p q = subst (λ (n : ℕ). entry_number g size scale p q < n) (bytes_power size) (wrapped_small (8 * size) (int_div_euclid (dist g p q) (pos scale)))

-- ---- bytes that are read

module _ (pl : Placement) (g : Program) (memory : Mapping) where
  pub span : (cells : List Cell) (a x count : ℕ) → ((k : ℕ) → k < length cells → HasCell pl g memory (a + k) (slice_index_or cells k Blank)) → x + count ≤ length cells
      → (is_mapped memory (a + x) count ≡ true) × AreBytes pl g (take count (drop x cells)) (bytes_from memory (a + x) count)
  span cells a x zero h le = (refl, tt)
  span cells a x (suc count) h le =
      let lt : x < length cells = omega (arith, le) in
      let first = h x lt in
      let next : a + suc x ≡ a + x + 1 = omega arith in
      let rest = subst (λ (n : ℕ). (is_mapped memory n count ≡ true) × AreBytes pl g (take count (drop (suc x) cells)) (bytes_from memory n count)) next (span cells a (suc x) count h (omega (arith, le))) in
      rw (drop-cons cells x Blank lt, first.mapped) (rest.0, (first.means, rest.1))

-- ---- the value that is loaded

module _ (pl : Placement) (g : Program) (memory : Mapping) (placed : IsPlaced pl g memory) where
  -- a value that cells form is the number that is loaded
  abbrev pub IsLoaded : Option Value → ℕ → Type 0
  IsLoaded None n = Unit {0}
  IsLoaded (Some v) n = Means pl g v n

  either_loaded : (a b : Option Value) (n : ℕ) → IsLoaded a n → IsLoaded b n → IsLoaded (or_else a b) n
  either_loaded None b n h k = k
  either_loaded (Some v) b n h k = h

  if_loaded : (b : Bool) (o : Option Value) (n : ℕ) → (b ≡ true → IsLoaded o n) → IsLoaded (if b then o else None) n
  if_loaded true o n h = h refl
  if_loaded false o n h = tt

  module _ (count : ℕ) (signed : Bool) (w : Width) (most : count ≤ 8) where
    number_loaded : (o : Option ℕ) (bs : List ℕ) → length bs ≡ count → IsNumberOf pl g o bs → IsLoaded (option_map (λ n. Num (taken count signed w n)) o) (taken count signed w (number_of bs))
    number_loaded None bs e h = tt
    number_loaded (Some n) bs e h =
        let power = bytes_small (length bs) (omega (arith, e, most)) in
        let below = h.1 in
        record { valid = taken_small count signed w n (omega (arith, power, below)); number = ap (taken count signed w) (sym h.0) }

    entry_loaded : (cs : List Cell) (bs : List ℕ) → length bs ≡ count → AreBytes pl g cs bs → IsLoaded (whole_entry g count signed w cs) (taken count signed w (number_of bs))
    entry_loaded (EntryPart j size scale p q ∷ cs) (b ∷ bs) e h =
        if_loaded ((size == count) && are_entry_parts 0 size scale p q (EntryPart j size scale p q ∷ cs)) (Some (entry_step g count signed w scale p q)) (taken count signed w (number_of (b ∷ bs)))
        (λ t.
        let both = and_parts (size == count) (are_entry_parts 0 size scale p q (EntryPart j size scale p q ∷ cs)) t in
        let same : size ≡ count = eqb-true size count both.0 in
        let bytes = entry_bytes pl g 0 size scale p q (EntryPart j size scale p q ∷ cs) (b ∷ bs) both.1 h in
        let whole : number_of (b ∷ bs) ≡ entry_number g size scale p q = number_whole (entry_number g size scale p q) size (b ∷ bs) bytes (e ∙ sym same) (entry_small g size scale p q) in
        let number : number_of (b ∷ bs) ≡ entry_number g count scale p q = whole ∙ ap (λ (n : ℕ). entry_number g n scale p q) same in
        let power = bytes_small count most in
        let below = entry_small g count scale p q in
        record { valid = (h.0.0, h.0.1, h.0.2, taken_small count signed w (entry_number g count scale p q) (omega (arith, power, below))); number = ap (taken count signed w) number })
    entry_loaded (EntryPart j size scale p q ∷ cs) [] e h = absurd h
    entry_loaded [] bs e h = tt
    entry_loaded (Byte x ∷ cs) bs e h = tt
    entry_loaded (Part j v ∷ cs) bs e h = tt
    entry_loaded (Quarter j p q ∷ cs) bs e h = tt
    entry_loaded (Blank ∷ cs) bs e h = tt

    value_loaded : (cs : List Cell) (bs : List ℕ) → length bs ≡ count → count ≡ 8 → AreBytes pl g cs bs → IsLoaded (whole_value cs) (taken count signed w (number_of bs))
    value_loaded (Part j v ∷ cs) (b ∷ bs) e eight h =
        if_loaded (are_parts 0 v (Part j v ∷ cs)) (Some v) (taken count signed w (number_of (b ∷ bs)))
        (λ t.
        let bytes = parts_bytes pl g 0 v (Part j v ∷ cs) (b ∷ bs) t h in
        let small = value_small pl g memory placed v h.0.0 in
        let whole : number_of (b ∷ bs) ≡ value_number pl g v = number_whole (value_number pl g v) 8 (b ∷ bs) bytes (e ∙ eight) small in
        record { valid = h.0.0; number = ap (taken count signed w) whole ∙ ap (λ (n : ℕ). taken n signed w (value_number pl g v)) eight ∙ taken_whole signed w (value_number pl g v) small })
    value_loaded (Part j v ∷ cs) [] e eight h = absurd h
    value_loaded [] bs e eight h = tt
    value_loaded (Byte x ∷ cs) bs e eight h = tt
    value_loaded (EntryPart j size scale p q ∷ cs) bs e eight h = tt
    value_loaded (Quarter j p q ∷ cs) bs e eight h = tt
    value_loaded (Blank ∷ cs) bs e eight h = tt

  -- the sign of the low half
  low_sign : (n : ℕ) → sign_extended 32 64 (n % 2 ^ 32) ≡ sign_extended 32 64 n
  low_sign n = ap (λ (x : ℕ). if is_negative 32 x then x + (2 ^ 64 - 2 ^ 32) else x) (mod-mod n (2 ^ 32))

  difference_loaded : (cs : List Cell) (bs : List ℕ) → length bs ≡ 4 → AreBytes pl g cs bs → IsLoaded (whole_difference cs) (taken 4 true X (number_of bs))
  difference_loaded (Quarter j p q ∷ cs) (b ∷ bs) e h =
      if_loaded (are_quarters 0 p q (Quarter j p q ∷ cs)) (Some (Diff p q)) (taken 4 true X (number_of (b ∷ bs)))
      (λ t.
      let d : ℕ = less (target_number pl g p) (target_number pl g q) in
      let bytes = quarters_bytes pl g 0 p q (Quarter j p q ∷ cs) (b ∷ bs) t h in
      let part : number_of (b ∷ bs) ≡ d / 1 % 256 ^ 4 = number_from d 0 (b ∷ bs) bytes ∙ ap (λ (n : ℕ). d / 1 % 256 ^ n) e in
      let low_half : number_of (b ∷ bs) ≡ d % 2 ^ 32 = omega (arith, part) in
      record { valid = (h.0.0, h.0.1); number = ap (sign_extended 32 64) low_half ∙ low_sign d ∙ h.0.2 })
  difference_loaded (Quarter j p q ∷ cs) [] e h = absurd h
  difference_loaded [] bs e h = tt
  difference_loaded (Byte x ∷ cs) bs e h = tt
  difference_loaded (Part j v ∷ cs) bs e h = tt
  difference_loaded (EntryPart j size scale p q ∷ cs) bs e h = tt
  difference_loaded (Blank ∷ cs) bs e h = tt

  quarters_loaded : (count : ℕ) (signed : Bool) (w : Width) (cs : List Cell) (bs : List ℕ) → length bs ≡ count → AreBytes pl g cs bs
      → IsLoaded (if takes_quarters count signed w then whole_difference cs else None) (taken count signed w (number_of bs))
  quarters_loaded count signed W cs bs e h = tt
  quarters_loaded count false X cs bs e h = if_loaded ((count == 4) && false) (whole_difference cs) (number_of bs) (λ t. absurd (let both = and_parts (count == 4) false t in false≢true both.1))
  quarters_loaded count true X cs bs e h =
      if_loaded ((count == 4) && true) (whole_difference cs) (taken count true X (number_of bs))
      (λ t.
      let four : count ≡ 4 = eqb-true count 4 (and_parts (count == 4) true t).0 in
      subst (λ (n : ℕ). IsLoaded (whole_difference cs) (taken n true X (number_of bs))) (sym four) (difference_loaded cs bs (e ∙ four) h))

  formed_loaded : (count : ℕ) (signed : Bool) (w : Width) (cs : List Cell) (bs : List ℕ) → count ≤ 8 → length bs ≡ count → AreBytes pl g cs bs
      → IsLoaded (formed_value g count signed w cs) (taken count signed w (number_of bs))
  formed_loaded count signed w cs bs most e h =
      let n : ℕ = taken count signed w (number_of bs) in
      either_loaded (option_map (λ k. Num (taken count signed w k)) (number_of_cells cs)) _ n (number_loaded count signed w most (number_of_cells cs) bs e (number_of_bytes pl g cs bs h))
      (either_loaded (whole_entry g count signed w cs) _ n (entry_loaded count signed w most cs bs e h)
      (either_loaded (if takes_quarters count signed w then whole_difference cs else None) _ n (quarters_loaded count signed w cs bs e h)
      (if_loaded (count == 8) (whole_value cs) n (λ t. value_loaded count signed w most cs bs e (eqb-true count 8 t) h))))

  given : (o : Option Value) (n : ℕ) → IsLoaded o n → Gives pl g false (or_stuck Mixed o) (answer n)
  given None n h = tt
  given (Some v) n h = plain pl g v n h

  blank_or : (b : Bool) (o : Option Value) (n : ℕ) → IsLoaded o n → Gives pl g false (if b then stuck causes.Undefined else or_stuck Mixed o) (answer n)
  blank_or true o n h = tt
  blank_or false o n h = given o n h

  pub cells_read : (count : ℕ) (signed : Bool) (w : Width) (cs : List Cell) (bs : List ℕ) → count ≤ 8 → length bs ≡ count → AreBytes pl g cs bs
      → Gives pl g false (read_cells g count signed w cs) (answer (taken count signed w (number_of bs)))
  cells_read count signed w cs bs most e h = blank_or (list_any is_blank cs) (formed_value g count signed w cs) (taken count signed w (number_of bs)) (formed_loaded count signed w cs bs most e h)

  -- ---- an address in an object

  pub object_span : (s : State) (m : Machine) (o : Object) (x n count : ℕ) → Related pl g s m → Means pl g (Addr o x) n → x + count ≤ object_size s o
      → (n ≡ object_address pl o + x) × (is_mapped m.memory (object_address pl o + x) count ≡ true) × AreBytes pl g (cells_at s o x count) (bytes_from m.memory (object_address pl o + x) count)
  object_span s m o x n count h v le =
      let room = (placed.inside o v.valid.0).high in
      let size = h.sizes o in
      let number = v.number in
      let read = span pl g m.memory (s.cells o) (object_address pl o) x count (h.cells o v.valid.0) le in
      (omega (arith, room, size, number, le), read.0, read.1)

  load_either : (b : Bool) (count : ℕ) (signed : Bool) (w : Width) (o : Object) (x n : ℕ) (s : State) (m : Machine) → count ≤ 8 → Related pl g s m → Means pl g (Addr o x) n → (b ≡ true → x + count ≤ object_size s o)
      → Gives pl g false (if b then read_cells g count signed w (cells_at s o x count) else stuck Outside) (loaded count signed w n m)
  load_either true count signed w o x n s m most h v inside =
      let read = object_span s m o x n count h v (inside refl) in
      rw (read.0, read.1) (cells_read count signed w (cells_at s o x count) (bytes_from m.memory (object_address pl o + x) count) most (length-map-range_with_len _ (object_address pl o + x) count) read.2)
  load_either false count signed w o x n s m most h v inside = tt

  pub loads_agree : (count : ℕ) (signed : Bool) (w : Width) (v : Value) (n : ℕ) (s : State) (m : Machine) → count ≤ 8 → Related pl g s m → Means pl g v n
      → Gives pl g false (load_outcome g count signed w v s) (loaded count signed w n m)
  loads_agree count signed w (Addr o x) n s m most h v = load_either (is_inside s o x count) count signed w o x n s m most h v (leb-true (x + count) (object_size s o))
  loads_agree count signed w (Num k) n s m most h v = tt
  loads_agree count signed w (At p) n s m most h v = tt
  loads_agree count signed w (PageOf t) n s m most h v = tt
  loads_agree count signed w (Diff p q) n s m most h v = tt
  loads_agree count signed w (Step p q k) n s m most h v = tt
