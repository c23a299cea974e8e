-- Stores: the cells that are put in an object, and the bytes at its address.
use Rattle.std.proofs.Common.{◌≡◌, ℕ, zero, suc, ◌+◌, ◌-◌, ◌/◌, ◌<◌, ◌≤◌, ◌⊎◌, inl, inr, Bool, true, false, List, ◌++◌, length, take, drop, Option, Some, None, refl, ap, ◌∙◌, subst, arith}
use Rattle.std.specs.Prelude.{◌==◌, ◌&&◌, nat_le, nat_lt, if◌then◌else◌, slice_index, slice_index_or}
use Rattle.std.specs.Option.{option_map}
use Rattle.std.proofs.lemmas.Bool.{le-leb, lt-leb, lt-ltb, le-ltb, leb-true, eqb-true, cases_lt}
use Rattle.std.proofs.lemmas.List.{length-append, length-drop, length-take-le, get_or_append_left, get_or-append_right, get_or-take, get_or-drop}
use Rattle.a64_inst.specs.Domain.{next, stuck, then_do}
use Rattle.num_run.specs.Machine.{Machine}
use Rattle.num_run.specs.Numeric.{stored}
use Rattle.paged_memory.specs.Mapping.{Mapping, with_bytes, bytes_of, word_at as number_of_word}
use Rattle.sym_expr.specs.declared.cause.Cause.TheVariants.{Outside}
use Rattle.sym_expr.specs.declared.cause.Cause.TheVariants as causes
use Rattle.sym_expr.specs.declared.point.Point.{Point}
use Rattle.sym_expr.specs.declared.program.Program.{Program}
use Rattle.sym_expr.specs.declared.target.Target.{Target}
use Rattle.sym_expr.specs.declared.value.Object.{Object}
use Rattle.sym_expr.specs.declared.value.Value.{Value}
use Rattle.sym_expr.specs.declared.value.Value.TheVariants.{Num, Addr, At, PageOf, Diff, Step}
use Rattle.sym_expr.specs.States.{State, placed_cells, with_cells, number_cells, value_cells, object_size}
use Rattle.sym_expr.specs.Symbolic.{or_stuck, is_inside, stored_cells, put_cells, store_outcome}
use Rattle.sym_expr.specs.Values.{Cell, Blank, same_object, number_in}
use Rattle.simulation.specs.Placement.{Placement, object_address, point_address}
use Rattle.simulation.specs.Meant.{IsObject, Means}
use Rattle.simulation.specs.Held.{HasCell, HasCells, HasOperand, HasCode, Related, size_of}
use Rattle.simulation.specs.Placed.{IsPlaced, AreApart}
use Rattle.simulation.proofs.Context.{During, Leaves, IsNumber, number_is}
use Rattle.simulation.proofs.Values.{object_is}
use Rattle.simulation.proofs.Bytes.{AreBytes, same_count, byte_at, number_stored, value_stored}
use Rattle.simulation.proofs.Loads.{object_span}

-- ---- cells with others in their place

module _ (x : ℕ) (new old : List Cell) (within : x + length new ≤ length old) where
  front_count : length (take x old) ≡ x
  front_count = length-take-le x old (omega (arith, within))

  both_count : length (take x old ++ new) ≡ x + length new
  both_count = omega (arith, length-append (take x old) new, front_count)

  pub placed_count : length (placed_cells x new old) ≡ length old
  placed_count = length-append (take x old ++ new) (drop (x + length new) old) ∙ omega (arith, both_count, length-drop (x + length new) old, within)

  pub placed_inside : (k : ℕ) → x ≤ k → k < x + length new → slice_index_or (placed_cells x new old) k Blank ≡ slice_index_or new (k - x) Blank
  placed_inside k low high =
      get_or_append_left (take x old ++ new) (drop (x + length new) old) Blank k (omega (arith, both_count, high)) ∙ get_or-append_right (take x old) new x k Blank front_count low

  pub placed_outside : (k : ℕ) → (k < x) ⊎ (x + length new ≤ k) → slice_index_or (placed_cells x new old) k Blank ≡ slice_index_or old k Blank
  placed_outside k side =
      elim side [
        | inl before ↦
            get_or_append_left (take x old ++ new) (drop (x + length new) old) Blank k (omega (arith, both_count, before)) ∙ get_or_append_left (take x old) new Blank k (omega (arith, front_count, before)) ∙ get_or-take x old k Blank before
        | inr behind ↦
            get_or-append_right (take x old ++ new) (drop (x + length new) old) (x + length new) k Blank both_count behind ∙ get_or-drop (x + length new) old (k - (x + length new)) Blank
            ∙ ap (λ (n : ℕ). slice_index_or old n Blank) (let e : x + length new + (k - (x + length new)) ≡ k = omega (arith, behind) in e)
      ]

-- ---- bytes with others in their place

pub byte_inside : (memory : Mapping) (at : ℕ) (bytes : List ℕ) (a : ℕ) → at ≤ a → a < at + length bytes → with_bytes memory at bytes a ≡ Some (slice_index bytes (a - at))
byte_inside memory at bytes a low high = rw (le-leb at a low, lt-ltb a (at + length bytes) high) refl

pub byte_outside : (memory : Mapping) (at : ℕ) (bytes : List ℕ) (a : ℕ) → (a < at) ⊎ (at + length bytes ≤ a) → with_bytes memory at bytes a ≡ memory a
byte_outside memory at bytes a (inl before) = rw (lt-leb at a before) refl
byte_outside memory at bytes a (inr behind) = either_alike (nat_le at a) (le-ltb a (at + length bytes) behind)
  where
    either_alike : (b : Bool) → nat_lt a (at + length bytes) ≡ false → (if b && nat_lt a (at + length bytes) then Some (slice_index bytes (a - at)) else memory a) ≡ memory a
    either_alike true e = rw e refl
    either_alike false e = refl

-- a word none of whose bytes has changed
pub word_alike : (memory other : Mapping) (at : ℕ) → other at ≡ memory at → other (at + 1) ≡ memory (at + 1) → other (at + 1 + 1) ≡ memory (at + 1 + 1) → other (at + 1 + 1 + 1) ≡ memory (at + 1 + 1 + 1)
    → number_of_word other at ≡ number_of_word memory at
word_alike memory other at e f h k = rw (e, f, h, k) refl

module _ (pl : Placement) (g : Program) (memory0 : Mapping) (placed : IsPlaced pl g memory0) where
  has_as : (memory other : Mapping) (at : ℕ) (c : Cell) → other at ≡ memory at → HasCell pl g memory at c → HasCell pl g other at c
  has_as memory other at c e h = record { byte = h.byte; mapped = e ∙ h.mapped; means = h.means }

  operand_as : (memory other : Mapping) (at word : ℕ) (t : Option Target) → number_of_word other at ≡ number_of_word memory at → HasOperand pl g memory at word t → HasOperand pl g other at word t
  operand_as memory other at word None e h = e ∙ h
  operand_as memory other at word (Some t) e h =
      record { target = h.target; kind = h.kind; has_kind = h.has_kind; filled = h.filled; fits = h.fits; stands = e ∙ h.stands }

  module _ (memory : Mapping) (cells : Object → List Cell) (sizes : (o : Object) → length (cells o) ≡ size_of pl g o) (held : HasCells pl g memory cells) (code : HasCode pl g memory)
      (o : Object) (x : ℕ) (new : List Cell) (bytes : List ℕ) (is : IsObject g o) (stand : AreBytes pl g new bytes) (within : x + length new ≤ length (cells o)) where
    changed : Object → List Cell
    changed other = if same_object o other then placed_cells x new (cells other) else cells other

    count_either : (b : Bool) (other : Object) → same_object o other ≡ b → length (if b then placed_cells x new (cells other) else cells other) ≡ length (cells other)
    count_either true other e = placed_count x new (cells other) (subst (λ (p : Object). x + length new ≤ length (cells p)) (object_is o other e) within)
    count_either false other e = refl

    pub sizes_stay : (other : Object) → length (if same_object o other then placed_cells x new (cells other) else cells other) ≡ size_of pl g other
    sizes_stay other = count_either (same_object o other) other refl ∙ sizes other

    -- in the object itself
    cell_here : (k : ℕ) → k < length (cells o) → HasCell pl g (with_bytes memory (object_address pl o + x) bytes) (object_address pl o + k) (slice_index_or (placed_cells x new (cells o)) k Blank)
    cell_here k lt =
        let a : ℕ = object_address pl o in
        let count = same_count pl g new bytes stand in
        elim (cases_lt k x) [
          | inl before ↦
              rw (placed_outside x new (cells o) within k (inl before))
              (has_as memory _ (a + k) (slice_index_or (cells o) k Blank) (byte_outside memory (a + x) bytes (a + k) (inl (omega (arith, before)))) (held o is k lt))
          | inr low ↦
              elim (cases_lt k (x + length new)) [
                | inl high ↦
                    let inside = byte_inside memory (a + x) bytes (a + k) (omega (arith, low)) (omega (arith, high, count)) in
                    let place : a + k - (a + x) ≡ k - x = omega (arith, low) in
                    rw (placed_inside x new (cells o) within k low high)
                    (record { byte = slice_index bytes (k - x); mapped = inside ∙ ap (λ (n : ℕ). Some (slice_index bytes n)) place; means = byte_at pl g new bytes (k - x) stand (omega (arith, low, high)) })
                | inr behind ↦
                    rw (placed_outside x new (cells o) within k (inr behind))
                    (has_as memory _ (a + k) (slice_index_or (cells o) k Blank) (byte_outside memory (a + x) bytes (a + k) (inr (omega (arith, behind, count)))) (held o is k lt))
              ]
        ]

    -- a byte that is apart from the object is not stored to
    untouched : (a count : ℕ) → (0 < size_of pl g o → AreApart (object_address pl o) (size_of pl g o) a count) → (b : ℕ) → a ≤ b → b < a + count
        → with_bytes memory (object_address pl o + x) bytes b ≡ memory b
    untouched a count apart b low high =
        let all = same_count pl g new bytes stand in
        let size = sizes o in
        elim (cases_lt 0 (size_of pl g o)) [
          | inl some ↦
              byte_outside memory (object_address pl o + x) bytes b (elim (apart some) [
                | inl before ↦ inr (omega (arith, before, all, size, within, low))
                | inr behind ↦ inl (omega (arith, behind, low, high))
              ])
          | inr none ↦
              byte_outside memory (object_address pl o + x) bytes b (elim (cases_lt b (object_address pl o + x)) [
                | inl before ↦ inl before
                | inr behind ↦ inr (omega (arith, behind, none, all, size, within))
              ])
        ]

    -- in another object
    cell_there : (other : Object) → IsObject g other → same_object o other ≡ false → (k : ℕ) → k < length (cells other)
        → HasCell pl g (with_bytes memory (object_address pl o + x) bytes) (object_address pl other + k) (slice_index_or (cells other) k Blank)
    cell_there other there e k lt =
        let size = sizes other in
        has_as memory _ (object_address pl other + k) (slice_index_or (cells other) k Blank)
        (untouched (object_address pl other) (size_of pl g other) (λ some. placed.apart o other is there e some (omega (arith, size, lt))) (object_address pl other + k) (omega arith) (omega (arith, size, lt)))
        (held other there k lt)

    here_all : (k : ℕ) → k < length (placed_cells x new (cells o)) → HasCell pl g (with_bytes memory (object_address pl o + x) bytes) (object_address pl o + k) (slice_index_or (placed_cells x new (cells o)) k Blank)
    here_all k lt = cell_here k (omega (arith, lt, placed_count x new (cells o) within))

    cell_either : (b : Bool) (other : Object) → same_object o other ≡ b → IsObject g other → (k : ℕ) → k < length (if b then placed_cells x new (cells other) else cells other)
        → HasCell pl g (with_bytes memory (object_address pl o + x) bytes) (object_address pl other + k) (slice_index_or (if b then placed_cells x new (cells other) else cells other) k Blank)
    cell_either true other e there k lt =
        subst (λ (p : Object). (j : ℕ) → j < length (placed_cells x new (cells p)) → HasCell pl g (with_bytes memory (object_address pl o + x) bytes) (object_address pl p + j) (slice_index_or (placed_cells x new (cells p)) j Blank))
        (object_is o other e) here_all k lt
    cell_either false other e there k lt = cell_there other there e k lt

    pub cells_stored : HasCells pl g (with_bytes memory (object_address pl o + x) bytes) (λ other. if same_object o other then placed_cells x new (cells other) else cells other)
    cells_stored other there k lt = cell_either (same_object o other) other refl there k lt

    pub code_stays : HasCode pl g (with_bytes memory (object_address pl o + x) bytes)
    code_stays p w point there =
        let a : ℕ = point_address pl g p in
        let has = code p w point there in
        let apart : 0 < size_of pl g o → AreApart (object_address pl o) (size_of pl g o) a 4 = λ some. placed.beside_code o p w is some point there in
        let same : number_of_word (with_bytes memory (object_address pl o + x) bytes) a ≡ number_of_word memory a = word_alike memory (with_bytes memory (object_address pl o + x) bytes) a
        (untouched a 4 apart a (omega arith) (omega arith)) (untouched a 4 apart (a + 1) (omega arith) (omega arith))
        (untouched a 4 apart (a + 1 + 1) (omega arith) (omega arith)) (untouched a 4 apart (a + 1 + 1 + 1) (omega arith) (omega arith)) in
        record { small = has.small; stands = operand_as memory (with_bytes memory (object_address pl o + x) bytes) a w.word w.target same has.stands }

  pub related_stored : (o : Object) (x : ℕ) (new : List Cell) (bytes : List ℕ) (s : State) (m : Machine) → Related pl g s m → IsObject g o → AreBytes pl g new bytes → x + length new ≤ length (s.cells o)
      → Related pl g (with_cells o x new s) (record m { memory = with_bytes m.memory (object_address pl o + x) bytes })
  related_stored o x new bytes s m h is stand within = record {
    count = h.count;
    registers = h.registers;
    stack_pointer = h.stack_pointer;
    flags = h.flags;
    sizes = sizes_stay m.memory s.cells h.sizes h.cells h.code o x new bytes is stand within;
    cells = cells_stored m.memory s.cells h.sizes h.cells h.code o x new bytes is stand within;
    code = code_stays m.memory s.cells h.sizes h.cells h.code o x new bytes is stand within;
    is_point = h.is_point;
    place = h.place;
    bytes = h.bytes;
    input = h.input;
    output = h.output;
  }

  -- ---- a store

  stored_count : (count n : ℕ) → length (bytes_of count n) ≡ count
  stored_count zero n = refl
  stored_count (suc count) n = ap suc (stored_count count (n / 256))

  -- cells that stand for the bytes of a number, if they do
  abbrev pub IsStored : Option (List Cell) → ℕ → ℕ → Type 0
  IsStored None count n = Unit {0}
  IsStored (Some cells) count n = AreBytes pl g cells (bytes_of count n)

  number_put : (o : Option ℕ) (count n : ℕ) → IsNumber o n → IsStored (option_map (number_cells count) o) count n
  number_put None count n h = tt
  number_put (Some k) count n h = subst (λ (x : ℕ). AreBytes pl g (number_cells count k) (bytes_of count x)) h.0 (number_stored pl g count k)

  put_either : (b : Bool) (count : ℕ) (v : Value) (n : ℕ) → (b ≡ true → count ≡ 8) → Means pl g v n → IsStored (if b then Some (value_cells v) else option_map (number_cells count) (number_in v)) count n
  put_either true count v n e h = rw (e refl, h.number) (value_stored pl g v h.valid)
  put_either false count v n e h = number_put (number_in v) count n (number_is pl g v n h)

  cells_put : (count : ℕ) (v : Value) (n : ℕ) → Means pl g v n → IsStored (stored_cells count v) count n
  cells_put count v n h = put_either (count == 8) count v n (eqb-true count 8) h

  module _ (at : Point) (t : Option Target) (s : State) (m : Machine) (h : During pl g at t s m) where
    inside_either : (b : Bool) (count n : ℕ) (o : Object) (x a : ℕ) (cells : List Cell) → Means pl g (Addr o x) a → AreBytes pl g cells (bytes_of count n) → (b ≡ true → x + length cells ≤ object_size s o)
        → Leaves pl g at t (if b then next (with_cells o x cells s) else stuck Outside) (stored count n a m)
    inside_either false count n o x a cells v stand inside = tt
    inside_either true count n o x a cells v stand inside =
        let all = same_count pl g cells (bytes_of count n) stand in
        let count_is = stored_count count n in
        let within = inside refl in
        let read = object_span pl g memory0 placed s m o x a count h.related v (omega (arith, all, count_is, within)) in
        rw (read.0, read.1) (record { related = related_stored o x cells (bytes_of count n) s m h.related v.valid.0 stand within; place = h.place; named = h.named })

    put_in : (address : Value) (count n a : ℕ) (cells : List Cell) → Means pl g address a → AreBytes pl g cells (bytes_of count n) → Leaves pl g at t (put_cells address cells s) (stored count n a m)
    put_in (Addr o x) count n a cells v stand = inside_either (is_inside s o x (length cells)) count n o x a cells v stand (leb-true (x + length cells) (object_size s o))
    put_in (Num k) count n a cells v stand = tt
    put_in (At p) count n a cells v stand = tt
    put_in (PageOf u) count n a cells v stand = tt
    put_in (Diff p q) count n a cells v stand = tt
    put_in (Step p q k) count n a cells v stand = tt

    put_if : (o : Option (List Cell)) (address : Value) (count n a : ℕ) → Means pl g address a → IsStored o count n
        → Leaves pl g at t (then_do (or_stuck causes.Value o) (λ cells. put_cells address cells s)) (stored count n a m)
    put_if None address count n a v stand = tt
    put_if (Some cells) address count n a v stand = put_in address count n a cells v stand

    pub stores_agree : (count : ℕ) (v address : Value) (n a : ℕ) → Means pl g v n → Means pl g address a → Leaves pl g at t (store_outcome count v address s) (stored count n a m)
    stores_agree count v address n a h k = put_if (stored_cells count v) address count n a k (cells_put count v n h)
