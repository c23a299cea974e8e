-- Accesses to known bytes of an object go on.
use Rattle.std.proofs.Common.{◌≡◌, ◌⊎◌, ℕ, zero, suc, ◌+◌, ◌*◌, ◌≤◌, Bool, true, false, cond, leb, List, [], ◌∷◌, ◌++◌, length, take, drop, Option, Some, None, refl, sym, ap, ◌∙◌, subst, inl, inr, arith}
use Rattle.std.specs.Prelude.{◌==◌, IsSome, slice_index_or}
use Rattle.std.specs.List.{list_any}
use Rattle.std.specs.Option.{option_map}
use Rattle.std.specs.Str.{bytes_eq}
use Rattle.std.proofs.lemmas.Bool.{cases_Bool, cond-true, eqb-true, le-leb, leb-true}
use Rattle.std.proofs.lemmas.List.{length-append, length-take, length-drop}
use Rattle.std.proofs.lemmas.Slice.Eq.{bytes_eq-Decides}
use Rattle.a64_inst.specs.declared.operations.Width.{Width}
use Rattle.a64_inst.specs.Domain.{next, ended, stuck, then_do}
use Rattle.sym_expr.specs.declared.cause.Cause.TheVariants.{Mixed, Outside}
use Rattle.sym_expr.specs.declared.cause.Cause.TheVariants as causes
use Rattle.sym_expr.specs.declared.program.Program.{Program}
use Rattle.sym_expr.specs.declared.value.Object.{Object}
use Rattle.sym_expr.specs.declared.value.Object.TheVariants.{Block, Stack}
use Rattle.sym_expr.specs.declared.value.Value.{Value}
use Rattle.sym_expr.specs.declared.value.Value.TheVariants.{Num, Addr, At, PageOf, Diff, Step}
use Rattle.sym_expr.specs.States.{State, cells_at, number_cells, object_size, placed_cells, value_cells, with_cells}
use Rattle.sym_expr.specs.Symbolic.{Outcome, bytes_in, formed_value, is_blank, is_inside, load_outcome, number_of_cells, or_else, or_stuck, put_cells, read_cells, store_outcome, stored_cells, taken, takes_quarters, whole_difference, whole_entry, whole_value}
use Rattle.sym_expr.specs.Values.{Cell, Byte, Part, Quarter, EntryPart, Blank, same_object}
use Rattle.plain_steps.specs.Plain.{Gives, Reaches}

-- ---- known bytes

known_behind : (b : ℕ) (cells : List Cell) (bytes : List ℕ) (m : Option (List ℕ)) → bytes_in cells ≡ m → bytes_in (Byte b ∷ cells) ≡ Some bytes
    → ((k : List ℕ) → bytes_in cells ≡ Some k → list_any is_blank cells ≡ false) → list_any is_blank cells ≡ false
known_behind b cells bytes (Some k) is e rest = rest k is
known_behind b cells bytes None is e rest = let none = rw is at e in absurd (cc)

pub no_blank : (cells : List Cell) (bytes : List ℕ) → bytes_in cells ≡ Some bytes → list_any is_blank cells ≡ false
no_blank [] bytes e = refl
no_blank (Byte b ∷ cells) bytes e = known_behind b cells bytes (bytes_in cells) refl e (λ k is. no_blank cells k is)
no_blank (Part k v ∷ cells) bytes e = absurd (cc)
no_blank (Quarter k p q ∷ cells) bytes e = absurd (cc)
no_blank (EntryPart k size scale p q ∷ cells) bytes e = absurd (cc)
no_blank (Blank ∷ cells) bytes e = absurd (cc)

number_behind : (b : ℕ) (cells : List Cell) (bytes : List ℕ) (m : Option (List ℕ)) → bytes_in cells ≡ m → bytes_in (Byte b ∷ cells) ≡ Some bytes
    → ((k : List ℕ) → bytes_in cells ≡ Some k → (n : ℕ) × (number_of_cells cells ≡ Some n)) → (n : ℕ) × (number_of_cells (Byte b ∷ cells) ≡ Some n)
number_behind b cells bytes (Some k) is e rest =
    let n = rest k is in
    (b + 256 * n.0, ap (λ (o : Option ℕ). option_map (λ n. b + 256 * n) o) n.1)
number_behind b cells bytes None is e rest = let none = rw is at e in absurd (cc)

number_of : (cells : List Cell) (bytes : List ℕ) → bytes_in cells ≡ Some bytes → (n : ℕ) × (number_of_cells cells ≡ Some n)
number_of [] bytes e = (0, refl)
number_of (Byte b ∷ cells) bytes e = number_behind b cells bytes (bytes_in cells) refl e (λ k is. number_of cells k is)
number_of (Part k v ∷ cells) bytes e = absurd (cc)
number_of (Quarter k p q ∷ cells) bytes e = absurd (cc)
number_of (EntryPart k size scale p q ∷ cells) bytes e = absurd (cc)
number_of (Blank ∷ cells) bytes e = absurd (cc)

pub some_of : {A : Type 0} (o : Option A) → IsSome o → (a : A) × (o ≡ Some a)
some_of None e = absurd (cc)
some_of (Some a) e = (a, refl)

-- ---- loads

read_number : (g : Program) (count : ℕ) (signed : Bool) (w : Width) (cells : List Cell) → IsSome (bytes_in cells) → (k : ℕ) × (read_cells g count signed w cells ≡ next (Num k))
read_number g count signed w cells known =
    let bytes = some_of (bytes_in cells) known in
    let n = number_of cells bytes.0 bytes.1 in
    let rest = or_else (whole_entry g count signed w cells)
    (or_else (cond (takes_quarters count signed w) (whole_difference cells) None) (cond (count == 8) (whole_value cells) None)) in (
      taken count signed w n.0,
      ap (λ (b : Bool). cond b (stuck causes.Undefined) (or_stuck Mixed (formed_value g count signed w cells))) (no_blank cells bytes.0 bytes.1)
          ∙ ap (λ (o : Option ℕ). or_stuck Mixed (or_else (option_map (λ n. Num (taken count signed w n)) o) rest)) n.1,
    )

-- a load of what is reached gives a number
pub load_number : (g : Program) (count : ℕ) (signed : Bool) (w : Width) (v : Value) (s : State) → Reaches s count v → (k : ℕ) × (load_outcome g count signed w v s ≡ next (Num k))
load_number g count signed w (Addr o x) s reached =
    let read = read_number g count signed w (cells_at s o x count) reached.1 in
    (read.0, cond-true (is_inside s o x count) (read_cells g count signed w (cells_at s o x count)) (stuck Outside) reached.0 ∙ read.1)
load_number g count signed w (Num n) s reached = absurd reached
load_number g count signed w (At p) s reached = absurd reached
load_number g count signed w (PageOf t) s reached = absurd reached
load_number g count signed w (Diff p q) s reached = absurd reached
load_number g count signed w (Step p q n) s reached = absurd reached

-- ---- stores

-- so many bytes from an address on lie in its object
abbrev pub Inside : State → ℕ → Value → Type 0
Inside s count (Addr o x) = is_inside s o x count ≡ true
Inside s count v = ⊥

pub reaches_inside : (s : State) (count : ℕ) (v : Value) → Reaches s count v → Inside s count v
reaches_inside s count (Addr o x) reached = reached.0
reaches_inside s count (Num n) reached = absurd reached
reaches_inside s count (At p) reached = absurd reached
reaches_inside s count (PageOf t) reached = absurd reached
reaches_inside s count (Diff p q) reached = absurd reached
reaches_inside s count (Step p q n) reached = absurd reached

number_has_length : (count n : ℕ) → length (number_cells count n) ≡ count
number_has_length zero n = refl
number_has_length (suc count) n = ap suc (number_has_length count _)

stored_of : (b : Bool) (count n : ℕ) → (count == 8) ≡ b → (cells : List Cell) × (stored_cells count (Num n) ≡ Some cells) × (length cells ≡ count)
stored_of true count n is = (number_cells 8 n, ap (λ (b : Bool). cond b (Some (value_cells (Num n))) (Some (number_cells count n))) is, number_has_length 8 n ∙ sym (eqb-true count 8 is))
stored_of false count n is = (number_cells count n, ap (λ (b : Bool). cond b (Some (value_cells (Num n))) (Some (number_cells count n))) is, number_has_length count n)

same_length : (x : ℕ) (new old : List Cell) → x + length new ≤ length old → length (placed_cells x new old) ≡ length old
same_length x new old inside =
    let first : length (take x old) ≡ x = omega (arith, length-take x old) in
    let last : length (drop (x + length new) old) + (x + length new) ≡ length old = omega (arith, length-drop (x + length new) old) in
    let all : length (placed_cells x new old) ≡ length (take x old) + length new + length (drop (x + length new) old) =
    length-append (take x old ++ new) (drop (x + length new) old) ∙ ap (λ (n : ℕ). n + length (drop (x + length new) old)) (length-append (take x old) new) in
    omega (arith, first, last, all)

same_is : (o p : Object) → same_object o p ≡ true → o ≡ p
same_is (Block a) (Block b) e = ap Block ((bytes_eq-Decides a b).0 e)
same_is (Block a) Stack e = absurd (cc)
same_is Stack (Block b) e = absurd (cc)
same_is Stack Stack e = refl

size_of : (b : Bool) (o other : Object) (x : ℕ) (new : List Cell) (s : State) → same_object o other ≡ b → x + length new ≤ length (s.cells o)
    → length (cond b (placed_cells x new (s.cells other)) (s.cells other)) ≡ length (s.cells other)
size_of true o other x new s is inside = same_length x new (s.cells other) (subst (λ (p : Object). x + length new ≤ length (s.cells p)) (same_is o other is) inside)
size_of false o other x new s is inside = refl

-- a store inside an object goes on, and all objects keep their sizes
pub store_done : (count n : ℕ) (v : Value) (s : State) → Inside s count v → (t : State) × (store_outcome count (Num n) v s ≡ next t) × ((o : Object) → object_size t o ≡ object_size s o)
store_done count n (Addr o x) s inside =
    let made = stored_of (count == 8) count n refl in
    let cells = made.0 in
    let is : is_inside s o x (length cells) ≡ true = ap (λ (k : ℕ). is_inside s o x k) made.2 ∙ inside in (
      with_cells o x cells s,
      ap (λ (c : Option (List Cell)). then_do (or_stuck causes.Value c) (λ cells. put_cells (Addr o x) cells s)) made.1 ∙ cond-true (is_inside s o x (length cells)) (next (with_cells o x cells s)) (stuck Outside) is,
      λ other. size_of (same_object o other) o other x cells s refl (leb-true (x + length cells) (length (s.cells o)) is),
    )
store_done count n (Num m) s inside = absurd inside
store_done count n (At p) s inside = absurd inside
store_done count n (PageOf t) s inside = absurd inside
store_done count n (Diff p q) s inside = absurd inside
store_done count n (Step p q m) s inside = absurd inside

-- what was inside is so in a machine with the same sizes
pub stays_inside : (s t : State) (count : ℕ) (v : Value) → ((o : Object) → object_size t o ≡ object_size s o) → Inside s count v → Inside t count v
stays_inside s t count (Addr o x) same inside = ap (λ (k : ℕ). leb (x + count) k) (same o) ∙ inside
stays_inside s t count (Num m) same inside = absurd inside
stays_inside s t count (At p) same inside = absurd inside
stays_inside s t count (PageOf u) same inside = absurd inside
stays_inside s t count (Diff p q) same inside = absurd inside
stays_inside s t count (Step p q m) same inside = absurd inside

-- what gives a value of which something holds
pub given_of : (o : Outcome Value) (P : Value → Type 0) → Gives o P → (v : Value) × (o ≡ next v) × P v
given_of (next v) P h = (v, refl, h)
given_of (ended event s) P h = absurd h
given_of (stuck cause) P h = absurd h
