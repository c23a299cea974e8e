-- The words and the fillings of a block, where each expression may stand where it does.
use Rattle.std.proofs.Common.{◌≡◌, ℕ, zero, suc, ◌+◌, ◌-◌, ◌*◌, ◌/◌, ◌%◌, ◌≤◌, ◌<◌, ℤ, Bool, true, false, List, [], Option, Some, None, refl, sym, subst, arith}
use Rattle.std.specs.Prelude.{◌==◌, ◌&&◌, not, nat_lt, nat_le, filter, IfSome, IsSome, is_some, if◌then◌else◌}
use Rattle.std.specs.List.{AllByRecursion as Every}
use Rattle.std.specs.Option.{option_map, option_map_or, option_and_then}
use Rattle.std.proofs.lemmas.Bool.{and_parts, and_from, eqb-true, leb-true, le-leb, lt-ltb}
use Rattle.a64_inst.specs.Kinds.{operand_kind}
use Rattle.gt_model.specs.declared.exprs.Expr.{Expr}
use Rattle.gt_model.specs.declared.exprs.ExprValue.{ExprValue}
use Rattle.gt_model.specs.declared.exprs.ExprValue.TheVariants as values
use Rattle.gt_model.specs.declared.intervals.Block.{Block}
use Rattle.gt_model.specs.declared.intervals.Interval.{Interval}
use Rattle.gt_model.specs.declared.modules.Module.{Module}
use Rattle.sym_expr.specs.declared.aim.Aim.{Aim}
use Rattle.sym_expr.specs.declared.patches.PatchTable.{PatchTable}
use Rattle.sym_expr.specs.declared.program.Filling.{Filling}
use Rattle.sym_expr.specs.declared.program.Program.{Program}
use Rattle.sym_expr.specs.Expressions.{ExprFault, BadOperand, BadTarget, is_sum, fits_code, has_data_form, is_shared, fits_data, fits_block, home, is_operand, names_bad, word_or_none, expr_fault, symbol_aim, interval_faults, expr_faults}
use Rattle.sym_expr.specs.Modules.{is_code, size_of, end_of, covers, word_of, loaded_intervals}
use Rattle.sym_expr.specs.Program.{code_target, expr_at, own_word, own_words, filling, filling_at, data_block}
use Rattle.sym_expr.specs.Tables.{Tables, expr_size}
use Rattle.sym_expr.specs.Targets.{old_target}
use Rattle.sym_expr.specs.WellMade.{IsThere, IsWord, IsInside}
use Rattle.sym_expr.proofs.Forms.{IsFilled, filling_filled}
use Rattle.sym_expr.proofs.Lists.{every_weaker, every_filter, every_filter_map, none_of_flat, none_of_filter_map, found_one}
use Rattle.sym_expr.proofs.Orders.{covers_parts}
use Rattle.sym_expr.proofs.Tiles.{length-bytes_at}

-- ---- each expression may stand where it does

some-none : {X : Type 0} (x : X) → Some x ≡ None → ⊥
some-none x e = cc

no_operand_fault : (b : Bool) (o : Option ExprFault) → (if not b then Some BadOperand else o) ≡ None → b ≡ true
no_operand_fault true o e = refl
no_operand_fault false o e = absurd (some-none BadOperand e)

-- a fault with its offset
abbrev placed_fault : ℕ → Option ExprFault → Option (ℕ × ExprFault)
placed_fault at o = option_map (λ fault. (at, fault)) o

no_mapped : (at : ℕ) (o : Option ExprFault) → placed_fault at o ≡ None → o ≡ None
no_mapped at None e = refl
no_mapped at (Some fault) e = absurd (some-none (at, fault) e)

operand_stands : (aim : List ℕ → Aim) (size : ℕ → ℕ) (i : Interval) (e : Expr) → placed_fault e.at (expr_fault aim size i e) ≡ None → is_operand size i e ≡ true
operand_stands aim size i e h =
    no_operand_fault (is_operand size i e) (if names_bad aim (size e.at) (word_or_none i e) e.value then Some BadTarget else None) (no_mapped e.at (expr_fault aim size i e) h)

-- each expression of an interval may stand where it does
pub record IsStood (t : Tables) (i : Interval) : Type 0 where
  pub exprs : Every (λ e. is_operand (expr_size t i.uuid) i e ≡ true) i.exprs

interval_stood : (m : Module) (t : Tables) (i : Interval) → interval_faults m t i ≡ [] → IsStood t i
interval_stood m t i h = record {
  exprs = every_weaker (λ (e : Expr). placed_fault e.at (expr_fault (symbol_aim m) (expr_size t i.uuid) i e) ≡ None) (λ e. is_operand (expr_size t i.uuid) i e ≡ true)
      (operand_stands (symbol_aim m) (expr_size t i.uuid) i) i.exprs
      (none_of_filter_map (λ (e : Expr). placed_fault e.at (expr_fault (symbol_aim m) (expr_size t i.uuid) i e)) i.exprs h);
}

pub all_stood : (m : Module) (t : Tables) → expr_faults m t ≡ [] → Every (IsStood t) (loaded_intervals m)
all_stood m t h = every_weaker (λ i. interval_faults m t i ≡ []) (IsStood t) (interval_stood m t) (loaded_intervals m) (none_of_flat (interval_faults m t) (loaded_intervals m) h)

-- a block has its bytes for itself
pub record IsHome (i : Interval) (b : Block) : Type 0 where
  pub alone : (at : ℕ) → covers at b ≡ true → home i at ≡ Some b

fits_home : (size : ℕ → ℕ) (i : Interval) (b : Block) (e : Expr) → IsHome i b → is_operand size i e ≡ true → covers e.at b ≡ true → fits_block size i e b ≡ true
fits_home size i b e h k l = let P : Option Block → Type 0 = λ o. option_map_or (fits_block size i e) o false ≡ true in subst P (h.alone e.at l) k

fits_code_home : (size : ℕ → ℕ) (i : Interval) (b : Block) (e : Expr) → is_code b ≡ true → fits_block size i e b ≡ true → fits_code i e ≡ true
fits_code_home size i b e h k = let P : Bool → Type 0 = λ x. (if x then fits_code i e else fits_data size i b e) ≡ true in subst P h k

fits_data_home : (size : ℕ → ℕ) (i : Interval) (b : Block) (e : Expr) → is_code b ≡ false → fits_block size i e b ≡ true → fits_data size i b e ≡ true
fits_data_home size i b e h k = let P : Bool → Type 0 = λ x. (if x then fits_code i e else fits_data size i b e) ≡ true in subst P h k

-- ---- words

target_stands : (g : Program) (m : Module) (p : PatchTable) → ((id : List ℕ) (offset : ℤ) → IsThere g (old_target m p id offset)) → (word : ℕ) (v : ExprValue) → IsSome (operand_kind word) → IfSome (code_target m p v) (λ t. IsSome (operand_kind word) × IsThere g t)
target_stands g m p there word values.Nothing h = tt
target_stands g m p there word (values.AddrConst offset None) h = tt
target_stands g m p there word (values.AddrConst offset (Some id)) h = (h, there id offset)
target_stands g m p there word (values.AddrAddr scale offset first second) h = tt

expr_stands : (g : Program) (m : Module) (p : PatchTable) → ((id : List ℕ) (offset : ℤ) → IsThere g (old_target m p id offset)) → (i : Interval) (at : ℕ) (o : Option Expr) → ((e : Expr) → o ≡ Some e → IsSome (operand_kind (word_of i at)))
    → IfSome (option_and_then (λ (e : Expr). code_target m p e.value) o) (λ t. IsSome (operand_kind (word_of i at)) × IsThere g t)
expr_stands g m p there i at None h = tt
expr_stands g m p there i at (Some e) h = target_stands g m p there (word_of i at) e.value (h e refl)

has_operand : (i : Interval) (at : ℕ) (e : Expr) → fits_code i e ≡ true → at ≡ e.at → IsSome (operand_kind (word_of i at))
has_operand i at e h k =
    let both = and_parts (is_sum e.value) ((e.at % 4 == 0) && is_some (operand_kind (word_of i e.at))) h in
    let P : ℕ → Type 0 = λ n. IsSome (operand_kind (word_of i n)) in
    subst P (sym k) (and_parts (e.at % 4 == 0) (is_some (operand_kind (word_of i e.at))) both.1).1

covers_at : (at n : ℕ) (b : Block) → at ≡ n → covers at b ≡ true → covers n b ≡ true
covers_at at n b e h = let P : ℕ → Type 0 = λ x. covers x b ≡ true in subst P e h

word_stands : (g : Program) (m : Module) (t : Tables) (p : PatchTable) → ((id : List ℕ) (offset : ℤ) → IsThere g (old_target m p id offset)) → (i : Interval) (b : Block) → IsStood t i → IsHome i b → is_code b ≡ true → (at : ℕ) → covers at b ≡ true
    → IsWord g (own_word m p i at)
word_stands g m t p there i b stood alone code at h =
    expr_stands g m p there i at (expr_at at i) (λ e found.
    let one = found_one (λ (e : Expr). at == e.at) (λ e. is_operand (expr_size t i.uuid) i e ≡ true) i.exprs e stood.exprs found in
    let same = eqb-true at e.at one.0 in
    has_operand i at e (fits_code_home (expr_size t i.uuid) i b e code (fits_home (expr_size t i.uuid) i b e alone one.1 (covers_at at e.at b same h))) same)

words_each : (g : Program) (m : Module) (p : PatchTable) (i : Interval) (n at most : ℕ) → at + 4 * n ≤ most → ((k : ℕ) → at ≤ k → k < most → IsWord g (own_word m p i k)) → Every (IsWord g) (own_words m p i at n)
words_each g m p i zero at most h k = tt
words_each g m p i (suc n) at most h k = (k at (omega arith) (omega (arith, h)), words_each g m p i n (at + 4) most (omega (arith, h)) (λ j l. k j (omega (arith, l))))

pub own_words_stand : (g : Program) (m : Module) (t : Tables) (p : PatchTable) → ((id : List ℕ) (offset : ℤ) → IsThere g (old_target m p id offset)) → (i : Interval) (b : Block) → IsStood t i → IsHome i b → is_code b ≡ true
    → Every (IsWord g) (own_words m p i b.offset (size_of b / 4))
own_words_stand g m t p there i b stood alone code =
    words_each g m p i (size_of b / 4) b.offset (end_of b) (omega arith)
    (λ k low high. word_stands g m t p there i b stood alone code k (and_from (nat_le b.offset k) (nat_lt k (end_of b)) (le-leb b.offset k low) (lt-ltb k (end_of b) high)))

-- ---- fillings

filled_inside : (g : Program) (m : Module) (t : Tables) (p : PatchTable) (i : Interval) (b : Block) (at size : ℕ) (o : Option Filling) → b.offset ≤ at → at + size ≤ end_of b → IfSome o (IsFilled g size)
    → IfSome (option_map (λ f. (at - b.offset, f)) o) (IsInside g (data_block m t p i b))
filled_inside g m t p i b at size None low high h = tt
filled_inside g m t p i b at size (Some f) low high h =
    let count = length-bytes_at i b.offset (size_of b) in
    let n = h.its_size in
    (omega (arith, count, n, low, high), h.good)

filling_stands : (g : Program) (m : Module) (t : Tables) (p : PatchTable) → ((id : List ℕ) (offset : ℤ) → IsThere g (old_target m p id offset)) → (i : Interval) (b : Block) (e : Expr) → fits_data (expr_size t i.uuid) i b e ≡ true → covers e.at b ≡ true
    → IfSome (filling_at m t p i b e) (IsInside g (data_block m t p i b))
filling_stands g m t p there i b e h k =
    let size : ℕ → ℕ = expr_size t i.uuid in
    let both = and_parts (has_data_form (size e.at) e.value) (nat_le (e.at + size e.at) (end_of b) && not (is_shared size i b e)) h in
    let inside = and_parts (nat_le (e.at + size e.at) (end_of b)) (not (is_shared size i b e)) both.1 in
    filled_inside g m t p i b e.at (size e.at) (filling m p (size e.at) e.value) (covers_parts e.at b k).0 (leb-true (e.at + size e.at) (end_of b) inside.0)
    (filling_filled g m p there (size e.at) e.value both.0)

pub fillings_stand : (g : Program) (m : Module) (t : Tables) (p : PatchTable) → ((id : List ℕ) (offset : ℤ) → IsThere g (old_target m p id offset)) → (i : Interval) (b : Block) → IsStood t i → IsHome i b → is_code b ≡ false
    → Every (IsInside g (data_block m t p i b)) (data_block m t p i b).fillings
fillings_stand g m t p there i b stood alone code =
    every_filter_map (filling_at m t p i b) (IsInside g (data_block m t p i b)) (filter (λ (e : Expr). covers e.at b) i.exprs)
    (every_filter (λ (e : Expr). covers e.at b) (λ e. IfSome (filling_at m t p i b e) (IsInside g (data_block m t p i b))) i.exprs
    (every_weaker (λ e. is_operand (expr_size t i.uuid) i e ≡ true) (λ (e : Expr). covers e.at b ≡ true → IfSome (filling_at m t p i b e) (IsInside g (data_block m t p i b)))
    (λ e stands here. filling_stands g m t p there i b e (fits_data_home (expr_size t i.uuid) i b e code (fits_home (expr_size t i.uuid) i b e alone stands here)) here) i.exprs stood.exprs))
