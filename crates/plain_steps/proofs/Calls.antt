-- Calls of the system that go on.
use Rattle.std.proofs.Common.{◌≡◌, ℕ, ◌+◌, ◌^◌, Bool, true, false, cond, ◌&&◌, List, ◌++◌, length, min, take, drop, map, Option, Some, None, refl, sym, ap, ◌∙◌, subst}
use Rattle.std.specs.Prelude.{◌≢◌, ◌==◌, nat_lt, not, unwrap_or}
use Rattle.std.specs.List.{list_any}
use Rattle.std.proofs.lemmas.Bool.{cond-true, cond-false, eqb-false}
use Rattle.a64_inst.specs.Domain.{ended, next, stuck, then_do, trapped}
use Rattle.a64_inst.specs.declared.trap.Trap.TheVariants as traps
use Rattle.sym_expr.specs.declared.cause.Cause.TheVariants.{Mixed, Outside}
use Rattle.sym_expr.specs.declared.cause.Cause.TheVariants as causes
use Rattle.sym_expr.specs.declared.value.Object.{Object}
use Rattle.sym_expr.specs.declared.value.Value.{Value}
use Rattle.sym_expr.specs.declared.value.Value.TheVariants.{Num, Addr, At, PageOf, Diff, Step}
use Rattle.sym_expr.specs.States.{State, cells_at, register, with_cells}
use Rattle.sym_expr.specs.Symbolic.{Outcome, addressed, bad_call, bytes_in, call_done, call_of, called, counted, is_blank, is_inside, known_bytes, or_stuck, received, written}
use Rattle.sym_expr.specs.Values.{Byte, Cell, number_in}
use Rattle.plain_steps.specs.Plain.{IsNumber, Reaches, moved_by_call, number_at}
use Rattle.plain_steps.proofs.Going.{Goes, both_true}
use Rattle.plain_steps.proofs.Memory.{no_blank, some_of}

either_of : (b : Bool) (x o : Outcome State) → (b ≡ true → Goes x) → (b ≡ false → Goes o) → Goes (cond b x o)
either_of true x o p q = p refl
either_of false x o p q = q refl

module _ (s : State) where
  counted_goes : (r n : ℕ) (go : ℕ → Outcome State) → register false r s ≡ Num n → Goes (go n) → Goes (counted r s go)
  counted_goes r n go is h = subst (λ (v : Value). Goes (then_do (or_stuck causes.Value (number_in v)) go)) (sym is) h

  -- what is done at an address of which so many bytes are reached
  at_address : (n : ℕ) (v : Value) (go : Object → ℕ → Outcome State) → Reaches s n v → ((o : Object) (x : ℕ) → Reaches s n (Addr o x) → Goes (go o x)) → Goes (addressed v go)
  at_address n (Addr o x) go reached h = h o x reached
  at_address n (Num m) go reached h = absurd reached
  at_address n (At p) go reached h = absurd reached
  at_address n (PageOf t) go reached h = absurd reached
  at_address n (Diff p q) go reached h = absurd reached
  at_address n (Step p q m) go reached h = absurd reached

  known_is : (cells : List Cell) (bytes : List ℕ) → bytes_in cells ≡ Some bytes → known_bytes cells ≡ next bytes
  known_is cells bytes is =
      cond-false (list_any is_blank cells) (stuck causes.Undefined) (or_stuck Mixed (bytes_in cells)) (no_blank cells bytes is)
      ∙ ap (λ (o : Option (List ℕ)). or_stuck Mixed o) is

  written_goes : (n : ℕ) → (n ≢ 0 → Reaches s n (register false 1 s)) → Goes (written n s)
  written_goes n h = either_of (n == 0) (call_done n s) _ (λ zero. refl) (λ some.
      at_address n (register false 1 s) _ (h (eqb-false n 0 some)) (λ o x reached.
      let bytes = some_of (bytes_in (cells_at s o x n)) reached.1 in
      let known = known_is (cells_at s o x n) bytes.0 bytes.1 in
      subst (λ (b : Bool). Goes (cond (not b) (stuck Outside) (cond (nat_lt (2 ^ 24) (length s.output + n)) (ended (trapped traps.OutputFull) s)
      (then_do (known_bytes (cells_at s o x n)) (λ bytes. call_done n (record s { output = s.output ++ bytes })))))) (sym reached.0)
      (either_of (nat_lt (2 ^ 24) (length s.output + n)) (ended (trapped traps.OutputFull) s) _ (λ full. refl) (λ room.
      subst (λ (k : Outcome (List ℕ)). Goes (then_do k (λ bytes. call_done n (record s { output = s.output ++ bytes })))) (sym known) refl))))

  received_goes : (n : ℕ) → (n ≢ 0 → Reaches s n (register false 1 s)) → Goes (received n s)
  received_goes n h = either_of (n == 0) (call_done n s) _ (λ zero. refl) (λ some.
      at_address n (register false 1 s) _ (h (eqb-false n 0 some)) (λ o x reached.
      subst (λ (b : Bool). Goes (cond (not b) (stuck Outside) (call_done n (with_cells o x (map Byte (take n s.input)) (record s { input = drop n s.input }))))) (sym reached.0) refl))

  abbrev moved : ℕ → ℕ → ℕ → ℕ
  moved c f n = cond ((c == 64) && (f == 1)) n (cond ((c == 63) && (f == 0)) (min n (length s.input)) 0)

  module _ (c f n : ℕ) (file : register false 0 s ≡ Num f) (count : register false 2 s ≡ Num n) (reaches : moved c f n ≢ 0 → Reaches s (moved c f n) (register false 1 s)) where
    writes : c == 64 ≡ true → f == 1 ≡ true → n ≢ 0 → Reaches s n (register false 1 s)
    writes sixty one some =
        let is : moved c f n ≡ n = cond-true ((c == 64) && (f == 1)) n (cond ((c == 63) && (f == 0)) (min n (length s.input)) 0) (both_true (c == 64) (f == 1) sixty one) in
        subst (λ (k : ℕ). Reaches s k (register false 1 s)) is (reaches (λ none. some (sym is ∙ none)))

    reads : c == 64 ≡ false → c == 63 ≡ true → f == 0 ≡ true → min n (length s.input) ≢ 0 → Reaches s (min n (length s.input)) (register false 1 s)
    reads other sixty zero some =
        let is : moved c f n ≡ min n (length s.input) =
        cond-false ((c == 64) && (f == 1)) n (cond ((c == 63) && (f == 0)) (min n (length s.input)) 0) (ap (λ (b : Bool). b && (f == 1)) other)
        ∙ cond-true ((c == 63) && (f == 0)) (min n (length s.input)) 0 (both_true (c == 63) (f == 0) sixty zero) in
        subst (λ (k : ℕ). Reaches s k (register false 1 s)) is (reaches (λ none. some (sym is ∙ none)))

    call_of_goes : Goes (call_of c s)
    call_of_goes =
        either_of (c == 93) _ _ (λ exits. counted_goes 0 f _ file refl) (λ stays.
        either_of (c == 64) _ _
        (λ is. counted_goes 0 f _ file (either_of (f == 1) _ (bad_call s) (λ one. counted_goes 2 n _ count (written_goes n (writes is one))) (λ other. refl)))
        (λ other. either_of (c == 63) _ (bad_call s)
        (λ is. counted_goes 0 f _ file (either_of (f == 0) _ (bad_call s) (λ zero. counted_goes 2 n _ count (received_goes (min n (length s.input)) (reads other is zero))) (λ other2. refl)))
        (λ other2. refl)))

  pub called_goes : (immediate : ℕ) → IsNumber (register false 8 s) → IsNumber (register false 0 s) → IsNumber (register false 2 s)
      → (moved_by_call s ≢ 0 → Reaches s (moved_by_call s) (register false 1 s)) → Goes (called immediate s)
  called_goes immediate call file count reaches =
      let number : (v : Value) (n : ℕ) → v ≡ Num n → unwrap_or (number_in v) 0 ≡ n = λ v n is. ap (λ (v : Value). unwrap_or (number_in v) 0) is in
      let is : moved_by_call s ≡ moved call.0 file.0 count.0 =
      ap (λ (k : ℕ). moved k (number_at 0 s) (number_at 2 s)) (number (register false 8 s) call.0 call.1)
      ∙ ap (λ (k : ℕ). moved call.0 k (number_at 2 s)) (number (register false 0 s) file.0 file.1)
      ∙ ap (λ (k : ℕ). moved call.0 file.0 k) (number (register false 2 s) count.0 count.1) in
      either_of (immediate == 0) _ (bad_call s)
      (λ zero. counted_goes 8 call.0 (λ number. call_of number s) call.1
      (call_of_goes call.0 file.0 count.0 file.1 count.1 (λ some. subst (λ (k : ℕ). Reaches s k (register false 1 s)) is (reaches (λ none. some (sym is ∙ none))))))
      (λ other. refl)
