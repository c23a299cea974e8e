-- Parts of rows, over numbers.
use Rattle.std.proofs.Common.{◌≡◌, ℕ, ◌+◌, ◌*◌, ◌^◌, Bool, true, false, cond, ◌&&◌, ◌||◌, List, [], ◌∷◌, ◌++◌, length, Option, Some, None, refl, sym, ap, ◌∙◌, subst}
use Rattle.std.specs.Prelude.{◌==◌, slice_index_or}
use Rattle.std.specs.List.{AllByRecursion}
use Rattle.a64_inst.specs.declared.inst.Inst.{Inst}
use Rattle.a64_inst.specs.declared.inst.Inst.TheVariants.{AdrAdrp, AddSubImm, AddSubShifted, AddSubExtended, LogicalShifted, LogicalImm, MoveWide, Bitfield, Extr, TwoSources, OneSource, ThreeSources, WithCarry, CondCompare, CondSelect, BBl, BCond, CbzCbnz, TbzTbnz, BrBlrRet, SvcBrk, Udf, Hint, Literal, Scaled, UnscaledPostPre, Register, Pair}
use Rattle.a64_inst.specs.declared.operations.Sum.{Sum}
use Rattle.a64_inst.specs.declared.operations.Sum.TheVariants.{Add}
use Rattle.a64_inst.specs.declared.operations.Width.{Width}
use Rattle.a64_inst.specs.declared.operations.Width.TheVariants.{W, X}
use Rattle.a64_inst.specs.declared.operations.Unary.{Unary}
use Rattle.a64_inst.specs.declared.operations.Unary.TheVariants as unary
use Rattle.a64_inst.specs.declared.operations.Binary.{Binary}
use Rattle.a64_inst.specs.declared.operations.Binary.TheVariants as binary
use Rattle.a64_inst.specs.declared.operations.Op.{Op}
use Rattle.a64_inst.specs.declared.operations.Op.TheVariants as op
use Rattle.a64_inst.specs.Domain.{exec}
use Rattle.a64_inst.specs.Meaning.{ops, width_of, sum_of as sum_named, summed, flagged_sum, flagged_sum_or_stack, carried_sum_to, product_to}
use Rattle.a64_inst.specs.Numbers.{binary_value, bits_of, is_copy, unary_value}
use Rattle.sym_expr.specs.declared.point.Point.{Point}
use Rattle.sym_expr.specs.declared.program.Program.{Program}
use Rattle.sym_expr.specs.declared.value.Value.{Value}
use Rattle.sym_expr.specs.declared.value.Value.TheVariants.{Num}
use Rattle.sym_expr.specs.States.{State, register}
use Rattle.sym_expr.specs.Symbolic.{jumped, symbolic, with_flags}
use Rattle.plain_steps.specs.Plain.{all_known, IsCodePoint, IsNumber, IsPlain, forms_target, numbers_of}
use Rattle.plain_steps.proofs.Going.{Goes, Onward, either_goes, unary_goes, binary_goes, sum_goes, choose_goes, join_goes, carry_goes, condition_goes, keep_goes, flags_goes, carry_flags_goes, logic_flags_goes, flags_if_goes, known_carry}

-- the machine at a word without an expression
abbrev pub at_word : Point → State → State
at_word at s = record s { place = at; named = None }

abbrev pub AreNumbers : State → List (Bool × ℕ) → Type 0
AreNumbers s rs = AllByRecursion (λ (r : Bool × ℕ). IsNumber (register r.0 r.1 s)) rs

pub where_true : (s : State) (b : Bool) (xs ys : List (Bool × ℕ)) → b ≡ true → AreNumbers s (cond b xs ys) → AreNumbers s xs
where_true s b xs ys is h = subst (λ (b : Bool). AreNumbers s (cond b xs ys)) is h

pub where_false : (s : State) (b : Bool) (xs ys : List (Bool × ℕ)) → b ≡ false → AreNumbers s (cond b xs ys) → AreNumbers s ys
where_false s b xs ys is h = subst (λ (b : Bool). AreNumbers s (cond b xs ys)) is h

pub either_by : (g : Program) (b : Bool) (xs ys : List Op) (vs : List Value) (s : State) → (b ≡ true → Goes (exec (symbolic g) xs vs s)) → (b ≡ false → Goes (exec (symbolic g) ys vs s))
    → Goes (exec (symbolic g) (cond b xs ys) vs s)
either_by g true xs ys vs s x y = x refl
either_by g false xs ys vs s x y = y refl

pub first_by : (g : Program) (b : Bool) (x y : Op) (rest : List Op) (vs : List Value) (s : State) → (b ≡ true → Goes (exec (symbolic g) (x ∷ rest) vs s)) → (b ≡ false → Goes (exec (symbolic g) (y ∷ rest) vs s))
    → Goes (exec (symbolic g) (cond b x y ∷ rest) vs s)
first_by g true x y rest vs s p q = p refl
first_by g false x y rest vs s p q = q refl

-- ---- parts of several rows

module _ (g : Program) (vs : List Value) (s : State) where
  summed_goes : (w : Width) (sum : Sum) (b count rd m n : ℕ) → slice_index_or vs 0 (Num 0) ≡ Num m → slice_index_or vs b (Num 0) ≡ Num n → Goes (exec (symbolic g) (summed w sum b count rd) vs s)
  summed_goes w sum b count rd m n first second =
      keep_goes g vs s (exec (symbolic g) (op.Sum sum w 0 b ∷ op.Write false rd count ∷ [])) rd
      (sum_goes g vs s (exec (symbolic g) (op.Write false rd count ∷ [])) sum w 0 b m n first second (λ k. refl))

module _ (g : Program) (vs : List Value) (s : State) where
  pub flagged_goes : (w : Width) (flags : ℕ) (sum : Sum) (b count rd m n : ℕ) → slice_index_or vs 0 (Num 0) ≡ Num m → slice_index_or vs b (Num 0) ≡ Num n
      → Goes (exec (symbolic g) (flagged_sum w flags sum b count rd) vs s)
  flagged_goes w flags sum b count rd m n first second =
      either_goes g (flags == 1) (op.FlagsOfSum sum w 0 b ∷ summed w sum b count rd) (summed w sum b count rd) vs s
      (flags_goes g vs s (exec (symbolic g) (summed w sum b count rd)) sum w 0 b m n first second (λ f. summed_goes g vs (with_flags s f) w sum b count rd m n first second))
      (summed_goes g vs s w sum b count rd m n first second)

  pub flagged_stack_goes : (w : Width) (flags : ℕ) (sum : Sum) (b count rd m n : ℕ) → slice_index_or vs 0 (Num 0) ≡ Num m → slice_index_or vs b (Num 0) ≡ Num n
      → Goes (exec (symbolic g) (flagged_sum_or_stack w flags sum b count rd) vs s)
  flagged_stack_goes w flags sum b count rd m n first second =
      either_goes g (flags == 1) (op.FlagsOfSum sum w 0 b ∷ summed w sum b count rd) (op.Sum sum w 0 b ∷ op.Write true rd count ∷ []) vs s
      (flags_goes g vs s (exec (symbolic g) (summed w sum b count rd)) sum w 0 b m n first second (λ f. summed_goes g vs (with_flags s f) w sum b count rd m n first second))
      (sum_goes g vs s (exec (symbolic g) (op.Write true rd count ∷ [])) sum w 0 b m n first second (λ k. refl))

-- a function of two registers, to a register
pub of_two : (g : Program) (f : Binary) (w : Width) (i j rd m n : ℕ) (a b : Value) (s : State) → slice_index_or (a ∷ b ∷ []) i (Num 0) ≡ Num m → slice_index_or (a ∷ b ∷ []) j (Num 0) ≡ Num n
    → Goes (exec (symbolic g) (op.Keep rd ∷ op.Binary f w i j ∷ op.Write false rd 2 ∷ []) (a ∷ b ∷ []) s)
of_two g f w i j rd m n a b s first second =
    keep_goes g (a ∷ b ∷ []) s (exec (symbolic g) (op.Binary f w i j ∷ op.Write false rd 2 ∷ [])) rd
    (binary_goes g (a ∷ b ∷ []) s (exec (symbolic g) (op.Write false rd 2 ∷ [])) f w i j m n first second refl)

pub of_one : (g : Program) (f : Unary) (w : Width) (rd n : ℕ) (a : Value) (s : State) → a ≡ Num n
    → Goes (exec (symbolic g) (op.Keep rd ∷ op.Unary f w 0 ∷ op.Write false rd 1 ∷ []) (a ∷ []) s)
of_one g f w rd n a s first =
    keep_goes g (a ∷ []) s (exec (symbolic g) (op.Unary f w 0 ∷ op.Write false rd 1 ∷ [])) rd
    (unary_goes g (a ∷ []) s (exec (symbolic g) (op.Write false rd 1 ∷ [])) f w 0 n first refl)

pub of_three : (g : Program) (f : Binary) (w : Width) (sum : Sum) (rd l m n : ℕ) (a b c : Value) (s : State) → a ≡ Num l → b ≡ Num m → c ≡ Num n
    → Goes (exec (symbolic g) (product_to f w sum rd) (a ∷ b ∷ c ∷ []) s)
of_three g f w sum rd l m n a b c s first second third =
    let vs : List Value = a ∷ b ∷ c ∷ [] in
    keep_goes g vs s (exec (symbolic g) (op.Binary f w 0 1 ∷ op.Binary (binary.PlainSum sum) w 2 3 ∷ op.Write false rd 4 ∷ [])) rd
    (binary_goes g vs s (exec (symbolic g) (op.Binary (binary.PlainSum sum) w 2 3 ∷ op.Write false rd 4 ∷ [])) f w 0 1 l m first second
    (binary_goes g (a ∷ b ∷ c ∷ Num (binary_value f (bits_of w) l m) ∷ []) s (exec (symbolic g) (op.Write false rd 4 ∷ [])) (binary.PlainSum sum) w 2 3 n (binary_value f (bits_of w) l m) third refl refl))

pub carried_goes : (g : Program) (w : Width) (sum : Sum) (rd m n k : ℕ) (a b : Value) (s : State) → a ≡ Num m → b ≡ Num n
    → Goes (exec (symbolic g) (carried_sum_to w sum rd) (a ∷ b ∷ Num k ∷ []) s)
carried_goes g w sum rd m n k a b s first second =
    let vs : List Value = a ∷ b ∷ Num k ∷ [] in
    let turned : ℕ = cond (is_copy (unary.Addend sum)) n (unary_value (unary.Addend sum) (bits_of w) n) in
    keep_goes g vs s (exec (symbolic g) (op.Unary (unary.Addend sum) w 1 ∷ op.Binary (binary.PlainSum Add) w 0 3 ∷ op.Binary (binary.PlainSum Add) w 4 2 ∷ op.Write false rd 5 ∷ [])) rd
    (unary_goes g vs s (exec (symbolic g) (op.Binary (binary.PlainSum Add) w 0 3 ∷ op.Binary (binary.PlainSum Add) w 4 2 ∷ op.Write false rd 5 ∷ [])) (unary.Addend sum) w 1 n second
    (binary_goes g (a ∷ b ∷ Num k ∷ Num turned ∷ []) s (exec (symbolic g) (op.Binary (binary.PlainSum Add) w 4 2 ∷ op.Write false rd 5 ∷ [])) (binary.PlainSum Add) w 0 3 m turned first refl
    (binary_goes g (a ∷ b ∷ Num k ∷ Num turned ∷ Num (binary_value (binary.PlainSum Add) (bits_of w) m turned) ∷ []) s (exec (symbolic g) (op.Write false rd 5 ∷ [])) (binary.PlainSum Add) w 4 2
    (binary_value (binary.PlainSum Add) (bits_of w) m turned) k refl refl refl)))

pub jump_goes : (v : Value) (s : State) → IsCodePoint v → Goes (jumped v s)
jump_goes v s p = subst (λ (v : Value). Goes (jumped v s)) (sym p.1) refl
