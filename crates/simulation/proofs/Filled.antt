-- The operations of a word whose operand is filled: those of the word, with another operand.
use Rattle.std.proofs.Common.{◌≡◌, ℕ, ◌+◌, ◌*◌, ◌/◌, ◌%◌, ◌^◌, Bool, true, false, cond, List, [], ◌∷◌, Some, None, refl, sym, ap, subst}
use Rattle.std.specs.Prelude.{◌==◌, map}
use Rattle.std.proofs.lemmas.Nat.{div-add-mod'}
use Rattle.a64_inst.specs.declared.inst.Inst.{Inst}
use Rattle.a64_inst.specs.declared.inst.Inst.TheVariants.{AdrAdrp, AddSubImm, BBl, BCond, CbzCbnz, TbzTbnz, Literal, Scaled}
use Rattle.a64_inst.specs.declared.kind.Kind.{Kind}
use Rattle.a64_inst.specs.declared.kind.Kind.TheVariants.{Rel26, Rel19, Rel14, Adr, Page, Low12}
use Rattle.a64_inst.specs.declared.operations.Op.{Op}
use Rattle.a64_inst.specs.declared.operations.Op.TheVariants as op
use Rattle.a64_inst.specs.Meaning.{ops, access}
use Rattle.a64_inst.specs.Numbers.{sign_extended}
use Rattle.a64_filled.specs.Filled.{with_number}
use Rattle.a64_filled.specs.Taken.{Takes}
use Rattle.a64_filled.specs.Named.{operand_offset, named, part_named}
use Rattle.sym_expr.specs.declared.program.Program.{Program}
use Rattle.sym_expr.specs.declared.target.Target.{Target}
use Rattle.simulation.specs.Placement.{Placement, target_number}
use Rattle.simulation.proofs.Operands.{Filling, plain_operand, filled_operand, refilled}
use Rattle.simulation.proofs.Lists.{NameAll}

-- nothing is filled
pub all_plain : (os : List Op) → map (refilled plain_operand) os ≡ os
all_plain [] = refl
all_plain (o ∷ os) = rw (plain_is o, all_plain os) refl
  where
    plain_is : (o : Op) → refilled plain_operand o ≡ o
    plain_is (op.Number n) = refl
    plain_is (op.Target page x) = refl
    plain_is (op.Read stack r) = refl
    plain_is op.Carry = refl
    plain_is (op.Copy a) = refl
    plain_is (op.Unary f w a) = refl
    plain_is (op.Binary f w a b) = refl
    plain_is (op.Sum sum w a b) = refl
    plain_is (op.JoinLow unit field a) = refl
    plain_is (op.Load bytes signed w a) = refl
    plain_is (op.Condition c) = refl
    plain_is (op.IsZero negated w a) = refl
    plain_is (op.Choose inverted more w t a b) = refl
    plain_is (op.Store bytes a b) = refl
    plain_is (op.Write stack r a) = refl
    plain_is (op.FlagsOfSum sum w a b) = refl
    plain_is (op.FlagsOfCarry sum w a b c) = refl
    plain_is (op.FlagsOfLogic w a) = refl
    plain_is (op.FlagsIf sum w t a b nzcv) = refl
    plain_is op.Link = refl
    plain_is (op.Call n) = refl
    plain_is (op.Keep r) = refl
    plain_is (op.Jump a) = refl
    plain_is (op.JumpIf t a) = refl
    plain_is (op.Trap why) = refl

either_same : (f : Filling) (b : Bool) (xs ys : List Op) → map (refilled f) xs ≡ xs → map (refilled f) ys ≡ ys → map (refilled f) (cond b xs ys) ≡ cond b xs ys
either_same f true xs ys x y = x
either_same f false xs ys x y = y

access_same : (f : Filling) (size opc rt at count : ℕ) → map (refilled f) (access size opc rt at count) ≡ access size opc rt at count
access_same f size opc rt at count = either_same f (opc == 0) _ _ refl refl

both_halves : (n : ℕ) → n / 4 * 4 + n % 4 ≡ n
both_halves n = div-add-mod' n 4

pub ops_filled : (kind : Kind) (i : Inst) (n : ℕ) → Takes kind i → ops (with_number n i) ≡ map (refilled (filled_operand (operand_offset kind n) n)) (ops i)
ops_filled Rel26 (BBl links imm26) n h = ap (λ (xs : List Op). op.Target false (sign_extended 28 64 (n * 4)) ∷ xs) (sym (either_same (filled_operand (operand_offset Rel26 n) n) (links == 0) _ _ refl refl))
ops_filled Rel19 (BCond imm19 c) n h = refl
ops_filled Rel19 (CbzCbnz sf negated imm19 rt) n h = refl
ops_filled Rel19 (Literal opc imm19 rt) n h = refl
ops_filled Rel14 (TbzTbnz b5 negated b40 imm14 rt) n h = refl
ops_filled Adr (AdrAdrp which lo hi rd) n h = rw (h, both_halves n) refl
ops_filled Page (AdrAdrp which lo hi rd) n h = rw (h, both_halves n) refl
ops_filled (Low12 unit) (AddSubImm sf sum s sh imm12 rn rd) n h = rw (h.0) refl
ops_filled (Low12 unit) (Scaled size opc imm12 rn rt) n h = ap (λ (xs : List Op). op.Read true rn ∷ op.JoinLow (2 ^ size) n 0 ∷ xs) (sym (access_same (filled_operand (operand_offset (Low12 unit) n) n) size opc rt 1 2))
ops_filled kind i n h = absurd h

module _ (pl : Placement) (g : Program) (place : ℕ) (t : Target) (f : Filling) where
  either_named : (b : Bool) (xs ys : List Op) → NameAll pl g place (Some t) f xs → NameAll pl g place (Some t) f ys → NameAll pl g place (Some t) f (cond b xs ys)
  either_named true xs ys x y = x
  either_named false xs ys x y = y

pub ops_named : (pl : Placement) (g : Program) (place : ℕ) (t : Target) (kind : Kind) (i : Inst) (n : ℕ) → Takes kind i → named kind place n ≡ part_named kind (target_number pl g t)
    → NameAll pl g place (Some t) (filled_operand (operand_offset kind n) n) (ops i)
ops_named pl g place t Rel26 (BBl links imm26) n h e = (e, either_named pl g place t (filled_operand (operand_offset Rel26 n) n) (links == 0) _ _ (tt, tt) (tt, (tt, tt)))
ops_named pl g place t Rel19 (BCond imm19 c) n h e = (e, (tt, (tt, tt)))
ops_named pl g place t Rel19 (CbzCbnz sf negated imm19 rt) n h e = (e, (tt, (tt, (tt, tt))))
ops_named pl g place t Rel19 (Literal opc imm19 rt) n h e = (e, (tt, (tt, tt)))
ops_named pl g place t Rel14 (TbzTbnz b5 negated b40 imm14 rt) n h e = (e, (tt, (tt, (tt, (tt, tt)))))
ops_named pl g place t Adr (AdrAdrp which lo hi rd) n h e = rw h (e, (tt, tt))
ops_named pl g place t Page (AdrAdrp which lo hi rd) n h e = rw h (e, (tt, tt))
ops_named pl g place t (Low12 unit) (AddSubImm sf sum s sh imm12 rn rd) n h e = rw (h.0) (tt, (subst (λ (u : ℕ). n * u ≡ target_number pl g t % 4096) h.1 e, (tt, tt)))
ops_named pl g place t (Low12 unit) (Scaled size opc imm12 rn rt) n h e =
    (tt, (subst (λ (u : ℕ). n * u ≡ target_number pl g t % 4096) h e, either_named pl g place t (filled_operand (operand_offset (Low12 unit) n) n) (opc == 0) _ _ (tt, (tt, (tt, tt))) (tt, (tt, tt))))
ops_named pl g place t kind i n h e = absurd h

-- where nothing is filled, nothing is named
pub none_named : (pl : Placement) (g : Program) (place : ℕ) (os : List Op) → NameAll pl g place None plain_operand os
none_named pl g place [] = tt
none_named pl g place (o ∷ os) = (tt, none_named pl g place os)
