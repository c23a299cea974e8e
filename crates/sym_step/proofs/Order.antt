-- The operations of each row: values, then stores, and no store behind others.
use Rattle.std.proofs.Common.{◌≡◌, ℕ, Bool, true, false, cond, List, [], ◌∷◌, ◌++◌, ◌*◌, ◌^◌, refl}
use Rattle.std.specs.Prelude.{◌==◌, ◌&&◌, ◌||◌}
use Rattle.a64_inst.specs.declared.inst.Inst.{Inst}
use Rattle.a64_inst.specs.declared.inst.Inst.TheVariants.{AdrAdrp, AddSubImm, AddSubShifted, AddSubExtended, LogicalShifted, LogicalImm, MoveWide, Bitfield, Extr, TwoSources, OneSource, ThreeSources, WithCarry, CondCompare, CondSelect, BBl, BCond, CbzCbnz, TbzTbnz, BrBlrRet, SvcBrk, Udf, Hint, Literal, Scaled, UnscaledPostPre, Register, Pair}
use Rattle.a64_inst.specs.declared.operations.Width.TheVariants.{X}
use Rattle.a64_inst.specs.declared.operations.Binary.TheVariants as binary
use Rattle.a64_inst.specs.declared.operations.Unary.TheVariants as unary
use Rattle.a64_inst.specs.declared.operations.Op.{Op}
use Rattle.a64_inst.specs.declared.operations.Op.TheVariants as op
use Rattle.a64_inst.specs.Meaning.{ops, width_of, sum_of, flagged_sum_or_stack, product_to, access, pair_access}
use Rattle.sym_step.specs.Order.{stores_early}

either : (b : Bool) (xs ys : List Op) → stores_early xs ≡ true → stores_early ys ≡ true → stores_early (cond b xs ys) ≡ true
either true xs ys x y = x
either false xs ys x y = y

-- the same with more behind
either_then : (b : Bool) (xs ys more : List Op) → stores_early (xs ++ more) ≡ true → stores_early (ys ++ more) ≡ true → stores_early (cond b xs ys ++ more) ≡ true
either_then true xs ys more x y = x
either_then false xs ys more x y = y

first : (b : Bool) (x y : Op) (rest : List Op) → stores_early (x ∷ rest) ≡ true → stores_early (y ∷ rest) ≡ true → stores_early (cond b x y ∷ rest) ≡ true
first true x y rest p q = p
first false x y rest p q = q

early_access : (size opc rt at count : ℕ) → stores_early (access size opc rt at count) ≡ true
early_access size opc rt at count = either (opc == 0) _ _ refl refl

early_access_then : (size opc rt at count rn : ℕ) → stores_early (access size opc rt at count ++ op.Write true rn 2 ∷ []) ≡ true
early_access_then size opc rt at count rn = either_then (opc == 0) _ _ (op.Write true rn 2 ∷ []) refl refl

early_pair : (opc l rt rt2 at : ℕ) → stores_early (pair_access opc l rt rt2 at) ≡ true
early_pair opc l rt rt2 at = either (l == 1) _ _ refl refl

early_pair_then : (opc l rt rt2 at rn : ℕ) → stores_early (pair_access opc l rt rt2 at ++ op.Write true rn 2 ∷ []) ≡ true
early_pair_then opc l rt rt2 at rn = either_then (l == 1) _ _ (op.Write true rn 2 ∷ []) refl refl

pub early : (i : Inst) → stores_early (ops i) ≡ true
early (AdrAdrp which lo hi rd) = refl
early (AddSubImm sf sum s sh imm12 rn rd) =
    either ((sf == 1) && ((sum == 0) && ((s == 0) && (sh == 0)))) (op.Read true rn ∷ op.JoinLow 1 imm12 0 ∷ op.Write true rd 1 ∷ [])
    (op.Read true rn ∷ op.Number (imm12 * 2 ^ (12 * sh)) ∷ flagged_sum_or_stack (width_of sf) s (sum_of sum) 1 2 rd) refl (either (s == 1) _ _ refl refl)
early (AddSubShifted sf sum s shift rm imm6 rn rd) = either (s == 1) _ _ refl refl
early (AddSubExtended sf sum s rm option imm3 rn rd) = either (s == 1) _ _ refl refl
early (LogicalShifted sf opc shift n rm imm6 rn rd) =
    let value = op.Binary (binary.Logic opc (n == 1)) (width_of sf) 0 2 in
    let flags : List Op = value ∷ op.FlagsOfLogic (width_of sf) 3 ∷ op.Write false rd 3 ∷ [] in
    let none : List Op = op.Keep rd ∷ value ∷ op.Write false rd 3 ∷ [] in
    either ((sf == 1) && ((opc == 1) && ((n == 0) && ((imm6 == 0) && (rn == 31))))) (op.Read false rm ∷ op.Copy 0 ∷ op.Write false rd 1 ∷ [])
    (op.Read false rn ∷ op.Read false rm ∷ op.Unary (unary.Shift shift imm6) (width_of sf) 1 ∷ cond (opc == 3) flags none) refl (either (opc == 3) flags none refl refl)
early (LogicalImm sf opc n immr imms rn rd) = either (opc == 3) _ _ refl refl
early (MoveWide sf opc hw imm16 rd) = either (opc == 3) _ _ refl refl
early (Bitfield sf opc n immr imms rn rd) = either (opc == 1) _ _ refl refl
early (Extr sf n rm imms rn rd) = refl
early (TwoSources sf rm opcode rn rd) = refl
early (OneSource sf opcode rn rd) = refl
early (ThreeSources sf which rm o0 ra rn rd) =
    either (which == 0) _ _ refl
    (either ((which == 1) || (which == 5)) (op.Read false ra ∷ product_to (binary.LongProduct (which == 1)) X (sum_of o0) rd)
    (op.Keep rd ∷ op.Binary (binary.HighProduct (which == 2)) X 0 1 ∷ op.Write false rd 2 ∷ []) refl refl)
early (WithCarry sf sum s rm rn rd) = either (s == 1) _ _ refl refl
early (CondCompare sf sum rm cond i rn nzcv) = first (i == 1) (op.Number rm) (op.Read false rm) (op.Condition cond ∷ op.FlagsIf (sum_of sum) (width_of sf) 2 0 1 nzcv ∷ []) refl refl
early (CondSelect sf invert rm cond o2 rn rd) = refl
early (BBl links imm26) = either (links == 0) _ _ refl refl
early (BCond imm19 cond) = refl
early (CbzCbnz sf negated imm19 rt) = refl
early (TbzTbnz b5 negated b40 imm14 rt) = refl
early (BrBlrRet which rn) = either (which == 1) _ _ refl refl
early (SvcBrk which imm16) = either (which == 0) _ _ refl refl
early (Udf imm16) = refl
early (Hint number) = refl
early (Literal opc imm19 rt) = refl
early (Scaled size opc imm12 rn rt) = early_access size opc rt 1 2
early (UnscaledPostPre size opc imm9 idx rn rt) =
    either (idx == 0) _ _ (early_access size opc rt 2 3) (early_access_then size opc rt (cond (idx == 1) 0 2) 3 rn)
early (Register size opc rm option s rn rt) = early_access size opc rt 3 4
early (Pair opc idx l imm7 rt2 rn rt) =
    either (idx == 2) _ _ (early_pair opc l rt rt2 2) (early_pair_then opc l rt rt2 (cond (idx == 1) 0 2) rn)
