-- The operations of every instruction are fit: their numbers have at most 64 bits, and they test numbers alone.
use Rattle.std.proofs.Common.{◌≡◌, ℕ, zero, suc, ◌*◌, ◌^◌, ◌<◌, Bool, true, false, cond, List, [], ◌∷◌, ◌++◌, refl, arith, rules}
use Rattle.std.specs.Prelude.{◌==◌, ◌&&◌, ◌||◌, nat_le, nat_lt}
use Rattle.std.proofs.lemmas.Bool.{and_from, and_parts, lt-ltb}
use Rattle.std.proofs.lemmas.Nat.{mod_below}
use Rattle.a64_inst.specs.declared.inst.Inst.{Inst}
use Rattle.a64_inst.specs.declared.inst.Inst.TheVariants.{AdrAdrp, AddSubImm, AddSubShifted, AddSubExtended, LogicalShifted, LogicalImm, MoveWide, Bitfield, Extr, TwoSources, OneSource, ThreeSources, WithCarry, CondCompare, CondSelect, BBl, BCond, CbzCbnz, TbzTbnz, BrBlrRet, SvcBrk, Udf, Hint, Literal, Scaled, UnscaledPostPre, Register, Pair}
use Rattle.a64_inst.specs.declared.operations.Width.{Width}
use Rattle.a64_inst.specs.declared.operations.Width.TheVariants.{W, X}
use Rattle.a64_inst.specs.declared.operations.Sum.{Sum}
use Rattle.a64_inst.specs.declared.operations.Unary.TheVariants as unary
use Rattle.a64_inst.specs.declared.operations.Binary.TheVariants as binary
use Rattle.a64_inst.specs.declared.operations.Op.{Op}
use Rattle.a64_inst.specs.declared.operations.Op.TheVariants as op
use Rattle.a64_inst.specs.Numbers.{bits_of, inverse, low, sign_extended, bit_mask}
use Rattle.a64_inst.specs.Meaning.{ops, width_of, sum_of, flagged_sum_or_stack, product_to, pair_size, access, pair_access}
use Rattle.a64_inst.specs.Table.{is_allowed}
use Rattle.simulation.proofs.Small.{either_small, mask_small}
use Rattle.simulation.proofs.Loads.{extended_small}
use Rattle.simulation.proofs.Lists.{known_after, is_fit, are_fit}

either : (ts : List Bool) (b : Bool) (xs ys : List Op) → are_fit ts xs ≡ true → are_fit ts ys ≡ true → are_fit ts (cond b xs ys) ≡ true
either ts true xs ys x y = x
either ts false xs ys x y = y

then_write : (ts : List Bool) (xs : List Op) (stack : Bool) (r a : ℕ) → are_fit ts xs ≡ true → are_fit ts (xs ++ op.Write stack r a ∷ []) ≡ true
then_write ts [] stack r a h = refl
then_write ts (x ∷ xs) stack r a h =
    let both = and_parts (is_fit ts x) (are_fit (known_after ts x) xs) h in
    and_from _ _ both.0 (then_write (known_after ts x) xs stack r a both.1)

low_most : (a : ℕ) → low 64 a < 2 ^ 64
low_most a = mod_below a (2 ^ 64) (omega arith)

-- ---- numbers in instructions

shifted_field : (imm12 sh : ℕ) → imm12 < 4096 → sh < 2 → imm12 * 2 ^ (12 * sh) < 2 ^ 64
shifted_field imm12 zero h k = omega (arith, h)
shifted_field imm12 (suc zero) h k = omega (arith, h)
shifted_field imm12 (suc (suc sh)) h k = absurd (omega (arith, k))

moved_field : (imm16 hw : ℕ) → imm16 < 65536 → hw < 4 → imm16 * 2 ^ (16 * hw) < 2 ^ 64
moved_field imm16 zero h k = omega (arith, h)
moved_field imm16 (suc zero) h k = omega (arith, h)
moved_field imm16 (suc (suc zero)) h k = omega (arith, h)
moved_field imm16 (suc (suc (suc zero))) h k = omega (arith, h)
moved_field imm16 (suc (suc (suc (suc hw)))) h k = absurd (omega (arith, k))

inverse_wide : (w : Width) (a : ℕ) → inverse (bits_of w) a < 2 ^ 64
inverse_wide W a = omega arith
inverse_wide X a = omega arith

unit_field : (imm12 size : ℕ) → imm12 < 4096 → size < 4 → imm12 * 2 ^ size < 2 ^ 64
unit_field imm12 zero h k = omega (arith, h)
unit_field imm12 (suc zero) h k = omega (arith, h)
unit_field imm12 (suc (suc zero)) h k = omega (arith, h)
unit_field imm12 (suc (suc (suc zero))) h k = omega (arith, h)
unit_field imm12 (suc (suc (suc (suc size)))) h k = absurd (omega (arith, k))

size_most : (size : ℕ) → size < 4 → nat_le (2 ^ size) 8 ≡ true
size_most zero k = refl
size_most (suc zero) k = refl
size_most (suc (suc zero)) k = refl
size_most (suc (suc (suc zero))) k = refl
size_most (suc (suc (suc (suc size)))) k = absurd (omega (arith, k))

imm_field : (sf op s sh imm12 rn rd : ℕ) → is_allowed (AddSubImm sf op s sh imm12 rn rd) ≡ true → imm12 < 4096
imm_field sf op s sh imm12 rn rd allowed = search rules

imm_shift : (sf op s sh imm12 rn rd : ℕ) → is_allowed (AddSubImm sf op s sh imm12 rn rd) ≡ true → sh < 2
imm_shift sf op s sh imm12 rn rd allowed = search rules

wide_field : (sf opc hw imm16 rd : ℕ) → is_allowed (MoveWide sf opc hw imm16 rd) ≡ true → imm16 < 65536
wide_field sf opc hw imm16 rd allowed = search rules

wide_place : (sf opc hw imm16 rd : ℕ) → is_allowed (MoveWide sf opc hw imm16 rd) ≡ true → hw < 4
wide_place sf opc hw imm16 rd allowed = search rules

compared_field : (sf op rm c i rn nzcv : ℕ) → is_allowed (CondCompare sf op rm c i rn nzcv) ≡ true → rm < 32
compared_field sf op rm c i rn nzcv allowed = search rules

scaled_size : (size opc imm12 rn rt : ℕ) → is_allowed (Scaled size opc imm12 rn rt) ≡ true → size < 4
scaled_size size opc imm12 rn rt allowed = search rules

scaled_field : (size opc imm12 rn rt : ℕ) → is_allowed (Scaled size opc imm12 rn rt) ≡ true → imm12 < 4096
scaled_field size opc imm12 rn rt allowed = search rules

unscaled_size : (size opc imm9 idx rn rt : ℕ) → is_allowed (UnscaledPostPre size opc imm9 idx rn rt) ≡ true → size < 4
unscaled_size size opc imm9 idx rn rt allowed = search rules

unscaled_field : (size opc imm9 idx rn rt : ℕ) → is_allowed (UnscaledPostPre size opc imm9 idx rn rt) ≡ true → imm9 < 512
unscaled_field size opc imm9 idx rn rt allowed = search rules

register_size : (size opc rm option s rn rt : ℕ) → is_allowed (Register size opc rm option s rn rt) ≡ true → size < 4
register_size size opc rm option s rn rt allowed = search rules

-- ---- parts of rows

fit_access : (ts : List Bool) (size opc rt at count : ℕ) → size < 4 → are_fit ts (access size opc rt at count) ≡ true
fit_access ts size opc rt at count small = either ts (opc == 0) _ _ refl (and_from _ _ (size_most size small) refl)

pair_most : (b : Bool) → nat_le (2 ^ cond b 3 2) 8 ≡ true
pair_most true = refl
pair_most false = refl

pair_number : (b : Bool) → nat_lt (2 ^ cond b 3 2) (2 ^ 64) ≡ true
pair_number true = refl
pair_number false = refl

fit_pair : (ts : List Bool) (opc l rt rt2 at : ℕ) → are_fit ts (pair_access opc l rt rt2 at) ≡ true
fit_pair ts opc l rt rt2 at =
    let most = pair_most (opc == 2) in
    and_from _ _ (pair_number (opc == 2)) (either _ (l == 1) _ _ (and_from _ _ most (and_from _ _ most refl)) refl)

compared : (b : Bool) (sum : Sum) (w : Width) (rn rm c nzcv : ℕ) → rm < 32 → are_fit [] (op.Read false rn ∷ cond b (op.Number rm) (op.Read false rm) ∷ op.Condition c ∷ op.FlagsIf sum w 2 0 1 nzcv ∷ []) ≡ true
compared true sum w rn rm c nzcv h = and_from _ _ (lt-ltb rm (2 ^ 64) (omega (arith, h))) refl
compared false sum w rn rm c nzcv h = refl

literal_most : (b : Bool) → nat_le (cond b 8 4) 8 ≡ true
literal_most true = refl
literal_most false = refl

sign_wide : (bits n : ℕ) → n < 2 ^ 64 → nat_lt (sign_extended bits 64 n) (2 ^ 64) ≡ true
sign_wide bits n h = lt-ltb (sign_extended bits 64 n) (2 ^ 64) (extended_small bits 64 n (omega arith) h)

pub rows_fit : (i : Inst) → is_allowed i ≡ true → are_fit [] (ops i) ≡ true
rows_fit (AdrAdrp which lo hi rd) allowed = refl
rows_fit (AddSubImm sf sum s sh imm12 rn rd) allowed =
    let field = imm_field sf sum s sh imm12 rn rd allowed in
    let shift = imm_shift sf sum s sh imm12 rn rd allowed in
    either [] ((sf == 1) && ((sum == 0) && ((s == 0) && (sh == 0)))) (op.Read true rn ∷ op.JoinLow 1 imm12 0 ∷ op.Write true rd 1 ∷ [])
    (op.Read true rn ∷ op.Number (imm12 * 2 ^ (12 * sh)) ∷ flagged_sum_or_stack (width_of sf) s (sum_of sum) 1 2 rd)
    (and_from _ _ (lt-ltb (imm12 * 1) (2 ^ 64) (omega (arith, field))) refl)
    (and_from _ _ (lt-ltb (imm12 * 2 ^ (12 * sh)) (2 ^ 64) (shifted_field imm12 sh field shift)) (either _ (s == 1) _ _ refl refl))
rows_fit (AddSubShifted sf sum s shift rm imm6 rn rd) allowed = either _ (s == 1) _ _ refl refl
rows_fit (AddSubExtended sf sum s rm option imm3 rn rd) allowed = either _ (s == 1) _ _ refl refl
rows_fit (LogicalShifted sf opc shift n rm imm6 rn rd) allowed =
    let value = op.Binary (binary.Logic opc (n == 1)) (width_of sf) 0 2 in
    let flags : List Op = value ∷ op.FlagsOfLogic (width_of sf) 3 ∷ op.Write false rd 3 ∷ [] in
    let none : List Op = op.Keep rd ∷ value ∷ op.Write false rd 3 ∷ [] in
    either [] ((sf == 1) && ((opc == 1) && ((n == 0) && ((imm6 == 0) && (rn == 31))))) (op.Read false rm ∷ op.Copy 0 ∷ op.Write false rd 1 ∷ [])
    (op.Read false rn ∷ op.Read false rm ∷ op.Unary (unary.Shift shift imm6) (width_of sf) 1 ∷ cond (opc == 3) flags none) refl (either _ (opc == 3) flags none refl refl)
rows_fit (LogicalImm sf opc n immr imms rn rd) allowed =
    and_from _ _ (lt-ltb (bit_mask (bits_of (width_of sf)) n immr imms) (2 ^ 64) (mask_small (width_of sf) n immr imms)) (either _ (opc == 3) _ _ refl refl)
rows_fit (MoveWide sf opc hw imm16 rd) allowed =
    let number = either_small (opc == 0) (inverse (bits_of (width_of sf)) (imm16 * 2 ^ (16 * hw))) (imm16 * 2 ^ (16 * hw)) (2 ^ 64) (inverse_wide (width_of sf) (imm16 * 2 ^ (16 * hw)))
    (moved_field imm16 hw (wide_field sf opc hw imm16 rd allowed) (wide_place sf opc hw imm16 rd allowed)) in
    either [] (opc == 3) _ _ refl (and_from _ _ (lt-ltb _ (2 ^ 64) number) refl)
rows_fit (Bitfield sf opc n immr imms rn rd) allowed = either [] (opc == 1) _ _ refl refl
rows_fit (Extr sf n rm imms rn rd) allowed = refl
rows_fit (TwoSources sf rm opcode rn rd) allowed = refl
rows_fit (OneSource sf opcode rn rd) allowed = refl
rows_fit (ThreeSources sf which rm o0 ra rn rd) allowed =
    either _ (which == 0) _ _ refl
    (either _ ((which == 1) || (which == 5)) (op.Read false ra ∷ product_to (binary.LongProduct (which == 1)) X (sum_of o0) rd)
    (op.Keep rd ∷ op.Binary (binary.HighProduct (which == 2)) X 0 1 ∷ op.Write false rd 2 ∷ []) refl refl)
rows_fit (WithCarry sf sum s rm rn rd) allowed = either _ (s == 1) _ _ refl refl
rows_fit (CondCompare sf sum rm c i rn nzcv) allowed = compared (i == 1) (sum_of sum) (width_of sf) rn rm c nzcv (compared_field sf sum rm c i rn nzcv allowed)
rows_fit (CondSelect sf invert rm c o2 rn rd) allowed = refl
rows_fit (BBl links imm26) allowed = either _ (links == 0) _ _ refl refl
rows_fit (BCond imm19 c) allowed = refl
rows_fit (CbzCbnz sf negated imm19 rt) allowed = refl
rows_fit (TbzTbnz b5 negated b40 imm14 rt) allowed = refl
rows_fit (BrBlrRet which rn) allowed = either _ (which == 1) _ _ refl refl
rows_fit (SvcBrk which imm16) allowed = either [] (which == 0) _ _ refl refl
rows_fit (Udf imm16) allowed = refl
rows_fit (Hint number) allowed = refl
rows_fit (Literal opc imm19 rt) allowed = and_from _ _ (literal_most (opc == 1)) refl
rows_fit (Scaled size opc imm12 rn rt) allowed =
    let small = scaled_size size opc imm12 rn rt allowed in
    and_from _ _ (lt-ltb (imm12 * 2 ^ size) (2 ^ 64) (unit_field imm12 size (scaled_field size opc imm12 rn rt allowed) small)) (fit_access _ size opc rt 1 2 small)
rows_fit (UnscaledPostPre size opc imm9 idx rn rt) allowed =
    let small = unscaled_size size opc imm9 idx rn rt allowed in
    let field = unscaled_field size opc imm9 idx rn rt allowed in
    and_from _ _ (sign_wide 9 imm9 (omega (arith, field)))
    (either _ (idx == 0) _ _ (fit_access _ size opc rt 2 3 small) (then_write _ (access size opc rt (cond (idx == 1) 0 2) 3) true rn 2 (fit_access _ size opc rt (cond (idx == 1) 0 2) 3 small)))
rows_fit (Register size opc rm option s rn rt) allowed = fit_access _ size opc rt 3 4 (register_size size opc rm option s rn rt allowed)
rows_fit (Pair opc idx l imm7 rt2 rn rt) allowed =
    let ts : List Bool = false ∷ true ∷ false ∷ [] in
    and_from _ _ (lt-ltb _ (2 ^ 64) (low_most (sign_extended 7 64 imm7 * 2 ^ pair_size opc)))
    (either ts (idx == 2) _ _ (fit_pair ts opc l rt rt2 2) (then_write ts (pair_access opc l rt rt2 (cond (idx == 1) 0 2)) true rn 2 (fit_pair ts opc l rt rt2 (cond (idx == 1) 0 2))))
