-- The operations of each row keep to what is asked of them.
use Rattle.std.proofs.Common.{◌≡◌, ℕ, zero, suc, ◌+◌, ◌*◌, ◌%◌, ◌^◌, ◌<◌, Bool, true, false, cond, List, [], ◌∷◌, ◌++◌, refl, arith, rules}
use Rattle.std.specs.Prelude.{◌==◌, ◌&&◌, ◌||◌, nat_lt, not}
use Rattle.std.specs.List.{list_all}
use Rattle.std.proofs.lemmas.Bool.{and_from}
use Rattle.std.proofs.lemmas.Grind.{common_steps}
use Rattle.a64_inst.specs.declared.inst.Inst.{Inst}
use Rattle.a64_inst.specs.declared.inst.Inst.TheVariants.{AdrAdrp, AddSubImm, AddSubShifted, AddSubExtended, LogicalShifted, LogicalImm, MoveWide, Bitfield, Extr, TwoSources, OneSource, ThreeSources, WithCarry, CondCompare, CondSelect, BBl, BCond, CbzCbnz, TbzTbnz, BrBlrRet, SvcBrk, Udf, Hint, Literal, Scaled, UnscaledPostPre, Register, Pair}
use Rattle.a64_inst.specs.declared.operations.Width.TheVariants.{X}
use Rattle.a64_inst.specs.declared.operations.Unary.TheVariants as unary
use Rattle.a64_inst.specs.declared.operations.Binary.TheVariants as binary
use Rattle.a64_inst.specs.declared.operations.Op.{Op}
use Rattle.a64_inst.specs.declared.operations.Op.TheVariants as op
use Rattle.a64_inst.specs.Numbers.{bits_of}
use Rattle.a64_inst.specs.Reserved.{is_not_of_two}
use Rattle.a64_inst.specs.Meaning.{ops, width_of, sum_of, flagged_sum_or_stack, product_to, pair_size, access, pair_access}
use Rattle.a64_inst.specs.Table.{is_allowed}
use Rattle.a64_ops.specs.Sound.{is_field, is_size, is_sound}

either : (b : Bool) (xs ys : List Op) → list_all is_sound xs ≡ true → list_all is_sound ys ≡ true → list_all is_sound (cond b xs ys) ≡ true
either true xs ys x y = x
either false xs ys x y = y

behind : (xs ys : List Op) → list_all is_sound xs ≡ true → list_all is_sound ys ≡ true → list_all is_sound (xs ++ ys) ≡ true
behind xs ys x y = grind (arith, common_steps)

shifted_sum : (sf op s shift rm imm6 rn rd : ℕ) → is_allowed (AddSubShifted sf op s shift rm imm6 rn rd) ≡ true → nat_lt imm6 (bits_of (width_of sf)) ≡ true
shifted_sum sf op s shift rm imm6 rn rd allowed = search rules

shifted_logic : (sf opc shift n rm imm6 rn rd : ℕ) → is_allowed (LogicalShifted sf opc shift n rm imm6 rn rd) ≡ true → nat_lt imm6 (bits_of (width_of sf)) ≡ true
shifted_logic sf opc shift n rm imm6 rn rd allowed = search rules

extended_sum : (sf op s rm option imm3 rn rd : ℕ) → is_allowed (AddSubExtended sf op s rm option imm3 rn rd) ≡ true → (nat_lt option 8 && nat_lt imm3 8) ≡ true
extended_sum sf op s rm option imm3 rn rd allowed = search rules

placed : (sf opc hw imm16 rd : ℕ) → is_allowed (MoveWide sf opc hw imm16 rd) ≡ true → ((16 * hw) % 16 == 0) && nat_lt (16 * hw) 64 ≡ true
placed sf opc hw imm16 rd allowed = search rules

field : (sf opc n immr imms rn rd : ℕ) → is_allowed (Bitfield sf opc n immr imms rn rd) ≡ true → is_field immr imms (width_of sf) ≡ true
field sf opc n immr imms rn rd allowed = search rules

extracted : (sf n rm imms rn rd : ℕ) → is_allowed (Extr sf n rm imms rn rd) ≡ true → nat_lt imms (bits_of (width_of sf)) ≡ true
extracted sf n rm imms rn rd allowed = search rules

of_two : (sf rm opcode rn rd : ℕ) → is_allowed (TwoSources sf rm opcode rn rd) ≡ true → not (is_not_of_two opcode) ≡ true
of_two sf rm opcode rn rd allowed = search rules

bit_place : (b5 op b40 imm14 rt : ℕ) → is_allowed (TbzTbnz b5 op b40 imm14 rt) ≡ true → nat_lt (b5 * 32 + b40) 64 ≡ true
bit_place b5 op b40 imm14 rt allowed = search rules

access_size : (size : ℕ) → size < 4 → is_size (2 ^ size) ≡ true
access_size zero small = refl
access_size (suc zero) small = refl
access_size (suc (suc zero)) small = refl
access_size (suc (suc (suc zero))) small = refl
access_size (suc (suc (suc (suc n)))) small = absurd (omega arith)

extend_size : (size : ℕ) → size < 4 → (nat_lt size 8 && nat_lt 0 8) ≡ true
extend_size size small = search rules

sound_access : (size opc rt at count : ℕ) → size < 4 → list_all is_sound (access size opc rt at count) ≡ true
sound_access size opc rt at count small =
    let fits = access_size size small in
    either (opc == 0) _ _ (and_from _ _ (extend_size size small) (and_from _ _ fits refl)) (and_from _ _ fits refl)

second : (b : Bool) (x y : Op) → is_sound x ≡ true → is_sound y ≡ true → (is_sound (cond b x y) && true) ≡ true
second true x y p q = and_from _ _ p refl
second false x y p q = and_from _ _ q refl

literal_size : (b : Bool) → is_size (cond b 8 4) ≡ true
literal_size true = refl
literal_size false = refl

extend_pair : (b : Bool) → (nat_lt (cond b 3 2) 8 && nat_lt 0 8) ≡ true
extend_pair true = refl
extend_pair false = refl

size_of : (b : Bool) → is_size (2 ^ cond b 3 2) ≡ true
size_of true = refl
size_of false = refl

pair_size_is : (opc : ℕ) → is_size (2 ^ pair_size opc) ≡ true
pair_size_is opc = size_of (opc == 2)

sound_pair : (opc l rt rt2 at : ℕ) → list_all is_sound (pair_access opc l rt rt2 at) ≡ true
sound_pair opc l rt rt2 at =
    let fits = pair_size_is opc in
    let low = extend_pair (opc == 2) in
    either (l == 1) _ _ (and_from _ _ fits (and_from _ _ fits refl)) (and_from _ _ low (and_from _ _ low (and_from _ _ fits (and_from _ _ fits refl))))

scaled_size : (size opc imm12 rn rt : ℕ) → is_allowed (Scaled size opc imm12 rn rt) ≡ true → size < 4
scaled_size size opc imm12 rn rt allowed = search rules

unscaled_size : (size opc imm9 idx rn rt : ℕ) → is_allowed (UnscaledPostPre size opc imm9 idx rn rt) ≡ true → size < 4
unscaled_size size opc imm9 idx rn rt allowed = search rules

register_size : (size opc rm option s rn rt : ℕ) → is_allowed (Register size opc rm option s rn rt) ≡ true → size < 4
register_size size opc rm option s rn rt allowed = search rules

register_offset : (size opc rm option s rn rt : ℕ) → is_allowed (Register size opc rm option s rn rt) ≡ true → (nat_lt option 8 && nat_lt (s * size) 8) ≡ true
register_offset size opc rm option s rn rt allowed = search rules

pub sound : (i : Inst) → is_allowed i ≡ true → list_all is_sound (ops i) ≡ true
sound (AdrAdrp which lo hi rd) allowed = refl
sound (AddSubImm sf sum s sh imm12 rn rd) allowed =
    either ((sf == 1) && ((sum == 0) && ((s == 0) && (sh == 0)))) (op.Read true rn ∷ op.JoinLow 1 imm12 0 ∷ op.Write true rd 1 ∷ [])
    (op.Read true rn ∷ op.Number (imm12 * 2 ^ (12 * sh)) ∷ flagged_sum_or_stack (width_of sf) s (sum_of sum) 1 2 rd) refl (either (s == 1) _ _ refl refl)
sound (AddSubShifted sf sum s shift rm imm6 rn rd) allowed = and_from _ _ (shifted_sum sf sum s shift rm imm6 rn rd allowed) (either (s == 1) _ _ refl refl)
sound (AddSubExtended sf sum s rm option imm3 rn rd) allowed = and_from _ _ (extended_sum sf sum s rm option imm3 rn rd allowed) (either (s == 1) _ _ refl refl)
sound (LogicalShifted sf opc shift n rm imm6 rn rd) allowed =
    let value = op.Binary (binary.Logic opc (n == 1)) (width_of sf) 0 2 in
    let flags : List Op = value ∷ op.FlagsOfLogic (width_of sf) 3 ∷ op.Write false rd 3 ∷ [] in
    let none : List Op = op.Keep rd ∷ value ∷ op.Write false rd 3 ∷ [] in
    either ((sf == 1) && ((opc == 1) && ((n == 0) && ((imm6 == 0) && (rn == 31))))) (op.Read false rm ∷ op.Copy 0 ∷ op.Write false rd 1 ∷ [])
    (op.Read false rn ∷ op.Read false rm ∷ op.Unary (unary.Shift shift imm6) (width_of sf) 1 ∷ cond (opc == 3) flags none) refl
    (and_from _ _ (shifted_logic sf opc shift n rm imm6 rn rd allowed) (either (opc == 3) flags none refl refl))
sound (LogicalImm sf opc n immr imms rn rd) allowed = either (opc == 3) _ _ refl refl
sound (MoveWide sf opc hw imm16 rd) allowed = either (opc == 3) _ _ (and_from _ _ (placed sf opc hw imm16 rd allowed) refl) refl
sound (Bitfield sf opc n immr imms rn rd) allowed =
    let fits = field sf opc n immr imms rn rd allowed in
    either (opc == 1) _ _ (and_from _ _ fits refl) (and_from _ _ fits refl)
sound (Extr sf n rm imms rn rd) allowed = and_from _ _ (extracted sf n rm imms rn rd allowed) refl
sound (TwoSources sf rm opcode rn rd) allowed = and_from _ _ (of_two sf rm opcode rn rd allowed) refl
sound (OneSource sf opcode rn rd) allowed = refl
sound (ThreeSources sf which rm o0 ra rn rd) allowed =
    either (which == 0) _ _ refl
    (either ((which == 1) || (which == 5)) (op.Read false ra ∷ product_to (binary.LongProduct (which == 1)) X (sum_of o0) rd)
    (op.Keep rd ∷ op.Binary (binary.HighProduct (which == 2)) X 0 1 ∷ op.Write false rd 2 ∷ []) refl refl)
sound (WithCarry sf sum s rm rn rd) allowed = either (s == 1) _ _ refl refl
sound (CondCompare sf sum rm cond i rn nzcv) allowed = second (i == 1) (op.Number rm) (op.Read false rm) refl refl
sound (CondSelect sf invert rm cond o2 rn rd) allowed = refl
sound (BBl links imm26) allowed = either (links == 0) _ _ refl refl
sound (BCond imm19 cond) allowed = refl
sound (CbzCbnz sf negated imm19 rt) allowed = refl
sound (TbzTbnz b5 negated b40 imm14 rt) allowed = and_from _ _ (bit_place b5 negated b40 imm14 rt allowed) refl
sound (BrBlrRet which rn) allowed = either (which == 1) _ _ refl refl
sound (SvcBrk which imm16) allowed = either (which == 0) _ _ refl refl
sound (Udf imm16) allowed = refl
sound (Hint number) allowed = refl
sound (Literal opc imm19 rt) allowed = and_from _ _ (literal_size (opc == 1)) refl
sound (Scaled size opc imm12 rn rt) allowed = sound_access size opc rt 1 2 (scaled_size size opc imm12 rn rt allowed)
sound (UnscaledPostPre size opc imm9 idx rn rt) allowed =
    let small = unscaled_size size opc imm9 idx rn rt allowed in
    either (idx == 0) _ _ (sound_access size opc rt 2 3 small) (behind (access size opc rt (cond (idx == 1) 0 2) 3) (op.Write true rn 2 ∷ []) (sound_access size opc rt (cond (idx == 1) 0 2) 3 small) refl)
sound (Register size opc rm option s rn rt) allowed =
    and_from _ _ (register_offset size opc rm option s rn rt allowed) (sound_access size opc rt 3 4 (register_size size opc rm option s rn rt allowed))
sound (Pair opc idx l imm7 rt2 rn rt) allowed =
    either (idx == 2) _ _ (sound_pair opc l rt rt2 2) (behind (pair_access opc l rt rt2 (cond (idx == 1) 0 2)) (op.Write true rn 2 ∷ []) (sound_pair opc l rt rt2 (cond (idx == 1) 0 2)) refl)
