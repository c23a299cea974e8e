-- Instructions whose operand is given by an expression: the field that an expression fills, or the two of ADR and ADRP.
use Rattle.std.specs.Prelude.{ℕ, ◌+◌, ◌/◌, ◌%◌}
use Rattle.a64_inst.specs.declared.inst.Inst.{Inst}
use Rattle.a64_inst.specs.declared.inst.Inst.TheVariants.{AdrAdrp, AddSubImm, BBl, BCond, CbzCbnz, TbzTbnz, Literal, Scaled}
use Rattle.a64_inst.specs.declared.kind.Kind.{Kind}
use Rattle.a64_inst.specs.Kinds.{operand}

-- how many bits the operand has
abbrev pub operand_bits : Kind → ℕ
operand_bits kind = (operand kind).low.width + (operand kind).high.width

-- the instruction with a number as its operand; other instructions have none
abbrev pub with_number : ℕ → Inst → Inst
with_number n (AdrAdrp op lo hi rd) = AdrAdrp op (n % 4) (n / 4) rd
with_number n (AddSubImm sf op s sh imm12 rn rd) = AddSubImm sf op s sh n rn rd
with_number n (BBl op imm26) = BBl op n
with_number n (BCond imm19 cond) = BCond n cond
with_number n (CbzCbnz sf op imm19 rt) = CbzCbnz sf op n rt
with_number n (TbzTbnz b5 op b40 imm14 rt) = TbzTbnz b5 op b40 n rt
with_number n (Literal opc imm19 rt) = Literal opc n rt
with_number n (Scaled size opc imm12 rn rt) = Scaled size opc n rn rt
with_number n i = i
