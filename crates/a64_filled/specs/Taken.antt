-- Which instructions have an operand of a kind.
use Rattle.std.specs.Prelude.{◌≡◌, ◌^◌, true, false, ◌==◌, ◌&&◌}
use Rattle.a64_inst.specs.declared.inst.Inst.{Inst}
use Rattle.a64_inst.specs.declared.inst.Inst.TheVariants.{AdrAdrp, AddSubImm, BBl, BCond, CbzCbnz, TbzTbnz, Literal, Scaled}
use Rattle.a64_inst.specs.declared.kind.Kind.{Kind}
use Rattle.a64_inst.specs.declared.kind.Kind.TheVariants.{Rel26, Rel19, Rel14, Adr, Page, Low12}

-- the instruction's row has an operand of the kind
abbrev pub Takes : Kind → Inst → Type 0
Takes Rel26 (BBl links imm26) = Unit {0}
Takes Rel19 (BCond imm19 c) = Unit {0}
Takes Rel19 (CbzCbnz sf negated imm19 rt) = Unit {0}
Takes Rel19 (Literal opc imm19 rt) = Unit {0}
Takes Rel14 (TbzTbnz b5 negated b40 imm14 rt) = Unit {0}
Takes Adr (AdrAdrp which lo hi rd) = (which == 1) ≡ false
Takes Page (AdrAdrp which lo hi rd) = (which == 1) ≡ true
Takes (Low12 unit) (AddSubImm sf sum s sh imm12 rn rd) = (((sf == 1) && ((sum == 0) && ((s == 0) && (sh == 0)))) ≡ true) × (unit ≡ 1)
Takes (Low12 unit) (Scaled size opc imm12 rn rt) = unit ≡ 2 ^ size
Takes kind i = ⊥
