use Rattle.std.proofs.Common.{not, ap, sym, ◌∙◌}
use Rattle.a64_inst.specs.Reserved.{is_reserved}
use Rattle.a64_inst.proofs.inst.Inst.is_reserved.Goals as goal

pub returns-in-AdrAdrp : goal.returns-in-AdrAdrp
returns-in-AdrAdrp c = ap is_reserved (sym c.in-AdrAdrp.is)

pub returns-in-AddSubImm : goal.returns-in-AddSubImm
returns-in-AddSubImm c = ap is_reserved (sym c.in-AddSubImm.is)

pub returns-in-AddSubShifted : goal.returns-in-AddSubShifted
returns-in-AddSubShifted c = c.is_no_shift.ensures ∙ ap is_reserved (sym c.in-AddSubShifted.is)

pub returns-in-AddSubExtended : goal.returns-in-AddSubExtended
returns-in-AddSubExtended c = ap is_reserved (sym c.in-AddSubExtended.is)

pub returns-in-LogicalShifted : goal.returns-in-LogicalShifted
returns-in-LogicalShifted c = c.is_past_32.ensures ∙ ap is_reserved (sym c.in-LogicalShifted.is)

pub returns-in-LogicalImm : goal.returns-in-LogicalImm
returns-in-LogicalImm c = c.is_no_mask.ensures ∙ ap is_reserved (sym c.in-LogicalImm.is)

pub returns-in-MoveWide : goal.returns-in-MoveWide
returns-in-MoveWide c = c.is_no_move.ensures ∙ ap is_reserved (sym c.in-MoveWide.is)

pub returns-in-Bitfield : goal.returns-in-Bitfield
returns-in-Bitfield c = c.is_no_bitfield.ensures ∙ ap is_reserved (sym c.in-Bitfield.is)

pub returns-in-Extr : goal.returns-in-Extr
returns-in-Extr c = c.is_no_extract.ensures ∙ ap is_reserved (sym c.in-Extr.is)

pub returns-in-TwoSources : goal.returns-in-TwoSources
returns-in-TwoSources c = c.is_not_of_two.ensures ∙ ap is_reserved (sym c.in-TwoSources.is)

pub returns-in-OneSource : goal.returns-in-OneSource
returns-in-OneSource c = c.is_not_of_one.ensures ∙ ap is_reserved (sym c.in-OneSource.is)

pub returns-in-ThreeSources : goal.returns-in-ThreeSources
returns-in-ThreeSources c = ap not c.is_product.ensures ∙ ap is_reserved (sym c.in-ThreeSources.is)

pub returns-in-WithCarry : goal.returns-in-WithCarry
returns-in-WithCarry c = ap is_reserved (sym c.in-WithCarry.is)

pub returns-in-CondCompare : goal.returns-in-CondCompare
returns-in-CondCompare c = ap is_reserved (sym c.in-CondCompare.is)

pub returns-in-CondSelect : goal.returns-in-CondSelect
returns-in-CondSelect c = ap is_reserved (sym c.in-CondSelect.is)

pub returns-in-BBl : goal.returns-in-BBl
returns-in-BBl c = ap is_reserved (sym c.in-BBl.is)

pub returns-in-BCond : goal.returns-in-BCond
returns-in-BCond c = ap is_reserved (sym c.in-BCond.is)

pub returns-in-CbzCbnz : goal.returns-in-CbzCbnz
returns-in-CbzCbnz c = ap is_reserved (sym c.in-CbzCbnz.is)

pub returns-in-TbzTbnz : goal.returns-in-TbzTbnz
returns-in-TbzTbnz c = ap is_reserved (sym c.in-TbzTbnz.is)

pub returns-in-BrBlrRet : goal.returns-in-BrBlrRet
returns-in-BrBlrRet c = ap is_reserved (sym c.in-BrBlrRet.is)

pub returns-in-SvcBrk : goal.returns-in-SvcBrk
returns-in-SvcBrk c = ap is_reserved (sym c.in-SvcBrk.is)

pub returns-in-Udf : goal.returns-in-Udf
returns-in-Udf c = ap is_reserved (sym c.in-Udf.is)

pub returns-in-Hint : goal.returns-in-Hint
returns-in-Hint c = ap is_reserved (sym c.in-Hint.is)

pub returns-in-Literal : goal.returns-in-Literal
returns-in-Literal c = ap is_reserved (sym c.in-Literal.is)

pub returns-in-Scaled : goal.returns-in-Scaled
returns-in-Scaled c = c.is_no_access.ensures ∙ ap is_reserved (sym c.in-Scaled.is)

pub returns-in-UnscaledPostPre : goal.returns-in-UnscaledPostPre
returns-in-UnscaledPostPre c = c.is_no_indexed.ensures ∙ ap is_reserved (sym c.in-UnscaledPostPre.is)

pub returns-in-Register : goal.returns-in-Register
returns-in-Register c = c.is_no_offset.ensures ∙ ap is_reserved (sym c.in-Register.is)

pub returns-in-Pair : goal.returns-in-Pair
returns-in-Pair c = c.is_no_pair.ensures ∙ ap is_reserved (sym c.in-Pair.is)
