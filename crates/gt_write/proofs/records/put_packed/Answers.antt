use Rattle.std.proofs.Common.{get_or, length, pos, ap, rules, arith}
use Rattle.std.proofs.lemmas.Grind.{common_steps}
use mir.Syntax.{w32}
use mir.Val.{SFits}
use Rattle.gt_model.specs.Typed.{IsI32}
use Rattle.gt_write.proofs.Typing.{i32_fits, one_more}
use Rattle.gt_write.proofs.records.put_packed.Goals as goal

pub loop-value-preserved : goal.loop-value-preserved
loop-value-preserved c =
    let fits : SFits w32 (get_or c.args.values.now c.loop-value.value-index (pos 0)) = search rules in
    record {
      spelled = grind (arith, common_steps);
      typed = one_more IsI32 c.args.values.now c.loop-value.value-index (pos 0) (omega (arith, ap length c.as_slice-value-items.ensures)) c.loop-value.invariant.typed (i32_fits _ fits);
    }
