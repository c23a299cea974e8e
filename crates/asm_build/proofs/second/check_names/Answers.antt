use Rattle.std.proofs.Common.{◌∙◌, sym, arith}
use Rattle.asm_build.specs.Kept.{has_label}
use Rattle.asm_build.proofs.Naming.{named_next}
use Rattle.asm_build.proofs.second.check_names.Goals as goal

pub loop-line-preserved : goal.loop-line-preserved
loop-line-preserved c = record {
  named = named_next (has_label c.args.labels.now) c.args.lines.now c.loop-line.line-index c.line-item.result c.loop-line-test.true c.line-item.is c.loop-line.invariant.named (sym c.line_kept.ensures ∙ c.if-not-line_kept.false);
  number = omega arith;
}
