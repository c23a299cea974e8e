use Rattle.std.proofs.Common.{rules}
use Rattle.module_program.proofs.Steps.{bytes_more}
use Rattle.module_program.proofs.bytes.bytes_at.Goals as goal

pub loop-k-preserved : goal.loop-k-preserved
loop-k-preserved c = rw (bytes_more c.args.interval.now c.args.at c.loop-k.k) (search rules)
