use Rattle.gt_read.proofs.Outcomes.{wrong_comes}
use Rattle.gt_read.proofs.feeding.begin_prefix.Goals as goal

pub returns-then-missing-bytes-clause-err : goal.returns-then-missing-bytes-clause-err
returns-then-missing-bytes-clause-err c = λ rest. wrong_comes c.args.bytes.now rest c.args.missing c.requires c.if-missing-bytes.true
