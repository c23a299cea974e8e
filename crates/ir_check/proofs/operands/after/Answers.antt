use Rattle.ir_check.specs.Along.{ends_by}
use Rattle.ir_check.proofs.Homes.{prefix_within}
use Rattle.ir_check.proofs.operands.after.Goals as goal

pub split_at-requires : goal.split_at-requires
split_at-requires c = rw c.count_ended.ensures (prefix_within (ends_by c.args.at) c.args.blocks.now)
