use Rattle.module_program.proofs.Inserts.{count_put}
use Rattle.module_program.proofs.counts.add_count.Goals as goal

pub returns : goal.returns
returns c = count_put c.args.counts.now c.insert.new.self c.args.block c.args.offset c.args.words c.count_in-before.result c.count_in-before.ensures c.in_ok-insert.ensures.updates.0
