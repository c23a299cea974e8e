use Rattle.num_run.specs.Runner.{machine}
use Rattle.num_run.proofs.Sums.{sum_imm}
use Rattle.num_run.proofs.runner.Runner.add_sub_imm.Goals as goal

pub returns-clause-machine : goal.returns-clause-machine
returns-clause-machine c =
    rw (c.put_sum.ensures.machine, c.immediate-b.ensures, c.register.ensures, c.sum_of.ensures, c.width.ensures)
    (sum_imm c.args.sf c.args.op c.args.s c.args.sh c.args.imm12 c.args.rn c.args.rd (machine c.args.self.now))
