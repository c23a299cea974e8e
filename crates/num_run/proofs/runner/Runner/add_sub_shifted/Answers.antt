use Rattle.num_run.specs.Runner.{machine}
use Rattle.num_run.proofs.Sums.{sum_shifted}
use Rattle.num_run.proofs.runner.Runner.add_sub_shifted.Goals as goal

pub returns-clause-machine : goal.returns-clause-machine
returns-clause-machine c =
    rw (c.keep_sum.ensures.machine, c.operand-b.ensures, c.register.ensures, c.register-2.ensures, c.sum_of.ensures, c.width-width.ensures)
    (sum_shifted c.args.sf c.args.op c.args.s c.args.shift c.args.rm c.args.imm6 c.args.rn c.args.rd (machine c.args.self.now))
