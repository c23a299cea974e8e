use Rattle.num_run.specs.Runner.{machine}
use Rattle.num_run.proofs.Sums.{sum_extended}
use Rattle.num_run.proofs.runner.Runner.add_sub_extended.Goals as goal

pub returns-clause-machine : goal.returns-clause-machine
returns-clause-machine c =
    rw (c.put_sum.ensures.machine, c.extended_operand-b.ensures, c.register.ensures, c.register-2.ensures, c.sum_of.ensures, c.width-width.ensures)
    (sum_extended c.args.sf c.args.op c.args.s c.args.rm c.args.option c.args.imm3 c.args.rn c.args.rd (machine c.args.self.now))
