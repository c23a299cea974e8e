use Rattle.num_run.proofs.runner.Runner.execute.Goals as goal

pub returns-in-Literal-clause-comes : goal.returns-in-Literal-clause-comes
returns-in-Literal-clause-comes c = rw c.in-Literal.is c.literal.ensures.comes
