use Rattle.sym_step.proofs.runner.Runner.change_tested_flags.Goals as goal

pub returns-in-FlagsIf-clause-flows : goal.returns-in-FlagsIf-clause-flows
returns-in-FlagsIf-clause-flows c = λ g go.
    rw (c.in-FlagsIf.is, ← c.value_at-in-FlagsIf.ensures, ← c.value_at-in-FlagsIf-2.ensures, ← c.value_at-in-FlagsIf-3.ensures) (c.put_flags_if.ensures.flows c.args.values.now go)
