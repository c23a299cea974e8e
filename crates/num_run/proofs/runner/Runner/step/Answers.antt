use Rattle.std.proofs.Common.{arith}
use Rattle.num_run.specs.Runner.{machine}
use Rattle.num_run.proofs.Decoding.{slot_row, step_is}
use Rattle.num_run.proofs.runner.Runner.step.Goals as goal

pub execute-requires-clause-inst : goal.execute-requires-clause-inst
execute-requires-clause-inst c =
    let found = c.in-Some-find.ensures in
    (c.read_is_word.ensures c.in-Some.word c.inst.result.now (omega arith) (slot_row c.find.new.self c.in-Some.word c.in-Some-find.index c.inst.result.now found.cache found.found c.inst.ensures)).0

pub returns-in-Some-find-clause-comes : goal.returns-in-Some-find-clause-comes
returns-in-Some-find-clause-comes c =
    let m = machine c.args.self.now in
    let found = c.in-Some-find.ensures in
    let is_row = slot_row c.find.new.self c.in-Some.word c.in-Some-find.index c.inst.result.now found.cache found.found c.inst.ensures in
    rw (step_is m c.in-Some.word c.inst.result.now c.if-self-ne0.false c.in-Some.ensures.word is_row) (rw c.in-Some.ensures.same at c.execute.ensures.comes)
