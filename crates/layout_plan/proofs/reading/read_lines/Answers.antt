use Rattle.std.proofs.Common.{◌∙◌, ◌+◌, refl, sym, arith}
use Rattle.std.proofs.lemmas.Result.{err_from_is_err_and}
use Rattle.layout_plan.specs.Text.{lines_of}
use Rattle.layout_plan.proofs.ReadingSteps.{one_more, bad_line_fault, second_stack_fault, all_read, no_stack_read}
use Rattle.layout_plan.proofs.reading.read_lines.Goals as goal

pub loop-rest-preserved : goal.loop-rest-preserved
loop-rest-preserved c = record {
  so_far = one_more (lines_of c.args.text.now) c.loop-rest.number c.loop-rest.places c.loop-rest.stack c.loop-rest.rest.now c.split_line.result.0.now c.split_line.result.1.now c.loop-rest.invariant.so_far c.split_line.ensures.line
      c.in_ok-said.said _ _ c.in_ok-said.ensures.says c.in_ok-take_line.ensures.places c.in_ok-take_line.ensures.stack;
  counted = omega (arith, c.loop-rest.invariant.counted, c.split_line.ensures.shorter);
}

pub returns-in_err-said-clause-fault : goal.returns-in_err-said-clause-fault
returns-in_err-said-clause-fault c =
    let p = err_from_is_err_and c.from_residual.result c.from_residual.ensures.1 in
    rw (p.1, p.2) (bad_line_fault (lines_of c.args.text.now) c.loop-rest.number c.loop-rest.places c.loop-rest.stack c.loop-rest.rest.now c.split_line.result.0.now c.split_line.result.1.now c.loop-rest.invariant.so_far c.split_line.ensures.line
    c.args.text.now refl c.in_err-said.field-0.0 c.in_err-said.ensures.fault)

pub returns-in_err-take_line-clause-fault : goal.returns-in_err-take_line-clause-fault
returns-in_err-take_line-clause-fault c =
    let p = err_from_is_err_and c.from_residual-in_err-take_line.result c.from_residual-in_err-take_line.ensures.1 in
    rw (p.1, p.2) (second_stack_fault (lines_of c.args.text.now) c.loop-rest.number c.loop-rest.places c.loop-rest.stack c.loop-rest.rest.now c.split_line.result.0.now c.split_line.result.1.now c.loop-rest.invariant.so_far c.split_line.ensures.line
    c.one_saying.ensures c.in_ok-said.said c.in_ok-said.ensures.says c.args.text.now refl c.in_err-take_line.field-0.0 c.in_err-take_line.ensures.fault)

pub returns-in-Some-clause-found : goal.returns-in-Some-clause-found
returns-in-Some-clause-found c =
    all_read c.args.text.now c.loop-rest.number c.loop-rest.places c.loop-rest.stack c.loop-rest.rest.now c.loop-rest.invariant.so_far (sym c.is_empty.ensures ∙ c.loop-rest-test.false) c.in-Some.stack c.in-Some.is

pub returns-in-None-clause-fault : goal.returns-in-None-clause-fault
returns-in-None-clause-fault c =
    (c.loop-rest.number + 1, refl, no_stack_read c.args.text.now c.loop-rest.number c.loop-rest.places c.loop-rest.stack c.loop-rest.rest.now c.loop-rest.invariant.so_far (sym c.is_empty.ensures ∙ c.loop-rest-test.false) c.in-None.is)
