use Rattle.std.proofs.Common.{ap, Ok, ◌∙◌, arith}
use Rattle.pb_wire.specs.declared.fault.WireReason.TheVariants.{Truncated}
use Rattle.pb_wire.specs.Ahead.{Ahead}
use Rattle.pb_wire.specs.Faults.{Fails}
use Rattle.pb_wire.specs.Scanning.{IsBroken}
use Rattle.pb_wire.proofs.Steps.{Reads, reads_front, rest_long, takes_step, shorter_step, together_step, run_step, list_step, fault_step, broken_step, err_step, cut_step, not_nil}
use Rattle.pb_wire.proofs.cursor.Cursor.next.Goals as goal
use Rattle.pb_wire.proofs.cursor.Cursor.next.Goals.{In-Ok-Whole, In-Ok-Short, In-Err}

reads : (c : In-Ok-Whole) → Reads c.self.inside.left.now c.self.inside.place c.in-Ok-Whole.record c.in-Ok-Whole.size
reads c =
    reads_front c.self.inside.left.now c.self.inside.place c.in-Ok-Whole.record c.in-Ok-Whole.size
    ((c.scan.ensures.whole c.in-Ok-Whole.record c.in-Ok-Whole.size).0 (c.in-Ok-Whole.is ∙ ap Ok c.in-Ok-Whole.field-0-is))

cut : (c : In-Ok-Short) → Fails c.self.inside.left.now Truncated
cut c = c.scan.ensures.short.0 (c.in-Ok-Short.is ∙ ap Ok c.in-Ok-Short.field-0-is)

broken : (c : In-Err) → IsBroken c.self.inside.left.now c.self.inside.place c.in-Err.fault
broken c = (c.scan.ensures.fault c.in-Err.fault).0 c.in-Err.is

pub slice_bounds-self-count : goal.slice_bounds-self-count
slice_bounds-self-count c = (reads (goal.at.slice_bounds-self-count c).In-Ok-Whole).within

pub slice_bounds-self-start : goal.slice_bounds-self-start
slice_bounds-self-start c = (reads (goal.at.slice_bounds-self-start c).In-Ok-Whole).within

pub overflow_add-self : goal.overflow_add-self
overflow_add-self c =
    let within = (reads (goal.at.overflow_add-self c).In-Ok-Whole).within in
    let room = c.self.invariant in
    omega arith

pub invariant_of-self : goal.invariant_of-self
invariant_of-self c =
    let read = reads (goal.at.invariant_of-self c).In-Ok-Whole in
    let within = read.within in
    let long = rest_long c.self.inside.left.now c.self.inside.place c.in-Ok-Whole.record c.in-Ok-Whole.size read in
    let room = c.self.invariant in
    omega (arith, long)

pub returns-in-Ok-Whole-clause-takes : goal.returns-in-Ok-Whole-clause-takes
returns-in-Ok-Whole-clause-takes c =
    takes_step c.self.inside.left.now c.self.inside.place c.in-Ok-Whole.record c.in-Ok-Whole.size c.args.self.now c.self.view_is (reads (goal.at.returns-in-Ok-Whole-clause-takes c).In-Ok-Whole)

pub returns-in-Ok-Whole-clause-shorter : goal.returns-in-Ok-Whole-clause-shorter
returns-in-Ok-Whole-clause-shorter c =
    shorter_step c.self.inside.left.now c.self.inside.place c.in-Ok-Whole.record c.in-Ok-Whole.size c.args.self.now c.self.view_is (reads (goal.at.returns-in-Ok-Whole-clause-shorter c).In-Ok-Whole)

pub returns-in-Ok-Whole-clause-together : goal.returns-in-Ok-Whole-clause-together
returns-in-Ok-Whole-clause-together c =
    together_step c.self.inside.left.now c.self.inside.place c.in-Ok-Whole.record c.in-Ok-Whole.size c.args.self.now c.self.view_is (reads (goal.at.returns-in-Ok-Whole-clause-together c).In-Ok-Whole)

pub returns-in-Ok-Whole-clause-run : goal.returns-in-Ok-Whole-clause-run
returns-in-Ok-Whole-clause-run c =
    run_step c.self.inside.left.now c.self.inside.place c.in-Ok-Whole.record c.in-Ok-Whole.size c.args.self.now c.self.view_is (reads (goal.at.returns-in-Ok-Whole-clause-run c).In-Ok-Whole)

pub returns-in-Ok-Whole-clause-list : goal.returns-in-Ok-Whole-clause-list
returns-in-Ok-Whole-clause-list c =
    list_step c.self.inside.left.now c.self.inside.place c.in-Ok-Whole.record c.in-Ok-Whole.size c.args.self.now c.self.view_is (reads (goal.at.returns-in-Ok-Whole-clause-list c).In-Ok-Whole)

pub returns-in-Ok-Whole-clause-fault : goal.returns-in-Ok-Whole-clause-fault
returns-in-Ok-Whole-clause-fault c =
    fault_step c.self.inside.left.now c.self.inside.place c.in-Ok-Whole.record c.in-Ok-Whole.size c.args.self.now c.self.view_is (reads (goal.at.returns-in-Ok-Whole-clause-fault c).In-Ok-Whole)

pub returns-in-Ok-Short-clause-err : goal.returns-in-Ok-Short-clause-err
returns-in-Ok-Short-clause-err c =
    err_step c.self.inside.left.now c.self.inside.place Truncated c.args.self.now c.self.view_is (not_nil _ c.if-is_empty.ensures) (cut (goal.at.returns-in-Ok-Short-clause-err c).In-Ok-Short)

pub returns-in-Ok-Short-clause-no_list : goal.returns-in-Ok-Short-clause-no_list
returns-in-Ok-Short-clause-no_list c =
    cut_step c.self.inside.left.now c.self.inside.place Truncated c.args.self.now c.self.view_is (not_nil _ c.if-is_empty.ensures) (cut (goal.at.returns-in-Ok-Short-clause-no_list c).In-Ok-Short)

pub returns-in-Err-clause-err : goal.returns-in-Err-clause-err
returns-in-Err-clause-err c =
    broken_step c.self.inside.left.now c.self.inside.place c.args.self.now c.in-Err.fault c.self.view_is (not_nil _ c.if-is_empty.ensures) (broken (goal.at.returns-in-Err-clause-err c).In-Err)

pub returns-in-Err-clause-here : goal.returns-in-Err-clause-here
returns-in-Err-clause-here c =
    (broken (goal.at.returns-in-Err-clause-here c).In-Err).here ∙ ap (λ (a : Ahead). a.place) c.self.view_is

pub returns-in-Err-clause-no_list : goal.returns-in-Err-clause-no_list
returns-in-Err-clause-no_list c =
    cut_step c.self.inside.left.now c.self.inside.place c.in-Err.fault.reason c.args.self.now c.self.view_is (not_nil _ c.if-is_empty.ensures) (broken (goal.at.returns-in-Err-clause-no_list c).In-Err).fails
