use Rattle.std.proofs.Common.{◌≡◌, ◌+◌, ◌-◌, ◌≤◌, ℕ, List, length, take, drop, Ok, ap, subst, ◌∙◌, arith, length-drop}
use Rattle.std.proofs.lemmas.List.{take_rest}
use Rattle.std.proofs.lemmas.Result.{err_from_is_err_and}
use Rattle.gt_read.proofs.Walks.{OneRecord}
use Rattle.gt_read.proofs.Fronts.{front_run, front_next, front_refused, front_broke, front_long}
use Rattle.gt_read.proofs.message.take_front.Goals as goal

pub carry-requires-clause-within : goal.carry-requires-clause-within
carry-requires-clause-within g c =
    let f = (c.scan.ensures.whole c.in-Ok-Whole.record c.in-Ok-Whole.size).0 (c.in-Ok-Whole.is ∙ ap Ok c.in-Ok-Whole.field-0-is) in
    front_run _ (c.args.base + c.records.at) c.in-Ok-Whole.record c.in-Ok-Whole.size f

pub overflow_add-at : goal.overflow_add-at
overflow_add-at g c =
    let f = (c.scan.ensures.whole c.in-Ok-Whole.record c.in-Ok-Whole.size).0 (c.in-Ok-Whole.is ∙ ap Ok c.in-Ok-Whole.field-0-is) in
    let within = f.within in
    let there = c.records.invariant.within in
    let room = c.requires in
    let left = ap length (take_rest c.args.bytes.now c.records.at) in
    omega (arith, length-drop c.records.at c.args.bytes.now)

pub records-smaller : goal.records-smaller
records-smaller g c =
    let one : OneRecord = record { found = c.records_are_read.ensures.found; refused = c.records_are_read.ensures.refused; some = c.records_are_read.ensures.some } in
    let f = (c.scan.ensures.whole c.in-Ok-Whole.record c.in-Ok-Whole.size).0 (c.in-Ok-Whole.is ∙ ap Ok c.in-Ok-Whole.field-0-is) in
    let long = front_long one _ (c.args.base + c.records.at) c.in-Ok-Whole.record c.in-Ok-Whole.size f in
    let within = f.within in
    let there = c.records.invariant.within in
    let left = ap length (take_rest c.args.bytes.now c.records.at) in
    omega (arith, length-drop c.records.at c.args.bytes.now)

pub records-preserved : goal.records-preserved
records-preserved g c =
    let one : OneRecord = record { found = c.records_are_read.ensures.found; refused = c.records_are_read.ensures.refused; some = c.records_are_read.ensures.some } in
    let f = (c.scan.ensures.whole c.in-Ok-Whole.record c.in-Ok-Whole.size).0 (c.in-Ok-Whole.is ∙ ap Ok c.in-Ok-Whole.field-0-is) in
    let s = rw c.carry.ensures at c.in_ok-take-in-Ok-Whole.ensures in
    front_next one g.M.Message.steps g.M.Message.faults c.args.bytes.now c.args.base c.args.draft.now c.records.at c.records.draft c.records.invariant
    _ (take_rest c.args.bytes.now c.records.at) c.in-Ok-Whole.record c.in-Ok-Whole.size f c.take.new.self s.0 s.1

pub returns-in_err-take-in-Ok-Whole-clause-err : goal.returns-in_err-take-in-Ok-Whole-clause-err
returns-in_err-take-in-Ok-Whole-clause-err g c =
    let one : OneRecord = record { found = c.records_are_read.ensures.found; refused = c.records_are_read.ensures.refused; some = c.records_are_read.ensures.some } in
    let f = (c.scan.ensures.whole c.in-Ok-Whole.record c.in-Ok-Whole.size).0 (c.in-Ok-Whole.is ∙ ap Ok c.in-Ok-Whole.field-0-is) in
    let p = err_from_is_err_and c.from_residual.result c.from_residual.ensures.1 in
    let h = rw c.carry.ensures at c.in_err-take-in-Ok-Whole.ensures in
    rw (p.1, p.2) (front_refused one g.M.Message.steps g.M.Message.faults c.args.bytes.now c.args.base c.args.draft.now c.records.at c.records.draft c.records.invariant
    _ (take_rest c.args.bytes.now c.records.at) c.in-Ok-Whole.record c.in-Ok-Whole.size f c.in_err-take-in-Ok-Whole.field-0.0 h)

pub returns-in-Err-clause-err : goal.returns-in-Err-clause-err
returns-in-Err-clause-err g c =
    let one : OneRecord = record { found = c.records_are_read.ensures.found; refused = c.records_are_read.ensures.refused; some = c.records_are_read.ensures.some } in
    let b = (c.scan.ensures.fault c.in-Err.fault).0 c.in-Err.is in
    front_broke one g.M.Message.steps g.M.Message.faults c.args.bytes.now c.args.base c.args.draft.now c.records.at c.records.draft c.records.invariant
    _ (take_rest c.args.bytes.now c.records.at) c.in-Err.fault b.here (c.in-Err.ensures.lasts)
