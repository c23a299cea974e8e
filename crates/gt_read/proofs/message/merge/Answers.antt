use Rattle.std.proofs.Common.{◌≡◌, refl, []}
use Rattle.std.proofs.lemmas.Result.{err_from_is_err_and}
use Rattle.pb_wire.specs.Records.{Takes, RunLies}
use Rattle.gt_read.proofs.Walks.{OneRecord}
use Rattle.gt_read.proofs.Merging.{merged, broke, refused, merging_next, found}
use Rattle.gt_read.proofs.message.merge.Goals as goal

pub returns-in-Ok-None : goal.returns-in-Ok-None
returns-in-Ok-None g c =
    let e : c.records.cursor.bytes ≡ [] = c.next.ensures.none.0 (rw (c.in-Ok-None.is, c.in-Ok-None.field-0-is) refl) in
    merged g.M.Message.steps g.M.Message.faults c.args.bytes.now c.args.base c.args.draft.now c.records.cursor c.records.draft c.records.invariant e

pub records-preserved : goal.records-preserved
records-preserved g c =
    let one : OneRecord = record { found = c.records_are_read.ensures.found; refused = c.records_are_read.ensures.refused; some = c.records_are_read.ensures.some } in
    let r = c.in-Ok-Some.record in
    let t = found (λ r. Takes r c.records.cursor c.next.new.self) c.in-Ok-Some.field-0 r c.in-Ok-Some.field-0-is c.in-Ok-Some.ensures.takes in
    let l = found (λ r. RunLies r.load c.records.cursor c.next.new.self) c.in-Ok-Some.field-0 r c.in-Ok-Some.field-0-is c.in-Ok-Some.ensures.run in
    let s = rw c.carry.ensures at c.in_ok-take-in-Ok-Some.ensures in
    merging_next one g.M.Message.steps g.M.Message.faults c.args.bytes.now c.args.base c.args.draft.now c.records.cursor c.next.new.self c.records.draft c.take.new.self r c.records.invariant t l c.next.ensures.together s.0 s.1

pub returns-in_err-take-in-Ok-Some : goal.returns-in_err-take-in-Ok-Some
returns-in_err-take-in-Ok-Some g c =
    let one : OneRecord = record { found = c.records_are_read.ensures.found; refused = c.records_are_read.ensures.refused; some = c.records_are_read.ensures.some } in
    let r = c.in-Ok-Some.record in
    let t = found (λ r. Takes r c.records.cursor c.next.new.self) c.in-Ok-Some.field-0 r c.in-Ok-Some.field-0-is c.in-Ok-Some.ensures.takes in
    let l = found (λ r. RunLies r.load c.records.cursor c.next.new.self) c.in-Ok-Some.field-0 r c.in-Ok-Some.field-0-is c.in-Ok-Some.ensures.run in
    let p = err_from_is_err_and c.from_residual.result c.from_residual.ensures.1 in
    let h = rw c.carry.ensures at c.in_err-take-in-Ok-Some.ensures in
    rw (p.1, p.2) (refused one g.M.Message.steps g.M.Message.faults c.args.bytes.now c.args.base c.args.draft.now c.records.cursor c.next.new.self c.records.draft r c.in_err-take-in-Ok-Some.field-0.0 c.records.invariant t l h)

pub returns-in-Err : goal.returns-in-Err
returns-in-Err g c =
    let one : OneRecord = record { found = c.records_are_read.ensures.found; refused = c.records_are_read.ensures.refused; some = c.records_are_read.ensures.some } in
    broke one g.M.Message.steps g.M.Message.faults c.args.bytes.now c.args.base c.args.draft.now c.records.cursor c.records.draft c.in-Err.fault c.records.invariant c.in-Err.ensures.err c.in-Err.ensures.here
