use Rattle.std.proofs.Common.{refl, [], Some}
use Rattle.command_words.specs.Picked.{picked_view}
use Rattle.gt_front.proofs.Endings.{unread}
use Rattle.gt_front.proofs.Serving.{served_as, serves_refused, serves_done, serves_fault, serves_short}
use Rattle.gt_front.proofs.serve.serve_picked.Goals as goal

pub returns-in-Err : goal.returns-in-Err
returns-in-Err g c =
    served_as _ _ _ _ _ c.unread.ensures (unread (Some (picked_view c.args.asked.now)) [] _ _ c.in-Err.unread refl refl refl refl c.in-Err.ensures.files c.in-Err.ensures.unread)

pub returns-in-Err-Fault : goal.returns-in-Err-Fault
returns-in-Err-Fault g c =
    let stage = rw c.in-Err-Fault.field-0-is at c.in-Err-Fault.ensures.stage in
    served_as _ _ _ _ _ c.refused.ensures
    (serves_refused (picked_view c.args.asked.now) _ c.in-Ok.contents c.in-Ok.ensures.readable c.in-Ok.ensures.contents c.one_outcome.ensures _ stage c.in-Ok.ensures.files)

pub returns-in-Ok-write_output : goal.returns-in-Ok-write_output
returns-in-Ok-write_output g c =
    serves_done (picked_view c.args.asked.now) _ c.in-Ok.contents c.in-Ok.ensures.readable c.in-Ok.ensures.contents c.one_outcome.ensures
    _ _ _ c.in-Ok.ensures.files c.in-Ok.ensures.steady c.in-Ok.ensures.write_later _ c.in-Ok-make.ensures.stage _ c.out.ensures _ c.in-Ok-make.ensures.promises c.in-Ok-write_output.ensures

pub returns-in-Err-Fault-write_output : goal.returns-in-Err-Fault-write_output
returns-in-Err-Fault-write_output g c =
    let w = rw c.in-Err-Fault-write_output.field-0-is at c.in-Err-Fault-write_output.ensures in
    serves_fault (picked_view c.args.asked.now) _ c.in-Ok.contents c.in-Ok.ensures.readable c.in-Ok.ensures.contents c.one_outcome.ensures
    _ _ _ c.in-Ok.ensures.files c.in-Ok.ensures.steady c.in-Ok.ensures.write_later _ c.in-Ok-make.ensures.stage _ c.out.ensures _ w

pub returns : goal.returns
returns g c =
    let w = rw c.in-Err-Memory-write_output.field-0-is at c.in-Err-Memory-write_output.ensures in
    serves_short (picked_view c.args.asked.now) _ c.in-Ok.contents c.in-Ok.ensures.readable c.in-Ok.ensures.contents c.one_outcome.ensures
    _ _ _ c.in-Ok.ensures.files c.in-Ok.ensures.steady c.in-Ok.ensures.write_later _ c.in-Ok-make.ensures.stage _ c.out.ensures w
