use Rattle.std.proofs.Common.{refl, ◌∙◌, arith}
use Rattle.command_words.specs.Picked.{picked_view}
use Rattle.gt_front.proofs.Telling.{same_both}
use Rattle.gt_front.proofs.Reading.{readable_next, holds_next, unread_next, if_err}
use Rattle.gt_front.proofs.inputs.read_inputs.Goals as goal

pub returns-in_err-found-clause-unread : goal.returns-in_err-found-clause-unread
returns-in_err-found-clause-unread g c =
    if_err _ _ _ c.from_residual.ensures.1
    (unread_next (picked_view c.args.asked.now) _ _ _ _ _ _ _ _ c.loop-role-test.true c.loop-role.invariant.files c.loop-role.invariant.steady
    c.loop-role.invariant.read_later refl c.loop-role.invariant.taken_later refl c.loop-role.invariant.readable c.in_err-found.ensures.unread)

pub loop-role-preserved : goal.loop-role-preserved
loop-role-preserved g c =
    let before = c.loop-role.invariant in
    let step = c.in_ok-found.ensures in
    record {
      files = same_both _ _ _ before.files step.files;
      steady = step.steady ∙ before.steady;
      read_later = omega arith;
      write_later = omega arith;
      taken_later = omega arith;
      readable = readable_next (picked_view c.args.asked.now) _ _ before.files _ c.loop-role-test.true before.readable step.readable;
      contents = holds_next (picked_view c.args.asked.now) _ _ before.files _ c.loop-role-test.true _ _ _ before.contents step.found c.put.ensures;
    }
