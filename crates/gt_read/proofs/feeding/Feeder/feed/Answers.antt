use Rattle.std.proofs.Common.{◌++◌, ◌∙◌, ap, arith}
use Rattle.gt_read.specs.declared.feeding_drafts.Stage.{Stage}
use Rattle.gt_read.specs.Feeding.{stage_as}
use Rattle.gt_read.proofs.GoodPieces.{are_bytes}
use Rattle.gt_read.proofs.feeding.Feeder.feed.Goals as goal

pub returns-in-Ok-clause-ok : goal.returns-in-Ok-clause-ok
returns-in-Ok-clause-ok c = record {
  same = λ rest. c.in-Ok.ensures.ok rest ∙ ap (λ (s : Stage). stage_as s (c.args.piece.now ++ rest)) c.replace-stage.ensures.value;
  bytes = are_bytes c.args.piece.now (λ i. omega (arith, c.type_inv.piece i));
}
