use Rattle.std.proofs.Common.{[], ◌++◌, ◌∙◌}
use Rattle.std.proofs.lemmas.List.{take_rest}
use Rattle.std.proofs.lemmas.Result.{err_from_is_err_and}
use Rattle.gt_model.specs.Schema.{ir_rows}
use Rattle.gt_read.specs.Drafts.Draft.{empty}
use Rattle.gt_read.proofs.Early.{body_early}
use Rattle.gt_read.proofs.Feedings.{fault_comes, begun_ends}
use Rattle.gt_read.proofs.feeding_drafts.BodyDraft.begin.Goals as goal

pub returns-in_err-size-clause-err : goal.returns-in_err-size-clause-err
returns-in_err-size-clause-err c =
    let p = err_from_is_err_and c.from_residual.result c.from_residual.ensures.1 in
    rw (p.1, p.2) (λ rest. fault_comes c.args.version (empty ir_rows 0) 8 (c.args.bytes.now ++ rest) c.in_err-size.field-0.0 (c.in_err-size.ensures.err rest))

pub returns-clause-ok : goal.returns-clause-ok
returns-clause-ok c =
    λ rest.
    begun_ends c.args.version 8 c.in_ok-size.size c.args.bytes.now c.in_ok-pending.pending c.start-draft.result c.take_front.new.draft c.in_ok-size.ensures.ok
    (c.in_ok-pending.ensures ∙ take_rest c.args.bytes.now c.in_ok-size.size) (empty ir_rows 0) c.start-draft.ensures rest

pub returns-in_err-size-clause-early : goal.returns-in_err-size-clause-early
returns-in_err-size-clause-early c =
    let p = err_from_is_err_and c.from_residual.result c.from_residual.ensures.1 in
    rw (p.1, p.2) (body_early (c.args.bytes.now ++ []) 8 c.in_err-size.field-0.0 (c.in_err-size.ensures.err []))
