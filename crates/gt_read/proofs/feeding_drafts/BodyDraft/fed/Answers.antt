use Rattle.std.proofs.Common.{[], ◌++◌, drop, sym, ap, ◌∙◌}
use Rattle.std.proofs.lemmas.Result.{err_from_is_err_and}
use Rattle.gt_read.specs.Drafts.Views.{ir_draft}
use Rattle.gt_read.proofs.Early.{body_early}
use Rattle.gt_read.proofs.Feedings.{fed_comes, fed_ends}
use Rattle.gt_read.proofs.feeding_drafts.BodyDraft.fed.Goals as goal

pub returns-in_err-size-clause-err : goal.returns-in_err-size-clause-err
returns-in_err-size-clause-err c =
    let p = err_from_is_err_and c.from_residual-in_err-size.result c.from_residual-in_err-size.ensures.1 in
    rw (p.1, p.2) (fed_comes c.args.self.version (ir_draft c.args.self.draft) c.args.self.place c.as_slice.result.now c.args.self.pending c.args.piece.now c.in_err-size.field-0.0
    (c.as_slice.ensures ∙ c.in_ok-extend_from_slice.ensures.ok) c.in_err-size.ensures.err)

pub returns-clause-ok : goal.returns-clause-ok
returns-clause-ok c =
    fed_ends c.args.self.version c.args.self.place c.in_ok-size.size c.as_slice.result.now c.in_ok-pending.pending c.args.self.draft c.take_front.new.draft c.in_ok-size.ensures.ok
    (c.in_ok-pending.ensures ∙ ap (drop c.in_ok-size.size) (sym c.as_slice.ensures)) c.args.self.pending c.args.piece.now (c.as_slice.ensures ∙ c.in_ok-extend_from_slice.ensures.ok)

pub returns-in_err-size-clause-early : goal.returns-in_err-size-clause-early
returns-in_err-size-clause-early c =
    let p = err_from_is_err_and c.from_residual-in_err-size.result c.from_residual-in_err-size.ensures.1 in
    rw (p.1, p.2) (body_early (c.as_slice.result.now ++ []) c.args.self.place c.in_err-size.field-0.0 (c.in_err-size.ensures.err []))
