use Rattle.std.proofs.Common.{◌≡◌, [], sym, subst, ◌∙◌}
use Rattle.std.proofs.lemmas.List.{append-nil}
use Rattle.std.proofs.lemmas.Result.{err_from_is_err_and}
use Rattle.gt_model.specs.Schema.{ir_rows}
use Rattle.gt_read.specs.Drafts.Answers.{Steps, Folds, IsFirst}
use Rattle.gt_read.specs.Drafts.Views.{ir_draft}
use Rattle.gt_read.specs.Faults.{faults}
use Rattle.gt_read.specs.Pieces.{pieces}
use Rattle.gt_read.proofs.Feedings.{fault_comes, other_version_ends, bad_id_ends, good_ends}
use Rattle.gt_read.proofs.feeding_drafts.BodyDraft.finish.Goals as goal

pub returns-in_err-merge-clause-err : goal.returns-in_err-merge-clause-err
returns-in_err-merge-clause-err c =
    let p = err_from_is_err_and c.from_residual.result c.from_residual.ensures.1 in
    let h = subst (λ b. IsFirst (faults ir_rows b c.args.self.place) c.in_err-merge.field-0.0) (c.as_slice.ensures ∙ sym (append-nil c.args.self.pending)) c.in_err-merge.ensures in
    rw (p.1, p.2) (fault_comes c.args.self.version (ir_draft c.args.self.draft) c.args.self.place _ c.in_err-merge.field-0.0 h)

pub returns-then-from-draft-clause-err : goal.returns-then-from-draft-clause-err
returns-then-from-draft-clause-err c =
    let folded = subst (λ b. Folds (Steps ir_rows ir_draft) c.args.self.draft (pieces b c.args.self.place) c.merge.new.draft) c.as_slice.ensures c.in_ok-merge.ensures.0 in
    let sound = subst (λ b. faults ir_rows b c.args.self.place ≡ []) c.as_slice.ensures c.in_ok-merge.ensures.1 in
    other_version_ends c.args.self.version c.args.self.place c.args.self.pending c.args.self.draft c.merge.new.draft folded sound (λ e. c.if-from-draft.true (c.from.ensures ∙ e))

pub returns-in-Some-clause-err : goal.returns-in-Some-clause-err
returns-in-Some-clause-err c =
    let folded = subst (λ b. Folds (Steps ir_rows ir_draft) c.args.self.draft (pieces b c.args.self.place) c.merge.new.draft) c.as_slice.ensures c.in_ok-merge.ensures.0 in
    let sound = subst (λ b. faults ir_rows b c.args.self.place ≡ []) c.as_slice.ensures c.in_ok-merge.ensures.1 in
    bad_id_ends c.args.self.version c.args.self.place c.args.self.pending c.args.self.draft c.merge.new.draft folded sound (sym c.from.ensures ∙ c.if-from-draft.false)
    c.in_ok-ir.ir c.in_ok-ir.fault c.in_ok-ir.ensures c.in-Some.fault c.in-Some.is

pub returns-clause-ok : goal.returns-clause-ok
returns-clause-ok c =
    let folded = subst (λ b. Folds (Steps ir_rows ir_draft) c.args.self.draft (pieces b c.args.self.place) c.merge.new.draft) c.as_slice.ensures c.in_ok-merge.ensures.0 in
    let sound = subst (λ b. faults ir_rows b c.args.self.place ≡ []) c.as_slice.ensures c.in_ok-merge.ensures.1 in
    good_ends c.args.self.version c.args.self.place c.args.self.pending c.args.self.draft c.merge.new.draft folded sound (sym c.from.ensures ∙ c.if-from-draft.false)
    c.in_ok-ir.ir c.in_ok-ir.fault c.in_ok-ir.ensures c.in-None.is
