use Rattle.std.proofs.lemmas.Result.{err_from_is_err_and}
use Rattle.gr_base.specs.declared.end.End.TheVariants as ends
use Rattle.asm_lines.proofs.Offsets.{moved}
use Rattle.asm_lines.proofs.Sayings.{target_found, target_none, target_none_only, target_only, target_reason, target_refused}
use Rattle.asm_lines.proofs.instruction.read_target.Goals as goal

pub returns-in-None-clause-found : goal.returns-in-None-clause-found
returns-in-None-clause-found c = target_none c.args.target c.in-None.is

pub returns-in-None-clause-only : goal.returns-in-None-clause-only
returns-in-None-clause-only c = λ e is. target_none_only c.args.target e c.in-None.is is

pub returns-in_err-named-in-Some-clause-only : goal.returns-in_err-named-in-Some-clause-only
returns-in_err-named-in-Some-clause-only c =
    let p = err_from_is_err_and c.from_residual.result c.from_residual.ensures.1 in
    rw (p.1, p.2) (target_refused c.args.target c.in-Some.target c.in-Some.is c.in_err-named-in-Some.field-0.0 c.in_err-named-in-Some.ensures.only)

pub returns-in_err-named-in-Some-clause-reason : goal.returns-in_err-named-in-Some-clause-reason
returns-in_err-named-in-Some-clause-reason c =
    let p = err_from_is_err_and c.from_residual.result c.from_residual.ensures.1 in
    rw (p.1, p.2) (λ reason e. target_reason c.args.target c.in-Some.target c.in-Some.is reason (c.in_err-named-in-Some.ensures.reason reason (moved c.in_err-named-in-Some.field-0.0 (ends.Fault reason) e)))

pub returns-in_ok-named-in-Some-clause-found : goal.returns-in_ok-named-in-Some-clause-found
returns-in_ok-named-in-Some-clause-found c = target_found c.args.target c.in-Some.target c.in-Some.is c.in_ok-named-in-Some.named c.in_ok-named-in-Some.ensures.found

pub returns-in_ok-named-in-Some-clause-only : goal.returns-in_ok-named-in-Some-clause-only
returns-in_ok-named-in-Some-clause-only c = target_only c.args.target c.in-Some.target c.in-Some.is c.in_ok-named-in-Some.named c.in_ok-named-in-Some.ensures.only
