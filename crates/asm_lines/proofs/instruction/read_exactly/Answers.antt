use Rattle.std.proofs.Common.{refl}
use Rattle.std.proofs.lemmas.Result.{err_from_is_err_and}
use Rattle.a64_forms.specs.Spelling.{held}
use Rattle.asm_lines.proofs.Sayings.{instruction_only, instruction_refused, no_instruction}
use Rattle.asm_lines.proofs.instruction.read_exactly.Goals as goal

pub returns-in-None-clause-only : goal.returns-in-None-clause-only
returns-in-None-clause-only c = λ item is. absurd (no_instruction c.args.texts.now c.in-None.ensures.none item is)

pub returns-in_err-target-in-Some-clause-only : goal.returns-in_err-target-in-Some-clause-only
returns-in_err-target-in-Some-clause-only c =
    let p = err_from_is_err_and c.from_residual.result c.from_residual.ensures.1 in
    rw (p.1, p.2) (instruction_refused c.one_form.ensures c.args.texts.now (held c.in-Some.share) c.in-Some.ensures.some c.in_err-target-in-Some.field-0.0 c.in_err-target-in-Some.ensures.only)

pub returns-in_ok-target-in-Some-clause-found : goal.returns-in_ok-target-in-Some-clause-found
returns-in_ok-target-in-Some-clause-found c = (held c.in-Some.share, c.in-Some.ensures.some, refl, c.in_ok-target-in-Some.ensures.found)

pub returns-in_ok-target-in-Some-clause-only : goal.returns-in_ok-target-in-Some-clause-only
returns-in_ok-target-in-Some-clause-only c = instruction_only c.one_form.ensures c.args.texts.now (held c.in-Some.share) c.in-Some.ensures.some c.in_ok-target-in-Some.target c.in_ok-target-in-Some.ensures.only
