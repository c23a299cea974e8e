use Rattle.std.proofs.Common.{subst, sym, ◌∙◌}
use Rattle.asm_lines.specs.Lines.{IsFault}
use Rattle.patch_table.proofs.Sayings.{number_is, other_fault, unfit_ok}
use Rattle.patch_table.proofs.asm.read_faulty.Goals as goal

pub read_unfit-requires-clause-fault : goal.read_unfit-requires-clause-fault
read_unfit-requires-clause-fault c = subst (IsFault c.args.line.now) (number_is c.args.reason (sym c.is_number.ensures ∙ c.if-is_number.true)) c.requires.fault

pub returns-then-is_number-clause-says : goal.returns-then-is_number-clause-says
returns-then-is_number-clause-says c =
    unfit_ok c.args.line.now c.read_unfit.result (subst (IsFault c.args.line.now) (number_is c.args.reason (sym c.is_number.ensures ∙ c.if-is_number.true)) c.requires.fault) c.read_unfit.ensures.says

pub returns-clause-says : goal.returns-clause-says
returns-clause-says c = other_fault c.args.line.now c.args.reason c.requires.fault (sym c.is_number.ensures ∙ c.if-is_number.false)
