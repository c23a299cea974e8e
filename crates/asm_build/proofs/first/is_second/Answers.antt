use Rattle.std.proofs.Common.{◌∙◌, sym, ap, is_some}
use Rattle.asm_lines.specs.declared.line.AsmLine.{AsmLine}
use Rattle.asm_modules.specs.Faults.{is_second}
use Rattle.asm_build.specs.Kept.{has_id}
use Rattle.asm_build.proofs.first.is_second.Goals as goal

pub returns-in-Interval : goal.returns-in-Interval
returns-in-Interval c =
    c.contains_key.ensures ∙ ap (λ (l : AsmLine). is_second (has_id c.args.seen.now.ids) (is_some c.args.seen.now.entry) l) (sym c.in-Interval.is)
