use Rattle.std.proofs.Common.{◌||◌, ◌∷◌, [], ◌∙◌, sym, ap}
use Rattle.asm_lines.specs.declared.line.AsmLine.{AsmLine}
use Rattle.asm_modules.specs.Faults.{is_id_in}
use Rattle.asm_build.specs.Kept.{has_id}
use Rattle.asm_build.proofs.Keeping.{id_added}
use Rattle.asm_build.proofs.first.keep_id.Goals as goal

pub returns-in_ok-insert-in-Interval : goal.returns-in_ok-insert-in-Interval
returns-in_ok-insert-in-Interval c = λ q.
    id_added c.args.ids.now c.insert.new.self c.in-Interval.uuid _ c.in_ok-insert-in-Interval.ensures.updates.0 q
    ∙ ap (λ (l : AsmLine). has_id c.args.ids.now q || is_id_in (l ∷ []) q) (sym c.in-Interval.is)
