use Rattle.std.proofs.Common.{ℕ, List, subst}
use Rattle.std.specs.HashMap.{get_by_text}
use Rattle.std.specs.Option.{is_some}
use Rattle.patch_lines.specs.Answers.{Gives}
use Rattle.patch_lines.proofs.Outcomes.{as_outcome, first_refuses}
use Rattle.patch_lines.proofs.outcome.build_table.Goals as goal

pub returns-in-Ok : goal.returns-in-Ok
returns-in-Ok c =
    subst (Gives c.build_with.result) (as_outcome c.args.index.now.module (λ (q : List ℕ). is_some (get_by_text c.in-Ok.names q)) c.args.lines.now c.in-Ok.ensures.fault c.in-Ok.ensures.names) c.build_with.ensures

pub returns-in-Err : goal.returns-in-Err
returns-in-Err c = first_refuses c.args.index.now.module c.args.lines.now c.in-Err.end c.in-Err.ensures.fault
