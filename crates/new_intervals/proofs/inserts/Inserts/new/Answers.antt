use Rattle.std.proofs.Common.{ap, ◌∙◌}
use Rattle.new_intervals.specs.Inserting.{values_among}
use Rattle.new_intervals.proofs.Brought.{values_are}
use Rattle.new_intervals.proofs.inserts.Inserts.new.Goals as goal

pub returns-clause-known : goal.returns-clause-known
returns-clause-known c =
    let m = c.args.module.now in
    λ id. c.in_ok-values.ensures id ∙ ap (λ is. values_among m is id) c.as_slice-inserts.ensures ∙ values_are m c.args.patches.now id
