use Rattle.std.proofs.Common.{◌∙◌, ap}
use Rattle.std.specs.Option.{option_or}
use Rattle.asm_build.proofs.Seeing.{see_more}
use Rattle.asm_build.proofs.first.see.Goals as goal

pub returns : goal.returns
returns c = λ before sees none.
    see_more c.args.seen _ before c.args.line.now sees none c.in_ok-place.ensures c.in_ok-keep_id.ensures c.in_ok-keep_label.ensures
    (c.or-entry.ensures ∙ ap (option_or c.args.seen.entry) c.entry_at.ensures)
