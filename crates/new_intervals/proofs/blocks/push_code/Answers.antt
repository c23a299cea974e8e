use Rattle.std.proofs.Common.{sym, subst, ◌∙◌}
use Rattle.std.specs.List.{AllByRecursion}
use Rattle.new_intervals.specs.Blocks.{EndsAt}
use Rattle.new_intervals.proofs.Parts.{parts_end}
use Rattle.new_intervals.proofs.blocks.push_code.Goals as goal

pub push_parts-requires : goal.push_parts-requires
push_parts-requires c =
    let b = c.args.code.now in
    subst (AllByRecursion (EndsAt c.args.at)) (sym (c.as_slice.ensures ∙ c.in_ok-cut.ensures)) (parts_end c.args.at b (c.parts_have_all_words.ensures b) c.requires)
