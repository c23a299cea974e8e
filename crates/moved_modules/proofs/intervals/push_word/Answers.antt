use Rattle.std.proofs.Common.{◌^◌, subst, rules}
use Rattle.block_parts.specs.declared.words.Origin.TheVariants.{Own}
use Rattle.moved_modules.specs.Near.{IsBefore}
use Rattle.moved_modules.proofs.intervals.push_word.Goals as goal

pub overflow_add-old : goal.overflow_add-old
overflow_add-old c =
    let before : IsBefore (2 ^ 62) (Own c.in-Own.offset) = subst (IsBefore (2 ^ 62)) c.in-Own.is c.requires.near in
    search rules
