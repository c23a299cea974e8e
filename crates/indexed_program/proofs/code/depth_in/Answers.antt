use Rattle.std.proofs.Common.{arith}
use Rattle.indexed_program.proofs.code.depth_in.Goals as goal

pub returns-clause-value : goal.returns-clause-value
returns-clause-value c =
    let o = c.args.at.now.offset in
    omega (arith, c.count_below-before.ensures.value, c.requires.below o)
