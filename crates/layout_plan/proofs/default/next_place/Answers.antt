use Rattle.std.proofs.Common.{arith}
use Rattle.layout_plan.proofs.Defaults.{alignment_most}
use Rattle.layout_plan.proofs.default.next_place.Goals as goal

pub returns-in-None-clause-near : goal.returns-in-None-clause-near
returns-in-None-clause-near c = omega (arith, c.least_from-in-None.ensures.near, alignment_most c.args.spot.now.align c.requires.spot.align)
