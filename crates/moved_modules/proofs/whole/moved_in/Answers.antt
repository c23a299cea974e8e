use Rattle.std.proofs.Common.{◌^◌}
use Rattle.moved_modules.proofs.Runs.{each_small}
use Rattle.moved_modules.proofs.whole.moved_in.Goals as goal

pub moved_intervals-requires : goal.moved_intervals-requires
moved_intervals-requires c = each_small (2 ^ 62) c.args.program.now.stretches c.requires.sizes
