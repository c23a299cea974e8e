use Rattle.num_run.specs.Access.{pair_accessed}
use Rattle.num_run.specs.Runner.{machine}
use Rattle.num_run.proofs.Accesses.{still_ends}
use Rattle.num_run.proofs.runner.Runner.pair_and_move.Goals as goal

pub returns-in_default : goal.returns-in_default
returns-in_default c =
    let m = machine c.args.self.now in
    let a = c.args in
    record {
      memory = c.pair_only-end.ensures.memory;
      comes = still_ends (pair_accessed a.opc a.l a.rt a.rt2 a.at m) a.rn a.base c.pair_only-end.result (machine c.pair_only-end.new.self) c.pair_only-end.ensures.comes c.in_default.not-Running;
    }
