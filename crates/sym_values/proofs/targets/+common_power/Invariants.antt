use Rattle.sym_values.proofs.targets.+common_power.Given as goal

abbrev pub decreases-common_power : goal.decreases-common_power
decreases-common_power l = l.most
