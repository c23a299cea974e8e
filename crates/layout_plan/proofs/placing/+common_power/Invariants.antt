use Rattle.layout_plan.proofs.placing.+common_power.Given as goal

abbrev pub decreases-common_power : goal.decreases-common_power
decreases-common_power l = l.most
