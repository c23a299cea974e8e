use Rattle.layout_plan.proofs.Sayings as sayings
use Rattle.layout_plan.proofs.laws.one_layout_or_fault.Goals as goal

pub returns-clause-layout : goal.returns-clause-layout
returns-clause-layout c = sayings.one_layout c.one_saying.ensures

pub returns-clause-fault : goal.returns-clause-fault
returns-clause-fault c = sayings.one_fault

pub returns-clause-apart : goal.returns-clause-apart
returns-clause-apart c = sayings.apart c.one_saying.ensures
