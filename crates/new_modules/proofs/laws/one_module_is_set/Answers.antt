use Rattle.new_modules.proofs.OneModule.{module_set, placed}
use Rattle.new_modules.proofs.laws.one_module_is_set.Goals as goal

pub returns-clause-set : goal.returns-clause-set
returns-clause-set c = module_set

pub returns-clause-place : goal.returns-clause-place
returns-clause-place c = placed
