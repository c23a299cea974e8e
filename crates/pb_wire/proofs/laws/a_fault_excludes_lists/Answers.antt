use Rattle.pb_wire.proofs.Lists.{not_list_and_fault}
use Rattle.pb_wire.proofs.laws.a_fault_excludes_lists.Goals as goal

pub returns : goal.returns
returns c = not_list_and_fault
