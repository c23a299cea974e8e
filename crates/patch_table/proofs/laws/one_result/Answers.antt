use Rattle.patch_table.proofs.Results.{one_given}
use Rattle.patch_table.proofs.laws.one_result.Goals as goal

pub returns : goal.returns
returns c = one_given c.one_split.ensures c.one_label.ensures c.one_number.ensures c.one_saying.ensures c.said_without_fault.ensures c.one_fault.ensures c.one_form.ensures
