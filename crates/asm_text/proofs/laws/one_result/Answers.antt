use Rattle.asm_text.proofs.Given.{one_given}
use Rattle.asm_text.proofs.laws.one_result.Goals as goal

pub returns : goal.returns
returns c = one_given c.one_asm_saying.ensures c.said_or_faulty.ensures c.one_asm_fault.ensures
