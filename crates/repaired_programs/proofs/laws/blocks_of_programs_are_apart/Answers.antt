use Rattle.repaired_programs.proofs.Blocks.{apart_blocks}
use Rattle.repaired_programs.proofs.laws.blocks_of_programs_are_apart.Goals as goal

pub returns : goal.returns
returns c = λ m t apart. apart_blocks m t apart
