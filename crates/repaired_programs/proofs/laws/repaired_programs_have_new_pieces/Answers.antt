use Rattle.repaired_programs.proofs.Rewritten.{program_new}
use Rattle.repaired_programs.proofs.laws.repaired_programs_have_new_pieces.Goals as goal

pub returns : goal.returns
returns c = λ ir m t p h few ok free. program_new ir m t p c.words_are_of_images.ensures c.whole_blocks_are_one_part.ensures c.words_are_counted.ensures h ok.typed (c.patched_programs_are_well_made.ensures ir m t p h few ok free)
