use Rattle.repaired_programs.proofs.Rewritten.{blocks_at, parts_at}
use Rattle.repaired_programs.proofs.laws.blocks_keep_their_addresses.Goals as goal

pub returns-clause-blocks : goal.returns-clause-blocks
returns-clause-blocks c = λ ir m t p l h few ok free apart.
    blocks_at ir m t p l c.words_are_of_images.ensures c.whole_blocks_are_one_part.ensures c.words_are_counted.ensures h ok.typed (c.patched_programs_are_well_made.ensures ir m t p h few ok free) apart

pub returns-clause-parts : goal.returns-clause-parts
returns-clause-parts c = λ ir m t p l h few ok free apart.
    parts_at ir m t p l c.words_are_of_images.ensures c.whole_blocks_are_one_part.ensures c.words_are_counted.ensures h ok.typed (c.patched_programs_are_well_made.ensures ir m t p h few ok free) apart
