use Rattle.repaired_programs.proofs.Rewritten.{ends_at, entry_at, starts_at}
use Rattle.repaired_programs.proofs.laws.points_keep_their_addresses.Goals as goal

pub returns-clause-entry : goal.returns-clause-entry
returns-clause-entry c = λ ir m t p l h few ok free apart.
    entry_at ir m t p l c.words_are_of_images.ensures c.whole_blocks_are_one_part.ensures c.words_are_counted.ensures h ok.typed (c.patched_programs_are_well_made.ensures ir m t p h few ok free) apart

pub returns-clause-starts : goal.returns-clause-starts
returns-clause-starts c = λ ir m t p l h few ok free apart.
    starts_at ir m t p l c.words_are_of_images.ensures c.whole_blocks_are_one_part.ensures c.words_are_counted.ensures h ok.typed (c.patched_programs_are_well_made.ensures ir m t p h few ok free) apart

pub returns-clause-ends : goal.returns-clause-ends
returns-clause-ends c = λ ir m t p l h few ok free apart.
    ends_at ir m t p l c.words_are_of_images.ensures c.whole_blocks_are_one_part.ensures c.words_are_counted.ensures h ok.typed (c.patched_programs_are_well_made.ensures ir m t p h few ok free) apart
