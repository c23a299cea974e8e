use Rattle.repaired_programs.proofs.Targets.{target_one}
use Rattle.repaired_programs.proofs.laws.symbols_keep_what_they_name.Goals as goal

pub returns : goal.returns
returns c = λ ir m t p l h few ok free apart.
    target_one ir m t p l c.words_are_of_images.ensures c.whole_blocks_are_one_part.ensures c.words_are_counted.ensures h ok.typed (c.patched_programs_are_well_made.ensures ir m t p h few ok free) (c.programs_are_well_made.ensures ir m t h) apart
