use Rattle.repaired_programs.proofs.AllWords.{all_words_one}
use Rattle.repaired_programs.proofs.laws.intervals_with_words_name_one.Goals as goal

pub returns : goal.returns
returns c = λ ir m t p l h few ok free aims.
    all_words_one ir m t p l c.words_are_of_images.ensures c.words_are_counted.ensures h ok.typed (c.patched_programs_are_well_made.ensures ir m t p h few ok free) aims
