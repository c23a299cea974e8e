use Rattle.repaired_programs.proofs.Known.{all_known}
use Rattle.repaired_programs.proofs.Lists.{every_weaker}
use Rattle.repaired_programs.proofs.Quiet.{quiet_one}
use Rattle.repaired_programs.proofs.Stands.{IsKnown}
use Rattle.repaired_programs.proofs.laws.intervals_without_words_say_one.Goals as goal

pub returns : goal.returns
returns c = λ ir m t p l h few ok free.
    every_weaker (IsKnown m t p) _ (λ i known none exprs. quiet_one m t p l i c.words_are_of_images.ensures c.whole_blocks_are_one_part.ensures known none exprs) _
    (all_known ir m t p c.words_are_counted.ensures h (c.patched_programs_are_well_made.ensures ir m t p h few ok free))
