use Rattle.repaired_programs.proofs.Calm.{calm_offset}
use Rattle.repaired_programs.proofs.Known.{all_known}
use Rattle.repaired_programs.proofs.Lists.{every_weaker}
use Rattle.repaired_programs.proofs.Stands.{IsKnown}
use Rattle.repaired_programs.proofs.laws.bytes_stay_without_words.Goals as goal

pub returns : goal.returns
returns c = λ ir m t p h few ok free.
    every_weaker (IsKnown m t p) _ (λ i known none a most. calm_offset m t p i known none a most) _
    (all_known ir m t p c.words_are_counted.ensures h (c.patched_programs_are_well_made.ensures ir m t p h few ok free))
