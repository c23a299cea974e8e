use Rattle.repaired_programs.proofs.Shapes.{keeps_shape}
use Rattle.repaired_programs.proofs.laws.repaired_programs_keep_the_shape.Goals as goal

pub returns : goal.returns
returns c = λ ir m t p h few ok free. keeps_shape ir m t p c.words_are_counted.ensures h (c.patched_programs_are_well_made.ensures ir m t p h few ok free)
