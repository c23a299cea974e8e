use Rattle.edge_repair.specs.Repaired.{repaired_module}
use Rattle.repaired_programs.specs.Named.{IsOneStretch}
use Rattle.repaired_programs.specs.Programs.{repaired_program}
use Rattle.rewrite.specs.Places.{moved_tables}
use Rattle.sym_expr.specs.Program.{program}
use Rattle.repaired_programs.proofs.Rewritten.{entry_at, program_new}
use Rattle.repaired_programs.proofs.Shapes.{keeps_shape}
use Rattle.repaired_programs.proofs.Together.{same_image, same_link_fault}
use Rattle.repaired_programs.proofs.Zipped.{sections_zip}
use Rattle.repaired_programs.proofs.laws.images_follow_intervals.Goals as goal

pub returns-clause-images : goal.returns-clause-images
returns-clause-images c = λ ir m t p l h few ok free apart own brought.
    let made = c.patched_programs_are_well_made.ensures ir m t p h few ok free in
    let named = c.words_are_of_images.ensures in
    let one = c.whole_blocks_are_one_part.ensures in
    let count = c.words_are_counted.ensures in
    same_image l (repaired_program m t p) (program m t p) named m made (count (program m t p)) (keeps_shape ir m t p count h made) (program_new ir m t p named one count h ok.typed made)
    (sections_zip (IsOneStretch l (repaired_program m t p) (program m t p)) m t p (repaired_module m t p) (moved_tables m t p) m.sections own brought)
    (entry_at ir m t p l named one count h ok.typed made apart)

pub returns-clause-faults : goal.returns-clause-faults
returns-clause-faults c = λ ir m t p l h few ok free own brought.
    let made = c.patched_programs_are_well_made.ensures ir m t p h few ok free in
    let named = c.words_are_of_images.ensures in
    let one = c.whole_blocks_are_one_part.ensures in
    let count = c.words_are_counted.ensures in
    same_link_fault l (repaired_program m t p) (program m t p) named m made (count (program m t p)) (keeps_shape ir m t p count h made) (program_new ir m t p named one count h ok.typed made)
    (sections_zip (IsOneStretch l (repaired_program m t p) (program m t p)) m t p (repaired_module m t p) (moved_tables m t p) m.sections own brought)
