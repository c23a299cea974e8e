use Rattle.aux_tables.specs.ModuleTables.{tables_of}
use Rattle.repaired_images.proofs.laws.one_shape.Goals as goal

pub returns : goal.returns
returns c = λ ir m p h few ok none. c.repaired_programs_keep_the_shape.ensures ir m (tables_of m) p h few ok (c.free_without_fault.ensures ir m p none)
