use Rattle.aux_tables.specs.ModuleTables.{tables_of}
use Rattle.rewritten_links.proofs.Typed.{stays_typed}
use Rattle.rewritten_links.proofs.laws.rewritten_irs_are_typed.Goals as goal

pub returns : goal.returns
returns c ir m p h few ok free =
    stays_typed c.parts_have_all_words.ensures ir m p h ok (c.patched_programs_are_well_made.ensures ir m (tables_of m) p h few ok (c.free_without_fault.ensures ir m p free))
