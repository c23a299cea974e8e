use Rattle.placed_images.proofs.EntryFaults.{near_entries}
use Rattle.placed_images.proofs.TypedPrograms.{program_typed}
use Rattle.placed_images.proofs.laws.patched_programs_are_typed.Goals as goal

pub returns-clause-typed : goal.returns-clause-typed
returns-clause-typed c = program_typed

pub returns-clause-near : goal.returns-clause-near
returns-clause-near c = λ ir m t p h few accepted ok. near_entries ir m t p (c.patched_programs_are_well_made.ensures ir m t p h few accepted ok) h
