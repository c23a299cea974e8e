use Rattle.sym_expr.specs.Patches.{no_patches}
use Rattle.placed_images.proofs.EntryFaults.{near_entries}
use Rattle.placed_images.proofs.TypedPrograms.{program_typed}
use Rattle.placed_images.proofs.laws.programs_are_typed.Goals as goal

pub returns-clause-typed : goal.returns-clause-typed
returns-clause-typed c = λ ir m t h. program_typed ir m t no_patches h (record { inserts = tt; words = tt; names = tt })

pub returns-clause-near : goal.returns-clause-near
returns-clause-near c = λ ir m t h. near_entries ir m t no_patches (c.programs_are_well_made.ensures ir m t h) h
