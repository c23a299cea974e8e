-- The program that a job is about: that of a module, or of a module and the patches of a text.
use Rattle.std.specs.Prelude.{◌≡◌, ℕ, List, Option, None, Some, Result, Ok, Err}
use Rattle.gt_model.specs.declared.ir.Ir.{Ir}
use Rattle.gt_model.specs.declared.modules.Module.{Module}
use Rattle.module_program.specs.Graphs.{patched_in, program_in}
use Rattle.patch_lines.specs.declared.fault.PatchFault.{PatchFault}
use Rattle.patch_table.specs.PatchText.{patch_text}
use Rattle.sym_expr.specs.declared.patches.PatchTable.{PatchTable}
use Rattle.sym_expr.specs.declared.program.Program.{Program}
use Rattle.taken_ids.specs.Faults.{id_fault}
use Rattle.command_words.specs.Picked.{Picked}
use Rattle.jobs.specs.declared.verdict.Refusal.{Refusal}
use Rattle.jobs.specs.declared.verdict.Refusal.TheVariants.{Patch, Rewrite}
use Rattle.jobs.specs.Modules.{program_module, unless}
use Rattle.jobs.specs.Stages.{Stage, chain, exactly}

-- the patches that a text says of the module, or the first thing that is wrong in it
abbrev pub patches_in : List ℕ → Module → Stage PatchTable
patches_in text m (Ok patches) = patch_text text m (Ok patches)
patches_in text m (Err refusal) = (fault : PatchFault) × (refusal ≡ Patch fault) × patch_text text m (Err fault)

-- the program of a module and of patches, where no identifier that they derive is taken
abbrev pub free_program : Ir → Module → PatchTable → Result Program Refusal
free_program ir m p = unless Rewrite (id_fault ir m p) (patched_in m p)

-- the program of a module and of the patches of a text
abbrev pub PatchedProgram : Ir → List ℕ → Module → Stage Program
PatchedProgram ir text m = chain (patches_in text m) (λ p. exactly (free_program ir m p))

-- the same, or that of the module alone where there is no text
abbrev pub ModuleProgram : Ir → Option (List ℕ) → Module → Stage Program
ModuleProgram ir None m = exactly (Ok (program_in m))
ModuleProgram ir (Some text) m = PatchedProgram ir text m

-- the same of the module that is asked for
abbrev pub Programs : Picked → Option (List ℕ) → Ir → Stage Program
Programs asked text ir = chain (exactly (program_module asked ir)) (λ m. ModuleProgram ir text m)
