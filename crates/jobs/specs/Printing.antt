-- What `print` makes of a module and its patches.
use Rattle.std.specs.Prelude.{ℕ, List, Option, None, Some, Result, Ok}
use Rattle.asm_print.specs.Printed.{printed_module}
use Rattle.aux_tables.specs.ModuleTables.{tables_of}
use Rattle.edge_repair.specs.Repaired.{repaired_module}
use Rattle.gt_model.specs.declared.ir.Ir.{Ir}
use Rattle.gt_model.specs.declared.modules.Module.{Module}
use Rattle.sym_expr.specs.declared.patches.PatchTable.{PatchTable}
use Rattle.taken_ids.specs.Faults.{id_fault}
use Rattle.command_words.specs.declared.role.Role.TheVariants as roles
use Rattle.command_words.specs.Picked.{Picked}
use Rattle.jobs.specs.declared.verdict.Finished.{Finished}
use Rattle.jobs.specs.declared.verdict.Refusal.{Refusal}
use Rattle.jobs.specs.declared.verdict.Refusal.TheVariants.{Rewrite}
use Rattle.jobs.specs.Inputs.{Contents, bytes_in}
use Rattle.jobs.specs.Modules.{program_module, unless}
use Rattle.jobs.specs.Programs.{patches_in}
use Rattle.jobs.specs.Recode.{written}
use Rattle.jobs.specs.Stages.{Stage, chain, exactly, meant}

-- the assembly text of a module is written
abbrev pub text_written : Module → Finished
text_written m = written (printed_module m)

-- that of the module with the patches in it, where no identifier that they derive is taken
abbrev pub text_free : Ir → Module → PatchTable → Result Finished Refusal
text_free ir m p = unless Rewrite (id_fault ir m p) (text_written (repaired_module m (tables_of m) p))

-- that of the module with the patches of a text
abbrev pub PrintsPatched : Ir → List ℕ → Module → Stage Finished
PrintsPatched ir text m = chain (patches_in text m) (λ p. exactly (text_free ir m p))

-- the same, or that of the module alone where there is no text of patches
abbrev pub PrintsModule : Ir → Option (List ℕ) → Module → Stage Finished
PrintsModule ir None m = exactly (Ok (text_written m))
PrintsModule ir (Some text) m = PrintsPatched ir text m

abbrev pub PrintsIr : Picked → Contents → Ir → Stage Finished
PrintsIr asked contents ir = chain (exactly (program_module asked ir)) (λ m. PrintsModule ir (contents roles.Patch) m)

-- `print`: the module that is asked for is written as assembly, with its patches
abbrev pub Prints : Picked → Contents → Stage Finished
Prints asked contents = chain (meant (bytes_in contents roles.In)) (λ ir. PrintsIr asked contents ir)
