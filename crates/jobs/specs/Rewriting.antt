-- What `rewrite` makes of a module and its patches.
use Rattle.std.specs.Prelude.{ℕ, List, Option, None, Some, Result, Ok}
use Rattle.aux_tables.specs.ModuleTables.{tables_of}
use Rattle.edge_repair.specs.Repaired.{repaired}
use Rattle.gt_model.specs.declared.ir.Ir.{Ir}
use Rattle.gt_model.specs.declared.modules.Module.{Module}
use Rattle.gt_read.specs.File.{file}
use Rattle.gt_write.specs.Canonical.{canonical}
use Rattle.sym_expr.specs.declared.patches.PatchTable.{PatchTable}
use Rattle.sym_expr.specs.Patches.{no_patches}
use Rattle.taken_ids.specs.Faults.{id_fault}
use Rattle.command_words.specs.declared.role.Role.TheVariants as roles
use Rattle.command_words.specs.Picked.{Picked}
use Rattle.jobs.specs.declared.verdict.Finished.{Finished}
use Rattle.jobs.specs.declared.verdict.Refusal.{Refusal}
use Rattle.jobs.specs.declared.verdict.Refusal.TheVariants.{Rewrite}
use Rattle.jobs.specs.Inputs.{Contents, bytes_in}
use Rattle.jobs.specs.Modules.{program_module, unless}
use Rattle.jobs.specs.Programs.{patches_in}
use Rattle.jobs.specs.Recode.{Means, written}
use Rattle.jobs.specs.Stages.{Stage, chain, exactly, just, meant}

-- the patches of a text, none where there is no text
abbrev pub patches_of : Option (List ℕ) → Module → Stage PatchTable
patches_of None m = exactly (Ok no_patches)
patches_of (Some text) m = patches_in text m

-- the IR with the patches in its module, where no identifier that they derive is taken
abbrev pub repaired_free : Ir → Module → PatchTable → Result Ir Refusal
repaired_free ir m p = unless Rewrite (id_fault ir m p) (repaired ir m (tables_of m) p)

abbrev pub RepairsModule : Ir → Option (List ℕ) → Module → Stage Ir
RepairsModule ir text m = chain (patches_of text m) (λ p. exactly (repaired_free ir m p))

-- the same of the module that is asked for
abbrev pub Repairs : Picked → Option (List ℕ) → Ir → Stage Ir
Repairs asked text ir = chain (exactly (program_module asked ir)) (λ m. RepairsModule ir text m)

abbrev pub RewritesIr : Picked → Contents → Ir → Stage Finished
RewritesIr asked contents ir = chain (Repairs asked (contents roles.Patch) ir) (λ new. just (written (canonical new)))

-- `rewrite`: the IR with the patches in its module is written canonically
abbrev pub Rewrites : Picked → Contents → Stage Finished
Rewrites asked contents = chain (meant (bytes_in contents roles.In)) (λ ir. RewritesIr asked contents ir)

-- what is written of an IR means it with the patches in its module, and nothing else
pub record MeansRepaired (asked : Picked) (contents : Contents) (ir : Ir) : Type 0 where
  pub new : Ir
  pub repairs : Repairs asked (contents roles.Patch) ir (Ok new)
  pub alone : Means (canonical new) new

-- so of the IR that the file means
pub record RewritesFile (asked : Picked) (contents : Contents) : Type 0 where
  pub ir : Ir
  pub means : file (bytes_in contents roles.In) ir
  pub of_ir : MeansRepaired asked contents ir
