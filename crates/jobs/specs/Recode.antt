-- What `recode` makes of its input.
use Rattle.std.specs.Prelude.{◌≡◌, ℕ, List, ◌++◌, length, codes, Some}
use Rattle.std.specs.Fmt.{decimal}
use Rattle.gt_model.specs.declared.ir.Ir.{Ir}
use Rattle.gt_read.specs.File.{file}
use Rattle.gt_write.specs.Canonical.{canonical}
use Rattle.command_words.specs.declared.role.Role.TheVariants.{In}
use Rattle.jobs.specs.declared.verdict.Finished.{Finished}
use Rattle.jobs.specs.Inputs.{Contents, bytes_in}
use Rattle.jobs.specs.Stages.{Stage, chain, just, meant}

-- the text of a job that is done: how many bytes it wrote
abbrev pub done_text : List ℕ → List ℕ
done_text out = codes "done bytes=" ++ decimal (length out)

-- a file is written, and the text says how long it is
abbrev pub written : List ℕ → Finished
written out = record { text = done_text out; out = Some out }

-- the file is written canonically
abbrev pub Recodes : Contents → Stage Finished
Recodes contents = chain (meant (bytes_in contents In)) (λ ir. just (written (canonical ir)))

-- the bytes are a file that means this IR and no other
pub record Means (bytes : List ℕ) (ir : Ir) : Type 0 where
  pub it : file bytes ir
  pub alone : (other : Ir) → file bytes other → other ≡ ir

-- what is written means what was read, and nothing else
abbrev pub ReadsBack : Contents → Type 0
ReadsBack contents = (ir : Ir) → file (bytes_in contents In) ir → Means (canonical ir) ir
