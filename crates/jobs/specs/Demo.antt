-- What `demo` makes of a seed and a number of blocks.
use Rattle.std.specs.Prelude.{ℕ, ◌+◌, ◌*◌, List, [], ◌++◌, codes, Some, Result, Ok}
use Rattle.aux_types.specs.Gives.{◌>>=◌}
use Rattle.std.specs.Fmt.{decimal}
use Rattle.demo_ir.specs.Code.{code_size, exit_status}
use Rattle.demo_ir.specs.Demo.{demo_ir}
use Rattle.gt_write.specs.Canonical.{canonical}
use Rattle.num_run.specs.declared.report.RunEnd.TheVariants.{Exit}
use Rattle.num_run.specs.declared.report.RunReport.{RunReport}
use Rattle.jobs.specs.declared.verdict.Finished.{Finished}
use Rattle.command_words.specs.declared.words.Settings.{Settings}
use Rattle.note_texts.specs.StateTexts.{state_text}
use Rattle.jobs.specs.declared.verdict.Refusal.{Refusal}
use Rattle.jobs.specs.Modules.{linked_up}
use Rattle.jobs.specs.Stages.{Stage, exactly}

-- the run of the generated program: two instructions of each block, the first one and the last two, and the sum's exit
abbrev pub demo_report : ℕ → ℕ → RunReport
demo_report seed blocks = record { steps = 2 * blocks + 3; end = Exit (exit_status seed blocks); output = [] }

-- how many blocks there are, how many bytes of code, and how the program runs
abbrev pub summary : ℕ → ℕ → List ℕ
summary seed blocks =
    codes "blocks=" ++ (decimal blocks ++ (codes " bytes=" ++ (decimal (code_size blocks) ++ (codes " " ++ state_text (demo_report seed blocks)))))

-- the generated IR is written canonically
abbrev pub demonstrated : ℕ → ℕ → Finished
demonstrated seed blocks = record { text = summary seed blocks; out = Some (canonical (demo_ir seed blocks)) }

-- the generated IR is linked up, and written
abbrev pub demo_made : ℕ → ℕ → Result Finished Refusal
demo_made seed blocks = linked_up (demo_ir seed blocks) >>= (λ ir. Ok (demonstrated seed blocks))

abbrev pub Demos : Settings → Stage Finished
Demos settings = exactly (demo_made settings.seed settings.blocks)
