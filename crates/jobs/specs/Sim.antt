-- What `sim` makes of a module, its patches, a layout and an input.
use Rattle.std.specs.Prelude.{ℕ, List, Option, Some, Result, Ok}
use Rattle.aux_types.specs.Gives.{◌>>=◌}
use Rattle.gt_model.specs.declared.ir.Ir.{Ir}
use Rattle.sym_expr.specs.declared.layout.Layout.{Layout as ALayout}
use Rattle.sym_expr.specs.declared.program.Program.{Program}
use Rattle.sym_expr.specs.Placing.{shape_of}
use Rattle.sym_run.specs.declared.report.SymReport.{SymReport}
use Rattle.sym_run.specs.Run.{sym_run}
use Rattle.command_words.specs.declared.role.Role.TheVariants as roles
use Rattle.jobs.specs.declared.verdict.Finished.{Finished}
use Rattle.jobs.specs.declared.verdict.Refusal.{Refusal}
use Rattle.note_texts.specs.SimTexts.{sim_text}
use Rattle.jobs.specs.Inputs.{Contents, bytes_in}
use Rattle.jobs.specs.Linking.{laid, link_made}
use Rattle.command_words.specs.Picked.{Picked}
use Rattle.jobs.specs.Programs.{Programs}
use Rattle.jobs.specs.Stages.{Stage, chain, exactly, meant}

-- the output of a symbolic run is written, and the text says where it stands
abbrev pub simulated : SymReport → Finished
simulated report = record { text = sim_text report; out = Some report.output }

-- the symbolic run of a program that can be linked under the layout, with the layout's stack
abbrev pub sim_made : Program → ALayout → List ℕ → ℕ → Result Finished Refusal
sim_made g layout input steps = link_made g layout >>= (λ linked. Ok (simulated (sym_run g layout.stack_size input steps)))

-- a program is run beside the layout of a text, or the default one where there is none
abbrev pub SimsProgram : Option (List ℕ) → List ℕ → ℕ → Program → Stage Finished
SimsProgram text input steps g = chain (laid text (shape_of g)) (λ layout. exactly (sim_made g layout input steps))

-- the same of the program that is asked for
abbrev pub SimsIr : Picked → Contents → Ir → Stage Finished
SimsIr asked contents ir =
    chain (Programs asked (contents roles.Patch) ir) (λ g. SimsProgram (contents roles.Layout) (bytes_in contents roles.Input) asked.settings.steps g)

-- `sim`: the symbolic run of the program of the module and its patches
abbrev pub Sims : Picked → Contents → Stage Finished
Sims asked contents = chain (meant (bytes_in contents roles.In)) (λ ir. SimsIr asked contents ir)
