-- The module that a job is about, and what `check` makes of it.
use Rattle.std.specs.Prelude.{◌≡◌, ℕ, pos, List, [], ◌++◌, codes, length, slice_get, if◌then◌else◌, Option, None, Some, Result, Ok, Err}
use Rattle.std.specs.Option.{option_map, option_map_or}
use Rattle.std.specs.Fmt.{decimal}
use Rattle.aux_types.specs.Gives.{◌>>=◌}
use Rattle.gt_model.specs.declared.ir.Ir.{Ir}
use Rattle.gt_model.specs.declared.modules.Module.{Module}
use Rattle.gt_model.specs.Linked.{link_fault as fault_of_links}
use Rattle.ir_check.specs.declared.profile.Plain.{Plain}
use Rattle.ir_check.specs.declared.profile.Plain.TheVariants as plain
use Rattle.ir_check.specs.declared.profile.Profile.{Profile}
use Rattle.ir_check.specs.declared.report.CheckReport.{CheckReport}
use Rattle.ir_check.specs.Faults.{check_fault}
use Rattle.ir_check.specs.Report.{report_of}
use Rattle.node_arena.specs.Checking as arena
use Rattle.node_arena.specs.declared.fault.CheckFault.TheVariants.{NoModule}
use Rattle.command_words.specs.declared.role.Role.TheVariants as roles
use Rattle.jobs.specs.declared.verdict.Finished.{Finished}
use Rattle.jobs.specs.declared.verdict.Refusal.{Refusal}
use Rattle.jobs.specs.declared.verdict.Refusal.TheVariants.{Check}
use Rattle.jobs.specs.Inputs.{Contents, bytes_in}
use Rattle.command_words.specs.Numbers.{is_every, flags_of}
use Rattle.command_words.specs.Picked.{Picked}
use Rattle.jobs.specs.Stages.{Stage, chain, exactly, meant}

-- a value where there is no fault, and else the refusal that the fault makes
abbrev pub unless : {F T : Type 0} → (F → Refusal) → Option F → T → Result T Refusal
unless refusal None value = Ok value
unless refusal (Some fault) value = Err (refusal fault)

-- the flags that a word says are plain: none without it
abbrev pub plain_text : List ℕ → Plain
plain_text text = if is_every text then plain.All else plain.These (flags_of text)

abbrev pub plain_of : Option (List ℕ) → Plain
plain_of word = option_map_or plain_text word (plain.These [])

-- what a module must be
abbrev pub profile_of : Picked → Profile
profile_of asked = record { isa = pos asked.settings.isa; plain = plain_of asked.plain }

-- the IR, where it is well linked
abbrev pub linked_up : Ir → Result Ir Refusal
linked_up ir = unless Check (option_map arena.check_fault (fault_of_links ir)) ir

-- the module of an ordinal
abbrev pub module_in : ℕ → Ir → Result Module Refusal
module_in k ir = option_map_or Ok (slice_get ir.modules k) (Err (Check (NoModule (length ir.modules))))

-- the module, where nothing is wrong with it
abbrev pub checked_module : Profile → Module → Result Module Refusal
checked_module profile m = unless Check (check_fault profile m) m

-- the module that is asked for, where nothing is wrong with it
abbrev pub passing_module : Picked → Ir → Result Module Refusal
passing_module asked ir = module_in asked.settings.ordinal ir >>= (λ m. checked_module (profile_of asked) m)

-- the same of an IR that is well linked: it has a program
abbrev pub program_module : Picked → Ir → Result Module Refusal
program_module asked ir = linked_up ir >>= (λ x. passing_module asked x)

-- the text of a check: how much there is of everything
abbrev pub nodes_text : CheckReport → List ℕ
nodes_text r =
    codes "ok sections=" ++ (decimal r.sections ++ (codes " intervals=" ++ (decimal r.intervals ++ (codes " blocks=" ++ (decimal r.blocks
    ++ (codes " symbols=" ++ decimal r.symbols))))))

abbrev pub report_text : CheckReport → List ℕ
report_text r =
    nodes_text r ++ (codes " exprs=" ++ (decimal r.exprs ++ (codes " edges=" ++ (decimal r.edges ++ (codes " tables=" ++ (decimal r.tables
    ++ (codes " opaque=" ++ decimal r.opaque)))))))

abbrev pub told : CheckReport → Finished
told r = record { text = report_text r; out = None }

-- `check`: the report of the module
abbrev pub check_made : Picked → Ir → Result Finished Refusal
check_made asked ir = program_module asked ir >>= (λ m. Ok (told (report_of ir m)))

abbrev pub Checks : Picked → Contents → Stage Finished
Checks asked contents = chain (meant (bytes_in contents roles.In)) (λ ir. exactly (check_made asked ir))
