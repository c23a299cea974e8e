-- Where a run of an image stands, in words.
use Rattle.std.specs.Prelude.{ℕ, List, ◌++◌, codes}
use Rattle.std.specs.Fmt.{decimal}
use Rattle.a64_inst.specs.declared.trap.Trap.{Trap}
use Rattle.a64_inst.specs.declared.trap.Trap.TheVariants as traps
use Rattle.num_run.specs.declared.report.RunEnd.{RunEnd}
use Rattle.num_run.specs.declared.report.RunEnd.TheVariants as ends
use Rattle.num_run.specs.declared.report.RunReport.{RunReport}

-- why a machine stopped
abbrev pub trap_text : Trap → List ℕ
trap_text traps.Undecoded = codes "undecoded"
trap_text (traps.Break n) = codes "break " ++ decimal n
trap_text (traps.Udf n) = codes "udf " ++ decimal n
trap_text traps.BadCall = codes "call"
trap_text traps.Fault = codes "fault"
trap_text traps.OutputFull = codes "output"

-- where a run stands
abbrev pub end_text : RunEnd → List ℕ
end_text ends.Running = codes "running"
end_text (ends.Exit status) = codes "exit " ++ decimal status
end_text (ends.Trap why) = codes "trap " ++ trap_text why

-- the state of a run: how many instructions it did, and where it stands
abbrev pub state_text : RunReport → List ℕ
state_text report = codes "steps=" ++ (decimal report.steps ++ (codes " " ++ end_text report.end))
