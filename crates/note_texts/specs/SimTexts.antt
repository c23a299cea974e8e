-- Where a symbolic run stands, in words.
use Rattle.std.specs.Prelude.{ℕ, List, ◌++◌, codes}
use Rattle.std.specs.Fmt.{decimal}
use Rattle.sym_expr.specs.declared.cause.Cause.{Cause}
use Rattle.sym_expr.specs.declared.cause.Cause.TheVariants as causes
use Rattle.sym_expr.specs.declared.point.Point.{Point}
use Rattle.sym_run.specs.declared.report.SymEnd.{SymEnd}
use Rattle.sym_run.specs.declared.report.SymEnd.TheVariants as ends
use Rattle.sym_run.specs.declared.report.SymReport.{SymReport}
use Rattle.note_texts.specs.FaultTexts.{id_text}
use Rattle.note_texts.specs.StateTexts.{trap_text}

-- why a program is stuck
abbrev pub cause_text : Cause → List ℕ
cause_text causes.Value = codes "value"
cause_text causes.Outside = codes "outside"
cause_text causes.Mixed = codes "mixed"
cause_text causes.Flag = codes "flag"
cause_text causes.Fell = codes "fell"
cause_text causes.Plain = codes "plain"
cause_text causes.Undefined = codes "undefined"

-- a point: its block, its offset, and how many of the words that are inserted there it has behind it
abbrev pub point_text : Point → List ℕ
point_text at = id_text at.block ++ (codes "+" ++ (decimal at.offset ++ (codes "." ++ decimal at.j)))

-- where a symbolic run stands
abbrev pub sim_end_text : SymEnd → List ℕ
sim_end_text ends.Running = codes "running"
sim_end_text (ends.Exit status) = codes "exit " ++ decimal status
sim_end_text (ends.Trap why) = codes "trap " ++ trap_text why
sim_end_text (ends.Stuck at cause) = codes "stuck " ++ (cause_text cause ++ (codes " at " ++ point_text at))

-- the state of a symbolic run: how many instructions it did, and where it stands
abbrev pub sim_text : SymReport → List ℕ
sim_text report = codes "steps=" ++ (decimal report.steps ++ (codes " " ++ sim_end_text report.end))
