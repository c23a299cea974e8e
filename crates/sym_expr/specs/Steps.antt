-- One instruction of a program on a symbolic machine (the rules are ours).
use Rattle.std.specs.Prelude.{[], Option, None, Some}
use Rattle.a64_inst.specs.declared.inst.Inst.{Inst}
use Rattle.a64_inst.specs.declared.trap.Trap.TheVariants as traps
use Rattle.a64_inst.specs.Domain.{trapped, ended, stuck, exec}
use Rattle.a64_inst.specs.Meaning.{ops}
use Rattle.a64_inst.specs.Table.{row}
use Rattle.sym_expr.specs.declared.cause.Cause.TheVariants.{Fell}
use Rattle.sym_expr.specs.declared.point.Point.{Point}
use Rattle.sym_expr.specs.Points.{reached, word_at}
use Rattle.sym_expr.specs.declared.program.Word.{Word}
use Rattle.sym_expr.specs.declared.program.Program.{Program}
use Rattle.sym_expr.specs.States.{State}
use Rattle.sym_expr.specs.Symbolic.{Outcome, symbolic}

-- what an instruction does, if the word is one
abbrev pub executed : Program → Option Inst → State → Outcome State
executed g None s = ended (trapped traps.Undecoded) s
executed g (Some inst) s = exec (symbolic g) (ops inst) [] s

-- what the word at a point does, if there is one
abbrev pub performed : Program → Point → Option Word → State → Outcome State
performed g at None s = stuck Fell
performed g at (Some w) s = executed g (row w.word) (record s { place = at; named = w.target })

-- one step, at the point that has the next word
unfoldable pub step : Program → State → Outcome State
step g s = performed g (reached g s.place) (word_at g (reached g s.place)) s
