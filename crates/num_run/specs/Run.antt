-- Runs of the numeric machine, and what is seen of them.
use Rattle.std.specs.Prelude.{ℕ, ◌+◌, ◌%◌, false, ◌==◌, if◌then◌else◌, List, [], ◌∷◌, replicate, Option, Some, None}
use Rattle.a64_inst.specs.declared.inst.Inst.{Inst}
use Rattle.a64_inst.specs.declared.trap.Trap.TheVariants as traps
use Rattle.a64_inst.specs.Domain.{exit, trapped, ended, exec}
use Rattle.a64_inst.specs.Meaning.{ops}
use Rattle.a64_inst.specs.Runs.{Standing, going, over, halted, Run, run}
use Rattle.a64_inst.specs.Table.{row}
use Rattle.bare_image.specs.declared.image.Image.{Image}
use Rattle.num_run.specs.declared.report.RunEnd.{RunEnd}
use Rattle.num_run.specs.declared.report.RunEnd.TheVariants as ends
use Rattle.num_run.specs.declared.report.RunReport.{RunReport}
use Rattle.paged_memory.specs.Mapping.{byte_in, stack_of, word_at}
use Rattle.num_run.specs.Machine.{Machine}
use Rattle.num_run.specs.Numeric.{Outcome, numeric}

-- the word at the place, which is a multiple of 4 and mapped
abbrev pub fetched : Machine → Option ℕ
fetched m = if m.place % 4 == 0 then word_at m.memory m.place else None

-- what an instruction does, if the word is one
abbrev pub executed : Option Inst → Machine → Outcome Machine
executed None m = ended (trapped traps.Undecoded) m
executed (Some inst) m = exec numeric (ops inst) [] m

-- what a word does, if there is one
abbrev pub performed : Option ℕ → Machine → Outcome Machine
performed None m = ended (trapped traps.Fault) m
performed (Some word) m = executed (row word) m

-- one step
unfoldable pub step : Machine → Outcome Machine
step m = performed (fetched m) m

-- the machine before the first instruction of an image
abbrev pub start : Image → List ℕ → Machine
start image input = record {
  registers = replicate 31 0;
  stack_pointer = image.stack_at + image.stack_size;
  flags = record { n = false; z = false; c = false; v = false };
  memory = byte_in (stack_of image ∷ image.segments);
  place = image.entry;
  input = input;
  output = [];
}

-- how a run stands, as its report tells
abbrev pub end_of : Standing ⊥ → RunEnd
end_of going = ends.Running
end_of (over (exit status)) = ends.Exit status
end_of (over (trapped why)) = ends.Trap why
end_of (halted cause) = absurd cause

-- what is seen of a run
abbrev pub seen : Run ⊥ Machine → RunReport
seen r = record { steps = r.done; end = end_of r.standing; output = r.state.output }

-- what is seen of the run of an image with this input after so many steps
abbrev pub num_run : Image → List ℕ → ℕ → RunReport
num_run image input steps = seen (run step steps (start image input))
