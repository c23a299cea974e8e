use Rattle.std.proofs.Common.{◌≡◌, ◌++◌, ◌<◌, ◌^◌, drop}
use Rattle.asm_print.specs.Items.{data_lines}
use Rattle.asm_print.proofs.data.push_data.Given as goal

-- what was pushed, and what the rest will add
abbrev pub invariant-loop-offset : goal.invariant-loop-offset
invariant-loop-offset l = record {
  lines : l.out ++ data_lines l.here.context.now.module l.here.interval.now l.at l.bytes l.from (drop l.offset-index l.fillings) ≡ l.initial.out ++ data_lines l.here.context.now.module l.here.interval.now l.at l.bytes 0 l.fillings;
  small : l.from < 2 ^ 100;
}
