use Rattle.std.proofs.Common.{◌≡◌, ◌++◌, length}
use Rattle.asm_print.specs.Items.{hex_lines}
use Rattle.asm_print.proofs.lines.push_hex_lines.Given as goal

-- what was pushed, and what the rest will add
abbrev pub invariant-loop-rest : goal.invariant-loop-rest
invariant-loop-rest l = l.out ++ hex_lines (length l.rest) l.rest ≡ l.initial.out ++ hex_lines (length l.bytes) l.bytes

abbrev pub decreases-loop-rest : goal.decreases-loop-rest
decreases-loop-rest l = length l.rest
