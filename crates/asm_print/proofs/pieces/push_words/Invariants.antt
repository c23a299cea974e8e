use Rattle.std.proofs.Common.{◌≡◌, ◌++◌, ◌+◌, ◌*◌, ◌<◌, ◌^◌, drop}
use Rattle.asm_print.specs.Items.{word_lines}
use Rattle.asm_print.proofs.pieces.push_words.Given as goal

-- what was pushed, and what the rest will add
abbrev pub invariant-loop-word : goal.invariant-loop-word
invariant-loop-word l = record {
  lines : l.out ++ word_lines l.here.context.now.module l.here.interval.now l.at (drop l.word-index l.words) ≡ l.initial.out ++ word_lines l.here.context.now.module l.here.interval.now l.start l.words;
  at : l.at ≡ l.start + 4 * l.word-index;
}
