use Rattle.std.proofs.Common.{◌≡◌, ◌+◌, ◌*◌, ◌++◌, drop}
use Rattle.new_intervals.specs.Bringing.{brought_values}
use Rattle.new_intervals.proofs.exprs.push_words.Given as goal

abbrev pub invariant-loop-word : goal.invariant-loop-word
invariant-loop-word l = record {
  at : l.offset ≡ l.at + 4 * l.word-index;
  rest : l.out.items ++ brought_values l.values l.offset (drop l.word-index l.words) ≡ l.fn.out.items ++ brought_values l.values l.at l.words;
}
