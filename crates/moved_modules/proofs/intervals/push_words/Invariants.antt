use Rattle.std.proofs.Common.{◌≡◌, ◌+◌, ◌*◌, ◌++◌, drop}
use Rattle.moved_modules.specs.Moved.{word_pieces}
use Rattle.moved_modules.proofs.intervals.push_words.Given as goal

abbrev pub invariant-loop-word : goal.invariant-loop-word
invariant-loop-word l = record {
  all : l.pieces.items ++ word_pieces l.from l.at (drop l.word-index l.words) ≡ l.initial.pieces.items ++ word_pieces l.from l.to l.words;
  at : l.at ≡ l.to + 4 * l.word-index;
}
