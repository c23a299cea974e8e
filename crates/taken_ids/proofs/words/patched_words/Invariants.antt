use Rattle.std.proofs.Common.{◌≡◌, ◌*◌, ◌++◌, drop}
use Rattle.block_parts.specs.Words.{numbered, patched_words, words_from}
use Rattle.taken_ids.proofs.words.patched_words.Given as goal

abbrev pub invariant-loop-word : goal.invariant-loop-word
invariant-loop-word l = record {
  at : l.offset ≡ 4 * l.word-index;
  rest : l.words.items ++ words_from (numbered 0 l.block.inserted) l.offset (drop l.word-index l.block.own) ≡ patched_words l.block;
}
