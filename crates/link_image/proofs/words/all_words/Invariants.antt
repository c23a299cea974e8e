use Rattle.std.proofs.Common.{◌≡◌, ◌*◌, ◌++◌, drop}
use Rattle.sym_expr.specs.Images.{all_words, words_from}
use Rattle.link_image.proofs.words.all_words.Given as goal

abbrev pub invariant-loop-word : goal.invariant-loop-word
invariant-loop-word l = record {
  at : l.offset ≡ 4 * l.word-index;
  rest : l.words.items ++ words_from l.block l.offset (drop l.word-index l.block.own) ≡ all_words l.block;
}
