use Rattle.std.proofs.Common.{◌≡◌, ◌+◌, ◌*◌, ◌++◌, drop}
use Rattle.std.specs.List.{filter_map}
use Rattle.sym_expr.specs.Images.{first_fault, word_fault, words_at}
use Rattle.link_image.specs.Bytes.{words_bytes}
use Rattle.link_image.proofs.linker.Linker.push_words.Given as goal

abbrev pub invariant-loop-word : goal.invariant-loop-word
invariant-loop-word l = record {
  at : l.offset ≡ l.at + 4 * l.word-index;
  faults : first_fault (filter_map (word_fault l.self.layout.now l.self.program.now l.stretch) (words_at l.offset (drop l.word-index l.words))) ≡ first_fault (filter_map (word_fault l.self.layout.now l.self.program.now l.stretch) (words_at l.at l.words));
  bytes : l.out.items ++ words_bytes l.self.layout.now l.self.program.now (l.start + l.offset) (drop l.word-index l.words) ≡ l.fn.out.items ++ words_bytes l.self.layout.now l.self.program.now (l.start + l.at) l.words;
}
