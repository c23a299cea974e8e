use Rattle.std.proofs.Common.{◌≡◌, ◌++◌, drop}
use Rattle.std.specs.List.{flat_map}
use Rattle.block_parts.specs.declared.words.PatchedWord.{PatchedWord}
use Rattle.sym_expr.specs.Images.{bytes_of}
use Rattle.new_intervals.proofs.contents.push_words.Given as goal

abbrev pub invariant-loop-word : goal.invariant-loop-word
invariant-loop-word l = l.out.items ++ flat_map (λ (w : PatchedWord). bytes_of 4 w.word) (drop l.word-index l.words) ≡ l.fn.out.items ++ flat_map (λ (w : PatchedWord). bytes_of 4 w.word) l.words
