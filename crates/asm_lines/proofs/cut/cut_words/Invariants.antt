use Rattle.std.proofs.Common.{◌≡◌, ◌++◌, drop}
use Rattle.std.specs.List.{flat_map}
use Rattle.asm_lines.specs.Texts.{cut}
use Rattle.asm_lines.proofs.cut.cut_words.Given as goal

-- what was cut, and what is left to be
abbrev pub invariant-loop-word : goal.invariant-loop-word
invariant-loop-word l = l.fn.texts ++ flat_map cut l.words ≡ l.texts ++ flat_map cut (drop l.word-index l.words)
