use Rattle.std.proofs.Common.{◌++◌, drop}
use Rattle.asm_lines.specs.Texts.{cut}
use Rattle.asm_lines.proofs.Cutting.{AreCut}
use Rattle.asm_lines.proofs.cut.cut_word.Given as goal

abbrev pub invariant-loop-byte : goal.invariant-loop-byte
invariant-loop-byte l = AreCut (l.fn.texts ++ cut l.word) l.texts l.text l.place (drop l.byte-index l.word)
