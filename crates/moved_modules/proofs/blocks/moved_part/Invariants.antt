use Rattle.std.proofs.Common.{◌≡◌, map, take}
use Rattle.block_parts.specs.declared.words.PatchedWord.{PatchedWord}
use Rattle.moved_modules.specs.Targets.{word_from}
use Rattle.moved_modules.proofs.blocks.moved_part.Given as goal

abbrev pub invariant-loop-word : goal.invariant-loop-word
invariant-loop-word l = l.words.items ≡ map (λ (w : PatchedWord). word_from l.targets w.origin) (take l.word-index l.own)
