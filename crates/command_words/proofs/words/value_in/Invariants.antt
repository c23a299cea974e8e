use Rattle.std.proofs.Common.{◌≡◌, drop}
use Rattle.command_words.specs.Words.{value_of}
use Rattle.command_words.proofs.words.value_in.Given as goal

-- what is left gives the name the same value
abbrev pub invariant-loop-word : goal.invariant-loop-word
invariant-loop-word l = value_of l.name l.words ≡ value_of l.name (drop l.word-index l.words)
