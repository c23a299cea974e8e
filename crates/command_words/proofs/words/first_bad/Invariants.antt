use Rattle.command_words.specs.Words.{FineBelow}
use Rattle.command_words.proofs.words.first_bad.Given as goal

-- the words so far keep the rules
abbrev pub invariant-loop-index : goal.invariant-loop-index
invariant-loop-index l = FineBelow l.words l.index
