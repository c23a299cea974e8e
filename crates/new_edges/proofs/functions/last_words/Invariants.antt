use Rattle.std.proofs.Common.{◌≡◌, drop}
use Rattle.new_edges.specs.Functions.{all_lasts, lasts_of}
use Rattle.new_edges.proofs.functions.last_words.Given as goal

abbrev pub invariant-loop-line : goal.invariant-loop-line
invariant-loop-line l = all_lasts l.context.module.now l.context.patches.now l.lasts (drop l.line-index l.line-items) ≡ lasts_of l.context.module.now l.context.patches.now l.function
