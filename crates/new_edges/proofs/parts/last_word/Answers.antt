use Rattle.std.proofs.Common.{◌∙◌}
use Rattle.new_edges.proofs.PartEnds.{last_at}
use Rattle.new_edges.proofs.parts.last_word.Goals as goal

pub returns-in-Some : goal.returns-in-Some
returns-in-Some c = c.in-Some.ensures.value ∙ last_at c.args.words.now

pub returns-in-None : goal.returns-in-None
returns-in-None c = c.in-None.ensures.value ∙ last_at c.args.words.now
