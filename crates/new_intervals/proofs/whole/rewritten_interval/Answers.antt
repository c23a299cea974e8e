use Rattle.std.proofs.Common.{sym, ◌∙◌}
use Rattle.new_intervals.proofs.Ends.{grown, same}
use Rattle.new_intervals.proofs.Tight.{tight}
use Rattle.new_intervals.proofs.whole.rewritten_interval.Goals as goal

pub stretched-requires : goal.stretched-requires
stretched-requires c = tight c.words_are_counted.ensures c.args.stretch.now c.requires.part

pub returns-then-not-has_words : goal.returns-then-not-has_words
returns-then-not-has_words c = λ t e. c.in_ok-copy.ensures ∙ same c.args.inserts.now c.args.old.now c.requires.known t (sym c.has_words.ensures ∙ c.if-not-has_words.true)

pub returns : goal.returns
returns c = grown c.args.inserts.now c.args.old.now c.requires.known c.args.stretch.now c.in_ok-made.made c.requires.part c.in_ok-made.ensures (sym c.has_words.ensures ∙ c.if-not-has_words.false)
