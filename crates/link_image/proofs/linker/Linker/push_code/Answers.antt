use Rattle.std.proofs.Common.{arith, refl}
use Rattle.link_image.proofs.AllWords.{own_words, length-all_words, all_words_have}
use Rattle.link_image.proofs.linker.Linker.push_code.Goals as goal

pub push_words-requires-else-is_empty-clause-fits : goal.push_words-requires-else-is_empty-clause-fits
push_words-requires-else-is_empty-clause-fits c = rw c.deref.ensures.value (rw c.in_ok-words.ensures (omega (arith, length-all_words c.args.self.now.program.now c.args.block.now c.requires.code)))

pub push_words-requires-else-is_empty-clause-words : goal.push_words-requires-else-is_empty-clause-words
push_words-requires-else-is_empty-clause-words c = rw c.deref.ensures.value (rw c.in_ok-words.ensures (all_words_have c.args.self.now.program.now c.args.block.now c.requires.code))

pub returns-then-is_empty-clause-fault : goal.returns-then-is_empty-clause-fault
returns-then-is_empty-clause-fault c = rw (own_words c.args.block.now 0 c.args.block.now.own (c.if-is_empty.ensures.0 refl)) (rw c.as_slice.ensures at c.push_words.ensures.fault)

pub returns-then-is_empty-clause-bytes : goal.returns-then-is_empty-clause-bytes
returns-then-is_empty-clause-bytes c = rw (own_words c.args.block.now 0 c.args.block.now.own (c.if-is_empty.ensures.0 refl)) (rw c.as_slice.ensures at c.push_words.ensures.bytes)
