use Rattle.block_parts.specs.Parts.{part}
use Rattle.block_parts.specs.Words.{patched_words}
use Rattle.taken_ids.proofs.Lists.{no_later}
use Rattle.taken_ids.proofs.derived.push_block.Goals as goal

pub returns-then-is_empty : goal.returns-then-is_empty
returns-then-is_empty c =
    let b = c.args.block.now in
    no_later c.args.module.now b (part 0 (patched_words b)) c.args.out.now.items (c.whole_blocks_are_one_part.ensures b (c.is_empty.ensures.0 c.if-is_empty.true))
