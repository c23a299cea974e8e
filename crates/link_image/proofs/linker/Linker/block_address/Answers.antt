use Rattle.std.proofs.Common.{Some, None}
use Rattle.link_image.proofs.Lookup.{block_at}
use Rattle.link_image.proofs.linker.Linker.block_address.Goals as goal

pub returns-in-Some : goal.returns-in-Some
returns-in-Some c = block_at c.args.self.now c.args.id.now c.requires (Some c.in-Some.block) c.in-Some.ensures.value

pub returns-in-None : goal.returns-in-None
returns-in-None c = block_at c.args.self.now c.args.id.now c.requires None c.in-None.ensures.value
