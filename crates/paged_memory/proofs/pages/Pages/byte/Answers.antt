use Rattle.paged_memory.proofs.Stretches.{byte_read}
use Rattle.paged_memory.proofs.pages.Pages.byte.Goals as goal

pub returns : goal.returns
returns c = byte_read c.args.self.now.parts.items c.args.self.now.bytes.items c.args.at c.index.result.now c.in_ok-part.part c.in_ok-part.ensures.0 c.in_ok-part.ensures.1 c.index.ensures
