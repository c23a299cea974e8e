use Rattle.std.proofs.Common.{arith}
use Rattle.paged_memory.specs.Mapped.{stretch}
use Rattle.paged_memory.proofs.Places.{Shows-inner}
use Rattle.paged_memory.proofs.part.Part.place.Goals as goal

pub returns-then-count-self : goal.returns-then-count-self
returns-then-count-self c parts size shows = Shows-inner parts size c.args.self.now (stretch c.args.at c.args.count _) shows (omega arith) (omega arith) (omega arith)
