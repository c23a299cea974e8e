use Rattle.std.proofs.Common.{arith}
use Rattle.paged_memory.proofs.Places.{Shows-inner}
use Rattle.paged_memory.proofs.pages.Pages.run.Goals as goal

pub returns-clause-part : goal.returns-clause-part
returns-clause-part c =
    let has = c.in_ok-part.ensures.1 in
    let low = has.low in
    let high = has.high in
    let least = c.min.ensures in
    Shows-inner c.args.self.now.parts.items _ c.in_ok-part.part (record { at = c.args.at; count = c.min.result; start = _ }) c.in_ok-part.ensures.0 low (omega arith) (omega arith)
