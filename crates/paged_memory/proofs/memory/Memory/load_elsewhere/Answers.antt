use Rattle.std.proofs.Common.{◌^◌, arith}
use Rattle.paged_memory.specs.Mapped.{stretch}
use Rattle.paged_memory.proofs.Stretches.{number_shown}
use Rattle.paged_memory.proofs.memory.Memory.load_elsewhere.Goals as goal

pub number-requires-clause-within : goal.number-requires-clause-within
number-requires-clause-within c =
    let pages = c.args.self.now.pages in
    let shows = rw c.byte_count.ensures.count at (c.in-Some.ensures pages.parts.items _ c.in_ok-look_up.ensures.part) in
    rw c.look_up.ensures.same (omega (arith, shows.within, pages.bytes.ok.0))

pub returns-in-Some-clause-number : goal.returns-in-Some-clause-number
returns-in-Some-clause-number c =
    let pages = c.args.self.now.pages in
    let shows = rw c.byte_count.ensures.count at (c.in-Some.ensures pages.parts.items _ c.in_ok-look_up.ensures.part) in
    number_shown pages.parts.items pages.bytes.items (stretch c.args.at (2 ^ c.args.size) c.in-Some.place) shows c.number.result (rw c.look_up.ensures.same at c.number.ensures.number)
