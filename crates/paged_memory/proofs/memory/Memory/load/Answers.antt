use Rattle.std.proofs.Common.{◌^◌, arith}
use Rattle.paged_memory.specs.Mapped.{stretch}
use Rattle.paged_memory.proofs.Memories.{found_shows}
use Rattle.paged_memory.proofs.Stretches.{number_shown}
use Rattle.paged_memory.proofs.memory.Memory.load.Goals as goal

pub number-requires-clause-within : goal.number-requires-clause-within
number-requires-clause-within c =
    let shows = rw c.byte_count.ensures.count at (found_shows c.args.self.now c.slot.result c.args.at c.byte_count.result c.in-Some.place c.index.result.now c.requires.memory c.slot.ensures c.index.ensures c.in-Some.ensures) in
    omega (arith, shows.within, c.args.self.now.pages.bytes.ok.0)

pub returns-in-Some-clause-number : goal.returns-in-Some-clause-number
returns-in-Some-clause-number c =
    let pages = c.args.self.now.pages in
    let shows = rw c.byte_count.ensures.count at (found_shows c.args.self.now c.slot.result c.args.at c.byte_count.result c.in-Some.place c.index.result.now c.requires.memory c.slot.ensures c.index.ensures c.in-Some.ensures) in
    number_shown pages.parts.items pages.bytes.items (stretch c.args.at (2 ^ c.args.size) c.in-Some.place) shows c.number.result c.number.ensures.number
