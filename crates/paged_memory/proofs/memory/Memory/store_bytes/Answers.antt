use Rattle.std.proofs.Common.{length, sym, arith}
use Rattle.paged_memory.specs.Mapped.{stretch}
use Rattle.paged_memory.proofs.Memories.{found_shows}
use Rattle.paged_memory.proofs.Stretches.{all_shown, put_shown}
use Rattle.paged_memory.proofs.memory.Memory.store_bytes.Goals as goal

pub put-requires : goal.put-requires
put-requires c =
    let shows = found_shows c.args.self.now c.slot.result c.args.at (length c.args.bytes.now) c.in-Some.place c.index.result.now c.requires.memory c.slot.ensures c.index.ensures c.in-Some.ensures in
    omega (arith, shows.within, c.args.self.now.pages.bytes.ok.0)

pub returns-in-Some-clause-mapped : goal.returns-in-Some-clause-mapped
returns-in-Some-clause-mapped c =
    let pages = c.args.self.now.pages in
    let shows = found_shows c.args.self.now c.slot.result c.args.at (length c.args.bytes.now) c.in-Some.place c.index.result.now c.requires.memory c.slot.ensures c.index.ensures c.in-Some.ensures in
    sym (all_shown pages.parts.items pages.bytes.items (stretch c.args.at (length c.args.bytes.now) c.in-Some.place) shows)

pub returns-in-Some-clause-bytes : goal.returns-in-Some-clause-bytes
returns-in-Some-clause-bytes c =
    let pages = c.args.self.now.pages in
    let shows = found_shows c.args.self.now c.slot.result c.args.at (length c.args.bytes.now) c.in-Some.place c.index.result.now c.requires.memory c.slot.ensures c.index.ensures c.in-Some.ensures in
    rw (c.put.ensures.parts, c.put.ensures.bytes) (put_shown pages.parts.items pages.bytes.items c.args.at c.in-Some.place c.args.bytes.now c.requires.memory.pages shows)
