use Rattle.std.proofs.lemmas.List.Sorted.{All-permutation}
use Rattle.asm_link.specs.Ready.{HasBytes}
use Rattle.asm_link.proofs.Lists.{at_item}
use Rattle.asm_link.proofs.Parts.{HasItems, all_items}
use Rattle.asm_link.proofs.Places.{Fits, all_fit}
use Rattle.asm_link.proofs.index.Index.segments.Goals as goal

pub push_segment-requires-clause-fits : goal.push_segment-requires-clause-fits
push_segment-requires-clause-fits c =
    at_item (Fits c.args.self.now.layout.now) c.args.self.now.asm.now.intervals c.loop-interval.interval-index c.interval-item.result (rw c.as_slice-interval-items.ensures at c.loop-interval-test.true) (rw c.as_slice-interval-items.ensures at c.interval-item.is) (all_fit c.args.self.now.layout.now c.args.self.now.asm.now c.requires.accepted)

pub push_segment-requires-clause-items : goal.push_segment-requires-clause-items
push_segment-requires-clause-items c =
    at_item HasItems c.args.self.now.asm.now.intervals c.loop-interval.interval-index c.interval-item.result (rw c.as_slice-interval-items.ensures at c.loop-interval-test.true) (rw c.as_slice-interval-items.ensures at c.interval-item.is) (all_items c.args.self.now.asm.now.intervals c.requires.ok.intervals)

pub returns-clause-small : goal.returns-clause-small
returns-clause-small c = All-permutation HasBytes c.loop-interval.segments.items c.sort_by_address.new.segments.items c.in_ok-sort_by_address.ensures.same c.loop-interval.invariant.small
