use Rattle.std.proofs.lemmas.List.Sorted.{All-permutation}
use Rattle.link_image.specs.Ready.{HasBytes}
use Rattle.link_image.proofs.Lists.{at_item}
use Rattle.link_image.proofs.Parts.{AreGood, Fits, all_fit, all_good}
use Rattle.link_image.proofs.linker.Linker.segments.Goals as goal

pub push_segment-requires-clause-fits : goal.push_segment-requires-clause-fits
push_segment-requires-clause-fits c =
    at_item (Fits c.args.self.now.layout.now) c.args.self.now.program.now.stretches c.loop-stretch.stretch-index c.stretch-item.result (rw c.as_slice-stretch-items.ensures at c.loop-stretch-test.true) (rw c.as_slice-stretch-items.ensures at c.stretch-item.is) (all_fit c.args.self.now.layout.now c.args.self.now.program.now c.requires.accepted)

pub push_segment-requires-clause-pieces : goal.push_segment-requires-clause-pieces
push_segment-requires-clause-pieces c =
    at_item (AreGood c.args.self.now.program.now) c.args.self.now.program.now.stretches c.loop-stretch.stretch-index c.stretch-item.result (rw c.as_slice-stretch-items.ensures at c.loop-stretch-test.true) (rw c.as_slice-stretch-items.ensures at c.stretch-item.is) (all_good c.args.self.now.program.now c.requires.well)

pub returns-clause-small : goal.returns-clause-small
returns-clause-small c = All-permutation HasBytes c.loop-stretch.segments.items c.sort_by_address.new.segments.items c.in_ok-sort_by_address.ensures.same c.loop-stretch.invariant.small
