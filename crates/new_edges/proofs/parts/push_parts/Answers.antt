use Rattle.std.proofs.Common.{◌+◌, ap, ◌∙◌}
use Rattle.std.specs.Option.{option_copied}
use Rattle.new_edges.proofs.PartEnds.{part_step}
use Rattle.new_edges.proofs.parts.push_parts.Goals as goal

pub loop-part-preserved : goal.loop-part-preserved
loop-part-preserved c =
    let m = c.args.context.now.module.now in
    let p = c.args.context.now.patches.now in
    let b = c.args.block.now in
    record {
      number = ap (λ n. n + 1) c.loop-part.invariant.number;
      rest =
          part_step m p b.id c.as_slice-part-items.result.now b.parts c.loop-part.part-index c.loop-part.k c.part-item.result c.loop-part.edges.items c.push_part.new.edges.items (option_copied c.get-next.result)
          c.as_slice-part-items.ensures c.loop-part.invariant.number c.loop-part-test.true c.part-item.is c.get-next.ensures.value c.in_ok-push_part.ensures
          ∙ c.loop-part.invariant.rest;
    }
