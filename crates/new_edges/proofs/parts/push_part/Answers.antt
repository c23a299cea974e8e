use Rattle.std.proofs.Common.{◌++◌, ap, sym, ◌∙◌}
use Rattle.std.specs.Option.{option_copied}
use Rattle.edge_repair.specs.Ends.{part_end}
use Rattle.new_edges.proofs.Ends.{edges_seen, part_is_seen}
use Rattle.new_edges.proofs.parts.push_part.Goals as goal
use Rattle.new_edges.specs.NewEnds.{edges_of}

pub returns : goal.returns
returns c =
    let m = c.args.context.now.module.now in
    let p = c.args.context.now.patches.now in
    let id = c.args.block.now.id in
    let q = c.args.part.now in
    let next = option_copied c.args.next in
    c.in_ok-push_edges.ensures
    ∙ ap (λ e. c.args.edges.now.items ++ edges_of e) (c.in_ok-end.ensures ∙ part_is_seen m p id c.args.news.now q next c.requires)
    ∙ ap (λ l. c.args.edges.now.items ++ l) (edges_seen m p (part_end m p id q next))
