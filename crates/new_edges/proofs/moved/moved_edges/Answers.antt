use Rattle.std.proofs.Common.{◌∷◌, [], ◌++◌, sym, ap, ◌∙◌}
use Rattle.std.specs.List.{filter_map}
use Rattle.std.specs.Str.{bytes_eq}
use Rattle.indexmap.specs.IndexMap.{get}
use Rattle.new_edges.proofs.Lists.{kept_more}
use Rattle.new_edges.proofs.moved.moved_edges.Goals as goal
use Rattle.new_edges.specs.Leaving.{edge_moved}

pub loop-edge-preserved : goal.loop-edge-preserved
loop-edge-preserved c =
    let f = edge_moved (get bytes_eq c.args.leaving.now) in
    let x = c.edge-item.result in
    c.in_ok-push_moved.ensures
    ∙ ap (λ l. l ++ filter_map f (x ∷ [])) c.loop-edge.invariant
    ∙ sym (kept_more f c.args.edges.now c.loop-edge.edge-index x c.loop-edge-test.true c.edge-item.is)
