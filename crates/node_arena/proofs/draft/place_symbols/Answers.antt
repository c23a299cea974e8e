use Rattle.std.proofs.Common.{◌∙◌}
use Rattle.std.proofs.lemmas.List.{take_more}
use Rattle.node_arena.proofs.Placed.{map-more, symbol-put}
use Rattle.node_arena.proofs.draft.place_symbols.Goals as goal

pub loop-symbol-preserved : goal.loop-symbol-preserved
loop-symbol-preserved c =
    rw (take_more c.args.from.now c.loop-symbol.symbol-index c.symbol-item.result c.loop-symbol-test.true, ← c.symbol-item.is)
    record {
      nodes = symbol-put _ _ _ _ _ c.loop-symbol.symbols.items _ _ _ _ c.loop-symbol.invariant.nodes (c.len.ensures ∙ c.loop-symbol.symbols.ok.0)
          c.in_ok-push.ensures.items c.in_ok-push-3.ensures.items (c.in_ok-from_str.ensures ∙ c.as_str.ensures);
      payloads = map-more _ _ _ _ c.loop-symbol.payloads.items _ c.loop-symbol.invariant.payloads c.in_ok-push-2.ensures.items;
    }
