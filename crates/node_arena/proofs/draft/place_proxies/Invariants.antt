use Rattle.std.proofs.Common.{take}
use Rattle.node_arena.specs.Placing.{PlacedProxies}
use Rattle.node_arena.proofs.draft.place_proxies.Given as goal

abbrev pub invariant-loop-uuid : goal.invariant-loop-uuid
invariant-loop-uuid l = PlacedProxies l.parent.index (take l.uuid-index l.from) l.initial.proxies.items l.ids.items l.proxies.items
