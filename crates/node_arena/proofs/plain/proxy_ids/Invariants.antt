use Rattle.std.proofs.Common.{◌≡◌, map, take}
use Rattle.node_arena.specs.Plain.{proxy_id}
use Rattle.node_arena.specs.Stored.{arenas_of}
use Rattle.node_arena.proofs.plain.proxy_ids.Given as goal

abbrev pub invariant-loop-id : goal.invariant-loop-id
invariant-loop-id l = l.proxies.items ≡ map (proxy_id (arenas_of l.arena)) (take l.id-index l.ids)
