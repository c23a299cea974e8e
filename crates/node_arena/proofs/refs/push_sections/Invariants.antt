use Rattle.std.proofs.Common.{◌≡◌, ◌++◌, take}
use Rattle.std.specs.List.{flat_map}
use Rattle.node_arena.specs.Refs.{section_refs}
use Rattle.node_arena.specs.Stored.{arenas_of}
use Rattle.node_arena.proofs.refs.push_sections.Given as goal

abbrev pub invariant-loop-id : goal.invariant-loop-id
invariant-loop-id l = l.out.items ≡ l.initial.out.items ++ flat_map (section_refs (arenas_of l.arena)) (take l.id-index l.ids)
