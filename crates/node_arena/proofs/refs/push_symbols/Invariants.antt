use Rattle.std.proofs.Common.{◌≡◌, ◌++◌, map, take}
use Rattle.node_arena.specs.declared.ids.NodeRef.TheVariants as refs
use Rattle.node_arena.proofs.refs.push_symbols.Given as goal

abbrev pub invariant-loop-id : goal.invariant-loop-id
invariant-loop-id l = l.out.items ≡ l.initial.out.items ++ map (λ id. refs.Symbol id) (take l.id-index l.ids)
