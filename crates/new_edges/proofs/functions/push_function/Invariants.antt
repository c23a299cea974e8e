use Rattle.std.proofs.Common.{◌≡◌, ◌++◌, drop}
use Rattle.std.specs.List.{flat_map}
use Rattle.new_edges.specs.Functions.{ends_from}
use Rattle.new_edges.specs.NewEnds.{edges_of}
use Rattle.new_edges.proofs.functions.push_function.Given as goal

abbrev pub invariant-loop-last : goal.invariant-loop-last
invariant-loop-last l = record {
  number : l.k ≡ l.last-index;
  rest : l.edges.items ++ flat_map edges_of (ends_from l.context.module.now l.function l.count l.k (drop l.last-index l.last-items))
      ≡ l.initial.edges.items ++ flat_map edges_of (ends_from l.context.module.now l.function l.count 0 l.last-items);
}
