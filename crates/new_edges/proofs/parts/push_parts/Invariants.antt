use Rattle.std.proofs.Common.{◌≡◌, ◌++◌, drop}
use Rattle.std.specs.List.{flat_map}
use Rattle.edge_repair.specs.Edges.{end_edges}
use Rattle.edge_repair.specs.Ends.{part_ends}
use Rattle.new_edges.specs.Parts.{block_edges}
use Rattle.new_edges.proofs.parts.push_parts.Given as goal

abbrev pub invariant-loop-part : goal.invariant-loop-part
invariant-loop-part l = record {
  number : l.k ≡ l.part-index;
  rest : l.edges.items ++ flat_map (end_edges l.context.module.now l.context.patches.now) (part_ends l.context.module.now l.context.patches.now l.block.id (drop l.part-index l.block.parts))
      ≡ l.initial.edges.items ++ block_edges l.context.module.now l.context.patches.now l.block;
}
