use Rattle.std.proofs.Common.{◌≡◌}
use Rattle.node_arena.specs.Changes.{with_table}
use Rattle.node_arena.proofs.Tables.{after_first}
use Rattle.node_arena.proofs.setting.put_table.Given as goal

abbrev pub invariant-loop-k : goal.invariant-loop-k
invariant-loop-k l = record {
  same : l.tables.items ≡ l.fn.tables.items;
  rest : after_first l.name l.bytes l.k l.fn.tables.items ≡ with_table l.fn.tables.items l.name l.bytes;
}
