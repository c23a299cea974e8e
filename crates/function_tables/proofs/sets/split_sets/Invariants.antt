use Rattle.std.proofs.Common.{◌≡◌, map, drop, take}
use Rattle.aux_codec.specs.Value.{entry_of, entries}
use Rattle.edge_repair.specs.Sets.{sets_with_parts}
use Rattle.function_tables.specs.Functions.{HasFewParts}
use Rattle.function_tables.specs.Later.{later_of}
use Rattle.function_tables.proofs.Members.{entries_before}
use Rattle.function_tables.proofs.sets.split_sets.Given as goal

abbrev pub invariant-loop-pair : goal.invariant-loop-pair
invariant-loop-pair l = record {
  made : entries_before (map entry_of l.made.items) (sets_with_parts (later_of l.later) (entries (map entry_of (drop l.pair-index l.pairs)))) ≡ sets_with_parts (later_of l.later) (entries (map entry_of l.pairs));
  few : HasFewParts (later_of l.later) (entries (map entry_of (take l.pair-index l.pairs)));
}
