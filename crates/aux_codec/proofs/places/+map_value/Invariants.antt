use Rattle.std.proofs.Common.{map}
use Rattle.aux_codec.specs.Value.{value_of, entry_of}
use Rattle.aux_codec.proofs.Replacing.{UpTo, IsReplaced, IsEntryReplaced}
use Rattle.aux_codec.proofs.places.+map_value.Given as goal

abbrev pub invariant-map_each-loop-member : goal.invariant-map_each-loop-member
invariant-map_each-loop-member g l = goal.unvisited-map_each-loop-member g l × UpTo (IsReplaced (g.P.Places.placed l.to)) l.member-index (map value_of l.initial.members) (map value_of l.members)

abbrev pub invariant-map_entries-loop-pair : goal.invariant-map_entries-loop-pair
invariant-map_entries-loop-pair g l = goal.unvisited-map_entries-loop-pair g l × UpTo (IsEntryReplaced (g.P.Places.placed l.to)) l.pair-index (map entry_of l.initial.pairs) (map entry_of l.pairs)
