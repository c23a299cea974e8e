use Rattle.std.proofs.Common.{◌≡◌, All, filter, map, take, drop}
use Rattle.std.specs.List.{flat_map}
use Rattle.sym_expr.specs.Images.{first_fault}
use Rattle.asm_link.specs.Linked.{interval_faults, is_some_bytes, segment_of}
use Rattle.asm_link.specs.Ready.{HasBytes}
use Rattle.asm_link.proofs.index.Index.segments.Given as goal

abbrev pub invariant-loop-interval : goal.invariant-loop-interval
invariant-loop-interval l = record {
  faults : first_fault (flat_map (interval_faults l.self.layout.now l.self.asm.now.labels) (drop l.interval-index l.self.asm.now.intervals)) ≡ first_fault (flat_map (interval_faults l.self.layout.now l.self.asm.now.labels) l.self.asm.now.intervals);
  segments : l.segments.items ≡ map (segment_of l.self.layout.now l.self.asm.now.labels) (filter is_some_bytes (take l.interval-index l.self.asm.now.intervals));
  small : All HasBytes l.segments.items;
}
