use Rattle.std.proofs.Common.{◌≡◌, All, filter, map, take, drop}
use Rattle.std.specs.List.{flat_map}
use Rattle.sym_expr.specs.Images.{first_fault, is_some_bytes, segment_of, stretch_faults}
use Rattle.link_image.specs.Ready.{HasBytes}
use Rattle.link_image.proofs.linker.Linker.segments.Given as goal

abbrev pub invariant-loop-stretch : goal.invariant-loop-stretch
invariant-loop-stretch l = record {
  faults : first_fault (flat_map (stretch_faults l.self.layout.now l.self.program.now) (drop l.stretch-index l.self.program.now.stretches)) ≡ first_fault (flat_map (stretch_faults l.self.layout.now l.self.program.now) l.self.program.now.stretches);
  segments : l.segments.items ≡ map (segment_of l.self.layout.now l.self.program.now) (filter is_some_bytes (take l.stretch-index l.self.program.now.stretches));
  small : All HasBytes l.segments.items;
}
