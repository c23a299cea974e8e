use Rattle.std.proofs.Common.{◌≡◌, ◌≤◌, None, length, drop}
use Rattle.std.specs.List.{filter_map}
use Rattle.sym_expr.specs.Images.{filling_fault, first_fault, with_fillings}
use Rattle.link_image.proofs.linker.Linker.data_bytes.Given as goal

abbrev pub invariant-loop-left : goal.invariant-loop-left
invariant-loop-left l = record {
  within : l.left ≤ length l.block.fillings;
  len : length l.bytes.items ≡ length l.block.bytes;
  fault : l.first ≡ first_fault (filter_map (filling_fault l.self.layout.now l.self.program.now l.stretch l.at) (drop l.left l.block.fillings));
  bytes : l.first ≡ None → l.bytes.items ≡ with_fillings l.self.layout.now l.self.program.now (drop l.left l.block.fillings) l.block.bytes;
}

abbrev pub decreases-loop-left : goal.decreases-loop-left
decreases-loop-left l = l.left
