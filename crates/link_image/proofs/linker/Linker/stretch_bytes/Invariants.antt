use Rattle.std.proofs.Common.{◌≡◌, ◌+◌, ◌++◌, drop}
use Rattle.std.specs.List.{flat_map}
use Rattle.sym_expr.specs.Images.{bytes_from, first_fault, piece_faults, stretch_bytes, stretch_faults}
use Rattle.sym_expr.specs.Placing.{Placed, end_from, placed_from, stretch_size}
use Rattle.link_image.specs.Ready.{shifted}
use Rattle.link_image.proofs.linker.Linker.stretch_bytes.Given as goal

abbrev pub invariant-loop-piece : goal.invariant-loop-piece
invariant-loop-piece l = record {
  inside : end_from l.end (drop l.piece-index l.stretch.pieces) ≡ stretch_size l.stretch;
  faults : first_fault (flat_map (λ (x : Placed). piece_faults l.self.layout.now l.self.program.now l.stretch x.at x.piece) (placed_from l.end (drop l.piece-index l.stretch.pieces))) ≡ first_fault (stretch_faults l.self.layout.now l.self.program.now l.stretch);
  bytes : l.out.items ++ bytes_from l.self.layout.now l.self.program.now (l.start + l.end) (shifted l.start (placed_from l.end (drop l.piece-index l.stretch.pieces))) ≡ stretch_bytes l.self.layout.now l.self.program.now l.stretch;
}
