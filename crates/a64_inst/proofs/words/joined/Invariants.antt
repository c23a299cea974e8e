use Rattle.std.proofs.Common.{drop}
use Rattle.a64_inst.specs.Pieces.{joined_pieces}
use Rattle.a64_inst.proofs.Joining.{Joins}
use Rattle.a64_inst.proofs.words.joined.Given as goal

abbrev pub invariant-loop-width : goal.invariant-loop-width
invariant-loop-width l = Joins l.place (drop l.width-index l.pieces) l.word (joined_pieces 32 l.pieces)
