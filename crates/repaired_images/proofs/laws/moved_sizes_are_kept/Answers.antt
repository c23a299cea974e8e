use Rattle.aux_tables.specs.ModuleTables.{tables_of}
use Rattle.repaired_images.proofs.Free.{free_of}
use Rattle.repaired_images.proofs.Grows.{all_grow}
use Rattle.repaired_images.proofs.Moves.{all_sizes_kept}
use Rattle.repaired_images.proofs.laws.moved_sizes_are_kept.Goals as goal

pub returns : goal.returns
returns c = λ ir m p h none good.
    all_sizes_kept ir m p h (free_of ir m p none) (λ i k. all_grow c.bytes_keep_their_order.ensures c.pieces_have_the_old_bytes.ensures ir m (tables_of m) p i h k) good
