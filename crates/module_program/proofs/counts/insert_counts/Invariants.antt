use Rattle.std.proofs.Common.{◌≡◌, ℕ, List, take}
use Rattle.module_program.specs.Inserting.{count_among}
use Rattle.module_program.specs.Naming.{count_in}
use Rattle.module_program.proofs.counts.insert_counts.Given as goal

abbrev pub invariant-loop-insert : goal.invariant-loop-insert
invariant-loop-insert l = (block : List ℕ) (offset : ℕ) → count_in l.counts block offset ≡ count_among (take l.insert-index l.inserts) block offset
