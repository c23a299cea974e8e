use Rattle.std.proofs.Common.{◌≡◌, ℕ, List, take}
use Rattle.new_edges.specs.Knowing.{branches_among, branches_in}
use Rattle.new_edges.proofs.inserted.branches_by_block.Given as goal

abbrev pub invariant-loop-insert : goal.invariant-loop-insert
invariant-loop-insert l = (id : List ℕ) → branches_in l.map id ≡ branches_among l.context.module.now l.context.patches.now (take l.insert-index l.insert-items) id
