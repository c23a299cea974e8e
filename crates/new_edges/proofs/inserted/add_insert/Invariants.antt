use Rattle.std.proofs.Common.{◌≡◌, ◌++◌, ℕ, List, [], ◌∷◌, take}
use Rattle.new_edges.specs.Knowing.{branches_among, branches_in}
use Rattle.new_edges.proofs.inserted.add_insert.Given as goal

abbrev pub invariant-loop-word : goal.invariant-loop-word
invariant-loop-word l = (id : List ℕ) → branches_in l.map id
    ≡ branches_in l.initial.map id ++ branches_among l.context.module.now l.context.patches.now (record { block = l.insert.block; offset = l.insert.offset; body = take l.word-index l.word-items } ∷ []) id
