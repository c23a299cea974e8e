use Rattle.std.proofs.Common.{◌∙◌, ◌++◌, List, ℕ, length, drop, replicate, ap}
use Rattle.std.specs.Int.{from_le_bytes, w64}
use Rattle.std.proofs.lemmas.List.{drop-replicate}
use Rattle.cell_memory.proofs.Numbers.{number_of_eight}
use Rattle.cell_memory.proofs.reading.number_of.Goals as goal

pub returns : goal.returns
returns c =
    let bs : List ℕ = c.args.bytes.now in
    c.from_le_bytes.ensures
    ∙ ap (from_le_bytes w64) (ap (λ (xs : List ℕ). xs ++ drop (length bs) (replicate 8 0)) c.copy_from_slice.ensures.after ∙ ap (λ (ys : List ℕ). bs ++ ys) (drop-replicate (length bs) 8 0))
    ∙ number_of_eight bs c.requires
