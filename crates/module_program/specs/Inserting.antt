-- What some of the inserts of patches put into a block.
use Rattle.std.specs.Prelude.{ℕ, List, length, filter, map}
use Rattle.std.specs.List.{flat_map}
use Rattle.std.specs.Str.{bytes_eq}
use Rattle.sym_expr.specs.declared.patches.Insert.{Insert}
use Rattle.sym_expr.specs.declared.patches.PatchWord.{PatchWord}
use Rattle.sym_expr.specs.Patches.{inserted_at}

-- the words with their offsets, in the order of the patches
abbrev pub inserted_among : List Insert → List ℕ → List (ℕ × PatchWord)
inserted_among inserts block =
    flat_map (λ (i : Insert). map (λ (w : PatchWord). (i.offset, w)) i.body) (filter (λ (i : Insert). bytes_eq i.block block) inserts)

-- how many there are at an offset
abbrev pub count_among : List Insert → List ℕ → ℕ → ℕ
count_among inserts block offset = length (inserted_at offset (inserted_among inserts block))
