use Rattle.std.proofs.Common.{◌≡◌, ◌++◌, ℕ, List, [], ◌∷◌, take}
use Rattle.std.specs.Option.{unwrap_or}
use Rattle.std.specs.Str.{bytes_eq}
use Rattle.indexmap.specs.IndexMap.{get}
use Rattle.moved_modules.specs.Targets.{targets_among}
use Rattle.moved_modules.proofs.targets.add_insert.Given as goal

abbrev pub invariant-loop-word : goal.invariant-loop-word
invariant-loop-word l = (id : List ℕ) → unwrap_or (get bytes_eq l.map id) []
    ≡ unwrap_or (get bytes_eq l.initial.map id) [] ++ targets_among (record { block = l.insert.block; offset = l.insert.offset; body = take l.word-index l.word-items } ∷ []) id
