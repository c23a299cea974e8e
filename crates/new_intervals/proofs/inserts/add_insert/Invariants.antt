use Rattle.std.proofs.Common.{◌≡◌, ◌++◌, ℕ, List, [], map, take}
use Rattle.std.specs.Prelude.{if◌then◌else◌}
use Rattle.std.specs.Option.{unwrap_or}
use Rattle.std.specs.Str.{bytes_eq}
use Rattle.indexmap.specs.IndexMap.{get}
use Rattle.new_intervals.specs.Bringing.{word_value}
use Rattle.new_intervals.proofs.inserts.add_insert.Given as goal

abbrev pub invariant-loop-word : goal.invariant-loop-word
invariant-loop-word l = (id : List ℕ) → unwrap_or (get bytes_eq l.values id) []
    ≡ unwrap_or (get bytes_eq l.initial.values id) [] ++ (if bytes_eq l.insert.block id then map (word_value l.module) (take l.word-index l.word-items) else [])
