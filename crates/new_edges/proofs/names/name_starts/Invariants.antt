use Rattle.std.proofs.Common.{◌≡◌, ℕ, List, take}
use Rattle.std.specs.HashMap.{get_by_text}
use Rattle.new_edges.specs.Names.{start_among}
use Rattle.new_edges.proofs.names.name_starts.Given as goal

abbrev pub invariant-loop-function : goal.invariant-loop-function
invariant-loop-function l = (q : List ℕ) → get_by_text l.names q ≡ start_among l.module (take l.function-index l.functions) q
