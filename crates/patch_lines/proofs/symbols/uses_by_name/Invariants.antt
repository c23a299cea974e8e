use Rattle.std.proofs.Common.{◌≡◌, ℕ, List, [], take}
use Rattle.std.specs.HashMap.{get_by_text}
use Rattle.std.specs.Option.{unwrap_or}
use Rattle.patch_lines.specs.Naming.{uses_named}
use Rattle.patch_lines.proofs.symbols.uses_by_name.Given as goal

abbrev pub invariant-loop-symbol : goal.invariant-loop-symbol
invariant-loop-symbol l = (q : List ℕ) → unwrap_or (get_by_text l.names q) [] ≡ uses_named (take l.symbol-index l.symbols) q
