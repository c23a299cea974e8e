use Rattle.std.proofs.Common.{◌≡◌, ℕ, List, [], take}
use Rattle.std.specs.HashMap.{get_by_text}
use Rattle.std.specs.Option.{unwrap_or}
use Rattle.std.specs.Str.{bytes_eq}
use Rattle.indexmap.specs.IndexMap.{get}
use Rattle.asm_print.specs.Names.{labels_behind, named, value_at}
use Rattle.asm_print.proofs.labels.labels.Given as goal

abbrev pub invariant-loop-symbol : goal.invariant-loop-symbol
invariant-loop-symbol l = record {
  counts : (q : List ℕ) → unwrap_or (get_by_text l.counts q) 0 ≡ named q (take l.symbol-index l.symbols);
  labels : (q : List ℕ) → get bytes_eq l.labels q ≡ value_at bytes_eq q (labels_behind [] (take l.symbol-index l.symbols));
}
