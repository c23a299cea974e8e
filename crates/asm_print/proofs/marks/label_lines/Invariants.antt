use Rattle.std.proofs.Common.{◌≡◌, ℕ, List, [], take}
use Rattle.std.specs.Prelude.{filter}
use Rattle.std.specs.List.{flat_map}
use Rattle.std.specs.Option.{unwrap_or}
use Rattle.indexmap.specs.IndexMap.{get}
use Rattle.gt_model.specs.declared.symbols.Symbol.{Symbol}
use Rattle.asm_print.specs.Items.{is_at, label_line}
use Rattle.asm_print.specs.Names.{place_of, same_place}
use Rattle.asm_print.proofs.marks.label_lines.Given as goal

abbrev pub invariant-loop-symbol : goal.invariant-loop-symbol
invariant-loop-symbol l = (q : List ℕ × ℕ) → unwrap_or (get same_place l.lines q) [] ≡ flat_map (label_line l.module) (filter (λ (s : Symbol). is_at q (place_of l.module s)) (take l.symbol-index l.symbol-items))
