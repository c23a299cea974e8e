use Rattle.std.proofs.Common.{◌≡◌, ◌++◌, map, take}
use Rattle.std.specs.List.{flat_map}
use Rattle.sym_expr.specs.TableOk.{line_labels}
use Rattle.taken_ids.specs.Identifiers.{symbol_id}
use Rattle.taken_ids.proofs.functions.push_labels.Given as goal

abbrev pub invariant-loop-line : goal.invariant-loop-line
invariant-loop-line l = l.out.items ≡ l.initial.out.items ++ map (symbol_id l.module) (flat_map line_labels (take l.line-index l.line-items))
