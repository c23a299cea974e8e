use Rattle.std.proofs.Common.{◌≡◌, ◌++◌, drop}
use Rattle.std.specs.List.{flat_map}
use Rattle.sym_expr.specs.declared.patches.PatchWord.{PatchWord}
use Rattle.sym_expr.specs.Images.{bytes_of}
use Rattle.sym_expr.specs.TableOk.{function_words, line_words}
use Rattle.new_intervals.proofs.functions.function_bytes.Given as goal

abbrev pub invariant-loop-line : goal.invariant-loop-line
invariant-loop-line l = l.out.items ++ flat_map (λ (w : PatchWord). bytes_of 4 w.word) (flat_map line_words (drop l.line-index l.line-items)) ≡ flat_map (λ (w : PatchWord). bytes_of 4 w.word) (function_words l.function)
