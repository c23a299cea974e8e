use Rattle.std.proofs.Common.{List, [], ap, ◌∙◌}
use Rattle.std.specs.Str.{bytes_eq}
use Rattle.gt_model.specs.declared.symbols.Symbol.{Symbol}
use Rattle.asm_print.specs.Names.{labels_behind, value_at}
use Rattle.asm_print.proofs.context.Context.new.Goals as goal

pub returns-clause-known : goal.returns-clause-known
returns-clause-known c = record {
  labels = λ id. c.in_ok-labels.ensures id ∙ ap (λ (ss : List Symbol). value_at bytes_eq id (labels_behind [] ss)) c.as_slice.ensures;
  lines = λ q. c.in_ok-lines.ensures q;
}
