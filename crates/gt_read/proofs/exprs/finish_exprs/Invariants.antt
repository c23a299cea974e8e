use Rattle.std.proofs.Common.{◌≡◌, ◌++◌, map}
use Rattle.gt_model.specs.Views.{expr_entry}
use Rattle.gt_read.specs.Drafts.Views.{expr_held, expr_finished}
use Rattle.gt_read.specs.Drafts.Draft.{map_fault}
use Rattle.gt_read.specs.Identifiers.{earlier}
use Rattle.gt_read.proofs.exprs.finish_exprs.Given as goal

-- the expressions so far and those that are left are all of them
abbrev pub invariant-loop-at : goal.invariant-loop-at
invariant-loop-at l = record {
  items : map expr_entry l.items.items ++ map expr_finished l.at-iterator ≡ map expr_finished l.fn.exprs.entries;
  fault : earlier l.worst (map_fault (map expr_held l.at-iterator)) ≡ map_fault (map expr_held l.fn.exprs.entries);
}
