use Rattle.graph_rows.proofs.settings.set_no_exprs.Goals as goal
use Rattle.graph_rows.proofs.Exprs.{none_ordered}

pub set_exprs-requires-clause-order : goal.set_exprs-requires-clause-order
set_exprs-requires-clause-order c = none_ordered c.new.result c.new.ensures
