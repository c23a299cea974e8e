use Rattle.std.proofs.Common.{rules, tests}
use Rattle.std.proofs.lemmas.Iterator.{items_from_collect, YieldsList-from_slice}
use Rattle.std.proofs.lemmas.Iterator.Consumers.{YieldsList-from_filter_map}
use Rattle.sym_expr.specs.Program.{filling_at}
use Rattle.module_program.proofs.data.fillings.Goals as goal

pub returns : goal.returns
returns c =
    items_from_collect _ c.collect.ensures.ran
    (YieldsList-from_filter_map _ (filling_at c.args.context.now.module c.args.context.now.tables c.args.context.now.patches.now c.args.interval.now c.args.block.now)
    (YieldsList-from_slice c.args.exprs.now cc) c.filter_map.ensures.closure (λ x r q k. search (rules, tests)))
