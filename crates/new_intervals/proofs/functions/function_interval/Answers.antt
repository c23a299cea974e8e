use Rattle.std.proofs.Common.{List, ℕ, ap, ◌∙◌}
use Rattle.new_intervals.proofs.Assembled.{function_is}
use Rattle.sym_expr.specs.Derived.{derived, interval_text}
use Rattle.new_intervals.proofs.functions.function_interval.Goals as goal

pub returns : goal.returns
returns c =
    function_is c.args.module.now c.args.function.now c.in_ok-uuid.uuid c.in_ok-blocks.blocks c.in_ok-exprs.exprs c.len-size.result c.in_ok-contents.contents
    (c.in_ok-uuid.ensures ∙ ap (λ (name : List ℕ). derived c.args.module.now.uuid (interval_text name)) c.as_str.ensures) c.in_ok-blocks.ensures c.in_ok-exprs.ensures c.len-size.ensures c.in_ok-contents.ensures
