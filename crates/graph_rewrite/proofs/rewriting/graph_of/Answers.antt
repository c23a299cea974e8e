use Rattle.std.proofs.Common.{Err, ap, ◌∙◌}
use Rattle.std.specs.Option.{option_map}
use Rattle.node_arena.specs.Checking.{check_fault}
use Rattle.graph_rewrite.proofs.rewriting.graph_of.Goals as goal

pub unreachable-requires : goal.unreachable-requires
unreachable-requires c =
    let fault = c.from_ir.ensures.fault c.in-Err-Fault.field-0-0 (c.in-Err-Fault.is ∙ ap (λ e. Err e) c.in-Err-Fault.field-0-is) in
    let none = ap (option_map check_fault) ((c.linked_without_fault.ensures c.args.ir.now).1 c.requires.linked) in
    cc
