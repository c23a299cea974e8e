use Rattle.std.proofs.Common.{◌≡◌, arith, sym, ◌∙◌}
use Rattle.std.proofs.lemmas.Grind.{common_steps}
use Rattle.taken_ids.specs.NodeIds.{ir_ids}
use Rattle.taken_ids.proofs.NodeLists.{of_ir}
use Rattle.taken_ids.proofs.nodes.node_ids.Goals as goal

pub returns : goal.returns
returns c =
    let first : c.push_ir.new.out.items ≡ ir_ids c.args.ir.now = grind (arith, common_steps) in
    first ∙ sym (of_ir c.args.ir.now)
