-- A signed number goes through its bits and comes back.
use Rattle.std.proofs.Common.{rules, arith}
use Rattle.std.proofs.lemmas.Grind.{common_steps}
use Rattle.std.proofs.lemmas.Int.{to_z-of_z}
use mir.Syntax.{w32, w64}
use mir.Val.{SFits}
use Rattle.gt_model.proofs.modules.ModuleCopyIn.copy_in.Goals as goal

pub returns : goal.returns
returns c =
    let rebase_delta : SFits w64 c.args.self.now.rebase_delta = search rules in
    let file_format : SFits w32 c.args.self.now.file_format = search rules in
    let isa : SFits w32 c.args.self.now.isa = search rules in
    let byte_order : SFits w32 c.args.self.now.byte_order = search rules in
    simp to_z-of_z (grind (arith, common_steps))
