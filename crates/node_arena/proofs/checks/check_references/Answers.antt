use Rattle.std.specs.List.{flat_map}
use Rattle.std.specs.Option.{option_to_list}
use Rattle.std.proofs.lemmas.Result.{err_from_is_err_and}
use Rattle.gt_model.specs.References.{references_from, cfg_references}
use Rattle.node_arena.specs.Checking.{kind_found}
use Rattle.node_arena.proofs.Faults.{fault-earlier, checks-later}
use Rattle.node_arena.proofs.checks.check_references.Goals as goal

pub returns-in_err-check_modules : goal.returns-in_err-check_modules
returns-in_err-check_modules c =
    let p = err_from_is_err_and c.from_residual.result c.from_residual.ensures.1 in
    let ir = c.args.ir.now in
    rw (p.1, p.2)
    (fault-earlier (kind_found c.args.arena.now c.args.index.now) (references_from 0 ir.modules) (flat_map (cfg_references ir.uuid) (option_to_list ir.cfg)) _
    (rw c.as_slice.ensures at c.in_err-check_modules.ensures))

pub returns : goal.returns
returns c =
    let ir = c.args.ir.now in
    checks-later c.args.arena.now c.args.index.now (references_from 0 ir.modules) (flat_map (cfg_references ir.uuid) (option_to_list ir.cfg)) c.check_flow.result
    (rw c.as_slice.ensures at c.in_ok-check_modules.ensures) c.check_flow.ensures
