use Rattle.std.proofs.lemmas.Result.{err_from_is_err_and}
use Rattle.gt_model.specs.References.{symbol_references}
use Rattle.node_arena.specs.Checking.{kind_found}
use Rattle.node_arena.proofs.Faults.{none-at, fault-at}
use Rattle.node_arena.proofs.checks.check_symbols.Goals as goal

pub loop-symbol-preserved : goal.loop-symbol-preserved
loop-symbol-preserved c =
    let within = c.loop-symbol-test.true in
    let item = c.symbol-item.is in
    none-at (kind_found c.args.arena.now c.args.index.now) (symbol_references c.args.parent.index) c.args.symbols.now c.loop-symbol.symbol-index c.symbol-item.result within item c.loop-symbol.invariant
    c.in_ok-check_symbol.ensures

pub returns-in_err-check_symbol : goal.returns-in_err-check_symbol
returns-in_err-check_symbol c =
    let within = c.loop-symbol-test.true in
    let item = c.symbol-item.is in
    let p = err_from_is_err_and c.from_residual.result c.from_residual.ensures.1 in
    rw (p.1, p.2)
    (fault-at (kind_found c.args.arena.now c.args.index.now) (symbol_references c.args.parent.index) c.args.symbols.now c.loop-symbol.symbol-index c.symbol-item.result within item c.loop-symbol.invariant
    _ c.in_err-check_symbol.ensures)
